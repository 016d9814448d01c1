-- A column as one number, a packed number: its first byte counts least. Assumes nothing.
use Rattle.std.specs.Prelude.{◌≡◌, Bool, cond, ◌&&◌, List, [], ◌∷◌, ℕ, zero, suc, ◌+◌, ◌-◌, ◌*◌, ◌/◌, ◌%◌, ◌^◌, ◌<◌, eqb, leb, ltb, pos, replicate}
use Rattle.format.specs.Column.{written}

unfoldable pub packed : List ℕ → ℕ
packed [] = 0
packed (b ∷ bs) = b + 256 * packed bs

-- and back: so many bytes
unfoldable pub unpacked : (width p : ℕ) → List ℕ
unpacked zero p = []
unpacked (suc w) p = p % 256 ∷ unpacked w (p / 256)

-- each is below 256, as every byte is
abbrev pub Small : List ℕ → Type 0
Small [] = Unit {0}
Small (b ∷ bs) = (b < 256) × Small bs

-- n is these bytes as one number, and each is below 256
pub record Packs (bs : List ℕ) (n : ℕ) : Type 0 where
  pub is : n ≡ packed bs
  pub small : Small bs

-- the written form of a number in seven bytes; 256 ^ 7, which no seven bytes are, where it does not fit
unfoldable pub packed_number : ℕ → ℕ
packed_number n = cond (leb n 9999999) (packed (written 7 (pos n))) (256 ^ 7)

-- the last byte of another number's, raised by the difference, is at most 57, that of the digit 9
unfoldable pub is_raised : (number other of_other : ℕ) → Bool
is_raised n m p = leb m n && leb (p / 256 ^ 6 + (n - m)) 57

-- the written form of a number from that of another one, of which the last digit is raised where that is enough
unfoldable pub packed_near : (number other of_other : ℕ) → ℕ
packed_near n m p = cond (eqb n m) p (cond (is_raised n m p) (p + (n - m) * 256 ^ 6) (packed_number n))

-- The written form of a number that fits so many bytes, in two parts. First 48, the byte of the digit 0, for each of its digits, and spaces in front
unfoldable pub zeros_part : (width n : ℕ) → ℕ
zeros_part zero n = 0
zeros_part (suc w) n = cond (ltb n 10) (packed (replicate w 32)) (zeros_part w (n / 10)) + 256 ^ w * 48

-- then the digits
unfoldable pub digits_part : (width n : ℕ) → ℕ
digits_part zero n = 0
digits_part (suc w) n = digits_part w (n / 10) + 256 ^ w * (n % 10)
