-- Columns as numbers: equal exactly where the bytes are, and the written form of a number so. Assumes nothing.
use mathlib.Core.Path.{◌≡◌, refl, ap, ap₂, sym, subst, ◌∙◌}
use mathlib.Core.Bool.{Bool, true, false, cond, ◌&&◌, and-eq-true_iff}
use mathlib.Core.List.{List, [], ◌∷◌, ◌++◌, append_assoc}
use Prim.Native.Nat.{ℕ, zero, suc, ◌+◌, ◌-◌, ◌*◌, ◌/◌, ◌%◌, ◌≤◌, ◌<◌, ◌^◌}
use native.Mathlib.Nat.{pow-suc, one-le-pow, not-suc-le-zero, le_of_suc-le-suc, mul-add, mul_assoc, mul_comm, add-sub_cancel_left}
use native.Mathlib.Numerals.{add-one}
use native.Mathlib.Omega.{arith}
use borrow.Author.Tests.{lt-ltb, le-ltb, ltb-true, ltb-false, eq-eqb, ne_eqb, eqb-true, eqb-false, le-leb, lt-leb, leb-true, leb-false}
use lib.Dec.{eqb, leb, ltb}
use lib.IntN.{pos}
use lib.ListN.{length, drop, take, get_or, replicate, length-append, length-replicate, replicate-append-replicate}
use lib.Seq.{drop-cons, take_all}
use mir.Syntax.{w64}
use mir.Val.{Fits}
use Rattle.format.specs.Text.{same}
use Rattle.format.specs.Column.{digits_in, digits, text_of, written}
use Rattle.format.specs.Layout.{column}
use Rattle.format.proofs.Columns.{Size, below, above, size_of, length_one, length_more, length-written}
use Rattle.format.proofs.ColumnFits.{fit}
use Rattle.directory_columns.specs.PackedColumns.{packed, unpacked, Small, Packs, packed_number, is_raised, packed_near, zeros_part, digits_part}

-- ---- bytes as a number
pub packed-same : (l m : List ℕ) → length l ≡ length m → Small l → Small m → same l m ≡ eqb (packed l) (packed m)
unfolding packed
packed-same [] [] e a b = refl
packed-same [] (y ∷ m) e a b = absurd (omega arith)
packed-same (x ∷ l) [] e a b = absurd (omega arith)
packed-same (x ∷ l) (y ∷ m) e a b = ap (λ (t : Bool). eqb x y && t) (packed-same l m (omega arith) a.1 b.1) ∙ go (eqb x y) refl (eqb (packed l) (packed m)) refl
  where
    go : (s : Bool) → eqb x y ≡ s → (t : Bool) → eqb (packed l) (packed m) ≡ t → s && t ≡ eqb (x + 256 * packed l) (y + 256 * packed m)
    go true d true f = sym (eq-eqb (x + 256 * packed l) (y + 256 * packed m) (omega (arith, eqb-true x y d, eqb-true (packed l) (packed m) f)))
    go true d false f = sym (ne_eqb (x + 256 * packed l) (y + 256 * packed m) (λ h. eqb-false (packed l) (packed m) f (omega (arith, h, a.0, b.0))))
    go false d t f = sym (ne_eqb (x + 256 * packed l) (y + 256 * packed m) (λ h. eqb-false x y d (omega (arith, h, a.0, b.0))))

packed-last : (l : List ℕ) (b : ℕ) → packed (l ++ (b ∷ [])) ≡ packed l + 256 ^ length l * b
unfolding packed
packed-last [] b = omega arith
packed-last (x ∷ l) b = ap (λ (n : ℕ). x + 256 * n) (packed-last l b) ∙ (omega (arith, ap (λ (n : ℕ). n * b) (pow-suc 256 (length l) ∙ mul_comm (256 ^ length l) 256), mul_assoc 256 (256 ^ length l) b))

small-last : (l : List ℕ) (b : ℕ) → Small l → b < 256 → Small (l ++ (b ∷ []))
small-last [] b s h = (h, tt)
small-last (x ∷ l) b s h = (s.0, small-last l b s.1 h)

packed-below : (l : List ℕ) → Small l → packed l < 256 ^ length l
unfolding packed
packed-below [] s = omega arith
packed-below (x ∷ l) s = omega (arith, s.0, packed-below l s.1, pow-suc 256 (length l))

-- ---- the written form of a number
abbrev padded : ℕ → List ℕ → List ℕ
padded w t = replicate (w - length t) 32 ++ t

padded_last : (w : ℕ) (t : List ℕ) (b : ℕ) → length t ≤ w → padded (suc w) (t ++ (b ∷ [])) ≡ padded w t ++ (b ∷ [])
padded_last w t b h = let k : suc w - (length t + 1) ≡ w - length t = omega arith in simp (append_assoc, length-append, k)

-- these bytes have the two parts of a number in so many bytes
record Parts (w n : ℕ) (l : List ℕ) : Type 0 where
  long : length l ≡ w
  small : Small l
  is : packed l ≡ zeros_part w n + digits_part w n
  -- the last byte is the last digit
  low : (v : ℕ) → w ≡ suc v → 256 ^ v * (48 + n % 10) ≤ packed l
  high : (v : ℕ) → w ≡ suc v → packed l < 256 ^ v * (48 + n % 10) + 256 ^ v

-- one byte more, at the end
parts_last : (w n : ℕ) (l : List ℕ) → length l ≡ w → Small l → packed l ≡ cond (ltb n 10) (packed (replicate w 32)) (zeros_part w (n / 10)) + digits_part w (n / 10) → Parts (suc w) n (l ++ ((48 + n % 10) ∷ []))
unfolding zeros_part digits_part
parts_last w n l long small is = record {
  long = length-append l ((48 + n % 10) ∷ []) ∙ (omega (arith, long));
  small = small-last l (48 + n % 10) small (omega arith);
  is = last_is ∙ ap (λ (p : ℕ). p + 256 ^ w * (48 + n % 10)) is ∙ (omega (arith, mul-add (256 ^ w) 48 (n % 10)));
  low = λ v e. let q : v ≡ w = omega (arith, e) in rw q (omega (arith, last_is));
  high = λ v e. let q : v ≡ w = omega (arith, e) in rw q (omega (arith, last_is, packed-below l small, ap (λ (k : ℕ). 256 ^ k) long));
}
  where
    last_is : packed (l ++ ((48 + n % 10) ∷ [])) ≡ packed l + 256 ^ w * (48 + n % 10)
    last_is = packed-last l (48 + n % 10) ∙ ap (λ (k : ℕ). packed l + 256 ^ k * (48 + n % 10)) long

pub spaces-small : (w : ℕ) → Small (replicate w 32)
spaces-small zero = tt
spaces-small (suc w) = (omega arith, spaces-small w)

no_digits : (w : ℕ) → digits_part w 0 ≡ 0
unfolding digits_part
no_digits zero = refl
no_digits (suc w) = ap (λ (n : ℕ). n + 256 ^ w * 0) (no_digits w) ∙ (omega arith)

one_digit : (w n : ℕ) → n < 10 → Parts (suc w) n (padded (suc w) ((48 + n) ∷ []))
one_digit w n h =
    let d : suc w - 1 ≡ w = omega arith in
    let m : n % 10 ≡ n = omega arith in
    let q : n / 10 ≡ 0 = omega arith in
    subst (Parts (suc w) n) (ap₂ (λ (k x : ℕ). replicate k 32 ++ ((48 + x) ∷ [])) (sym d) m) (parts_last w n (replicate w 32) (length-replicate w 32) (spaces-small w) (rw (lt-ltb n 10 h, q, no_digits w) (omega arith)))

more-digits : (w n : ℕ) (t : List ℕ) → 10 ≤ n → length t ≤ w → Parts w (n / 10) (padded w t) → Parts (suc w) n (padded (suc w) (t ++ ((48 + n % 10) ∷ [])))
more-digits w n t h k p = subst (Parts (suc w) n) (sym (padded_last w t (48 + n % 10) k)) (parts_last w n (padded w t) p.long p.small (rw (le-ltb n 10 h) p.is))

abbrev Puts : ℕ → Type 0
Puts f = (w n : ℕ) → n < 10 ^ suc f → length (digits_in f n) ≤ w → Parts w n (padded w (digits_in f n))

puts_next : (f : ℕ) → Puts f → (w n : ℕ) → Size n → n < 10 ^ suc (suc f) → length (digits_in (suc f) n) ≤ w → Parts w n (padded w (digits_in (suc f) n))
unfolding digits_in
puts_next f ih zero n (below h) b k = absurd (omega (arith, length_one (suc f) n h))
puts_next f ih zero n (above h) b k = absurd (omega (arith, length_more f n h))
puts_next f ih (suc w) n (below h) b k = simp (lt-ltb n 10 h) (one_digit w n h)
puts_next f ih (suc w) n (above h) b k =
    let k' : length (digits_in f (n / 10)) ≤ w = le_of_suc-le-suc (rw (length_more f n h) at k) in
    simp (le-ltb n 10 h) (more-digits w n (digits_in f (n / 10)) h k' (ih w (n / 10) (omega (arith, pow-suc 10 (suc f))) k'))

puts : (f : ℕ) → Puts f
unfolding digits_in
puts zero zero n b k = absurd (not-suc-le-zero k)
puts zero (suc w) n b k = one_digit w n b
puts (suc f) w n b k = puts_next f (puts f) w n (size_of n) b k

-- THE WRITTEN FORM OF A NUMBER that fits a column of seven bytes
seven-parts : (n : ℕ) → n ≤ 9999999 → Parts 7 n (written 7 (pos n))
unfolding written text_of digits
seven-parts n h =
    let short : length (digits_in 19 n) ≤ 7 = leb-true (length (digits_in 19 n)) 7 (fit 19 n 7 (omega arith) (omega arith) ∙ lt-ltb n (10 ^ 7) (omega arith)) in
    subst (Parts 7 n) (sym (take_all 7 (padded 7 (digits_in 19 n)) (simp (length-append, length-replicate) (omega arith)))) (puts 19 7 n (omega arith) short)

-- ---- `few_zeros`, `zeros`: a number of one digit more than d
replicate-last : (n x : ℕ) → replicate (suc n) x ≡ replicate n x ++ (x ∷ [])
replicate-last n x = ap (λ (k : ℕ). replicate k x) (sym (add-one n)) ∙ sym (replicate-append-replicate n 1 x)

pub zeros_of : (d w n : ℕ) → n < 10 ^ suc d → (0 < d → 10 ^ d ≤ n) → packed (replicate w 32 ++ replicate (suc d) 48) ≡ zeros_part (suc d + w) n
unfolding zeros_part
zeros_of zero w n h k = packed-last (replicate w 32) 48 ∙ ap (λ (m : ℕ). packed (replicate w 32) + 256 ^ m * 48) (length-replicate w 32) ∙ sym (ap (λ (m : ℕ). zeros_part m n) (let q : 1 + w ≡ suc w = omega arith in q) ∙ rw (lt-ltb n 10 h))
zeros_of (suc d) w n h k =
    let front : List ℕ = replicate w 32 ++ replicate (suc d) 48 in
    let long : length front ≡ suc d + w = length-append (replicate w 32) (replicate (suc d) 48) ∙ (omega (arith, length-replicate {A = ℕ} w 32, length-replicate {A = ℕ} (suc d) 48)) in
    let power : 10 ^ suc d ≡ 10 ^ d * 10 = pow-suc 10 d in
    let least : 10 ^ suc d ≤ n = k (omega arith) in
    let some : 1 ≤ 10 ^ d = one-le-pow d 10 (omega arith) in
    ap packed (ap (λ (x : List ℕ). replicate w 32 ++ x) (replicate-last (suc d) 48) ∙ sym (append_assoc (replicate w 32) (replicate (suc d) 48) (48 ∷ [])))
    ∙ packed-last front 48
    ∙ ap₂ (λ (p m : ℕ). p + 256 ^ m * 48) (zeros_of d w (n / 10) (omega (arith, pow-suc 10 (suc d))) (λ m. omega (arith, power, least))) long
    ∙ sym (ap (λ (m : ℕ). zeros_part m n) (let q : suc (suc d) + w ≡ suc (suc d + w) = omega arith in q) ∙ rw (le-ltb n 10 (let x : 10 ≤ n = omega (arith, power, least, some) in x)))

-- ---- `digits`: what each tenth has more than ten times the next
digit : (n : ℕ) → n ≡ 10 * (n / 10) + n % 10
digit n = omega arith

tenths : (a b c d e f s t u v w : ℕ) → a ≡ 10 * b + s → b ≡ 10 * c + t → c ≡ 10 * d + u → d ≡ 10 * e + v → e ≡ 10 * f + w → a * 1099511627776 ≡ 2559 * (((b * 256 + c) * 256 + d) * 65536 + e * 256 + f) + (f + 256 * w + 65536 * v + 16777216 * u + 4294967296 * t + 1099511627776 * s)
tenths a b c d e f s t u v w p q r x y = omega (arith, p, q, r, x, y)

in_order : (f w v u t s r : ℕ) → r * 281474976710656 + (f + 256 * w + 65536 * v + 16777216 * u + 4294967296 * t + 1099511627776 * s) ≡ 0 + 1 * f + 256 * w + 65536 * v + 16777216 * u + 4294967296 * t + 1099511627776 * s + 281474976710656 * r
in_order f w v u t s r = omega arith

module _ (n : ℕ) (h : n ≤ 9999999) where
  abbrev a : ℕ
  a = n / 10

  abbrev b : ℕ
  b = n / 10 / 10

  abbrev c : ℕ
  c = n / 10 / 10 / 10

  abbrev d : ℕ
  d = n / 10 / 10 / 10 / 10

  abbrev e : ℕ
  e = n / 10 / 10 / 10 / 10 / 10

  abbrev f : ℕ
  f = n / 10 / 10 / 10 / 10 / 10 / 10

  pub digits_are : (n - 10 * a) * 281474976710656 + (a * 1099511627776 - 2559 * (((b * 256 + c) * 256 + d) * 65536 + e * 256 + f)) ≡ digits_part 7 n
  unfolding digits_part
  digits_are =
      let ones : n - 10 * a ≡ n % 10 = omega arith in
      let top : f % 10 ≡ f = omega arith in
      let rest : a * 1099511627776 - 2559 * (((b * 256 + c) * 256 + d) * 65536 + e * 256 + f) ≡ f + 256 * (e % 10) + 65536 * (d % 10) + 16777216 * (c % 10) + 4294967296 * (b % 10) + 1099511627776 * (a % 10) = ap (λ (x : ℕ). x - 2559 * (((b * 256 + c) * 256 + d) * 65536 + e * 256 + f)) (tenths a b c d e f (a % 10) (b % 10) (c % 10) (d % 10) (e % 10) (digit a) (digit b) (digit c) (digit d) (digit e)) ∙ add-sub_cancel_left (2559 * (((b * 256 + c) * 256 + d) * 65536 + e * 256 + f)) (f + 256 * (e % 10) + 65536 * (d % 10) + 16777216 * (c % 10) + 4294967296 * (b % 10) + 1099511627776 * (a % 10)) in
      rw (ones, rest, top) (in_order f (e % 10) (d % 10) (c % 10) (b % 10) (a % 10) (n % 10))

  pub digits-fit : Fits w64 (digits_part 7 n)
  unfolding digits_part
  digits-fit = record { fits = omega arith }

digits_by : (w n : ℕ) → digits_part (suc w) n ≡ digits_part w (n / 10) + 256 ^ w * (n % 10)
unfolding digits_part
digits_by w n = refl

-- ---- `eight_at`, `packed_at`
one_byte : (r : List ℕ) (n start next : ℕ) → start + suc n ≤ length r → suc start ≡ next → column start (suc n) r ≡ get_or r start 0 ∷ column next n r
unfolding column
one_byte r n start next h e = ap (take (suc n)) (drop-cons r start 0 (omega arith)) ∙ ap (λ (k : ℕ). get_or r start 0 ∷ take n (drop k r)) e

eight_bytes : (r : List ℕ) (start : ℕ) → start + 8 ≤ length r → column start 8 r ≡ get_or r start 0 ∷ get_or r (start + 1) 0 ∷ get_or r (start + 2) 0 ∷ get_or r (start + 3) 0 ∷ get_or r (start + 4) 0 ∷ get_or r (start + 5) 0 ∷ get_or r (start + 6) 0 ∷ get_or r (start + 7) 0 ∷ []
unfolding column
eight_bytes r start h =
    one_byte r 7 start (start + 1) (omega arith) (omega arith)
    ∙ ap (λ (l : List ℕ). get_or r start 0 ∷ l) (one_byte r 6 (start + 1) (start + 2) (omega arith) (omega arith)
    ∙ ap (λ (l : List ℕ). get_or r (start + 1) 0 ∷ l) (one_byte r 5 (start + 2) (start + 3) (omega arith) (omega arith)
    ∙ ap (λ (l : List ℕ). get_or r (start + 2) 0 ∷ l) (one_byte r 4 (start + 3) (start + 4) (omega arith) (omega arith)
    ∙ ap (λ (l : List ℕ). get_or r (start + 3) 0 ∷ l) (one_byte r 3 (start + 4) (start + 5) (omega arith) (omega arith)
    ∙ ap (λ (l : List ℕ). get_or r (start + 4) 0 ∷ l) (one_byte r 2 (start + 5) (start + 6) (omega arith) (omega arith)
    ∙ ap (λ (l : List ℕ). get_or r (start + 5) 0 ∷ l) (one_byte r 1 (start + 6) (start + 7) (omega arith) (omega arith)
    ∙ ap (λ (l : List ℕ). get_or r (start + 6) 0 ∷ l) (one_byte r 0 (start + 7) (start + 8) (omega arith) (omega arith))))))))

module _ (r : List ℕ) (start : ℕ) (h : start + 8 ≤ length r) (b₀ b₁ b₂ b₃ b₄ b₅ b₆ b₇ : ℕ) where
  pub eight_packs : (b₀ ≡ get_or r start 0) × (b₀ ≤ 255) → (b₁ ≡ get_or r (start + 1) 0) × (b₁ ≤ 255) → (b₂ ≡ get_or r (start + 2) 0) × (b₂ ≤ 255) → (b₃ ≡ get_or r (start + 3) 0) × (b₃ ≤ 255) → (b₄ ≡ get_or r (start + 4) 0) × (b₄ ≤ 255) → (b₅ ≡ get_or r (start + 5) 0) × (b₅ ≤ 255) → (b₆ ≡ get_or r (start + 6) 0) × (b₆ ≤ 255) → (b₇ ≡ get_or r (start + 7) 0) × (b₇ ≤ 255) → Packs (column start 8 r) (b₀ + b₁ * 256 + b₂ * 65536 + b₃ * 16777216 + b₄ * 4294967296 + b₅ * 1099511627776 + b₆ * 281474976710656 + b₇ * 72057594037927936)
  unfolding packed
  eight_packs e₀ e₁ e₂ e₃ e₄ e₅ e₆ e₇ = rw (eight_bytes r start h, ← e₀.0, ← e₁.0, ← e₂.0, ← e₃.0, ← e₄.0, ← e₅.0, ← e₆.0, ← e₇.0) (record {
    is = omega arith;
    small = (omega (arith, e₀.1), (omega (arith, e₁.1), (omega (arith, e₂.1), (omega (arith, e₃.1), (omega (arith, e₄.1), (omega (arith, e₅.1), (omega (arith, e₆.1), (omega (arith, e₇.1), tt))))))));
  })

pub less_first : (r : List ℕ) (start p : ℕ) → 1 ≤ start → start + 7 ≤ length r → Packs (column (start - 1) 8 r) p → Packs (column start 7 r) (p / 256)
unfolding packed
less_first r start p some h c =
    let q : Packs (get_or r (start - 1) 0 ∷ column start 7 r) p = subst (λ (l : List ℕ). Packs l p) (one_byte r 7 (start - 1) start (omega arith) (omega arith)) c in
    record { is = omega (arith, q.is, q.small.0); small = q.small.1 }

-- ---- `packed_number`
module _ (n : ℕ) where
  packed-fits : n ≤ 9999999 → packed_number n ≡ packed (written 7 (pos n))
  unfolding packed_number
  packed-fits h = rw (le-leb n 9999999 h)

  pub none-packed : 9999999 < n → 72057594037927936 ≡ packed_number n
  unfolding packed_number
  none-packed h = rw (lt-leb n 9999999 h)

  module _ (h : n ≤ 9999999) where
    in_parts : packed_number n ≡ zeros_part 7 n + digits_part 7 n
    in_parts = packed-fits h ∙ (seven-parts n h).is

    fits-seven : packed_number n < 72057594037927936
    fits-seven = omega (arith, packed-fits h, packed-below (written 7 (pos n)) (seven-parts n h).small, ap (λ (k : ℕ). 256 ^ k) (seven-parts n h).long)

    module _ (z d : ℕ) (z-is : z ≡ zeros_part 7 n) (d-is : d ≡ digits_part 7 n) where
      pub number-packed : z + d ≡ packed_number n
      number-packed = ap₂ ◌+◌ z-is d-is ∙ sym in_parts

      pub number_fits : Fits w64 (z + d)
      number_fits = record { fits = omega (arith, number-packed, fits-seven) }

  pub one_packed : n < 10 → 13546121232130080 + n * 281474976710656 ≡ packed_number n
  unfolding packed
  one_packed h =
      let q : n / 10 ≡ 0 = omega arith in
      sym (in_parts (omega arith) ∙ ap₂ ◌+◌ (sym (zeros_of 0 6 n h (λ k. absurd (omega arith)))) (digits_by 6 n ∙ ap (λ (m : ℕ). digits_part 6 m + 281474976710656 * (n % 10)) q ∙ ap (λ (m : ℕ). m + 281474976710656 * (n % 10)) (no_digits 6)) ∙ (omega arith))

-- ---- bytes of a number, and back
packed-unpacked : (w p : ℕ) → p < 256 ^ w → packed (unpacked w p) ≡ p
unfolding packed unpacked
packed-unpacked zero p h = omega arith
packed-unpacked (suc w) p h = ap (λ (q : ℕ). p % 256 + 256 * q) (packed-unpacked w (p / 256) (omega (arith, pow-suc 256 w))) ∙ (omega arith)

unpacked-packed : (w : ℕ) (l : List ℕ) → length l ≡ w → Small l → unpacked w (packed l) ≡ l
unfolding packed unpacked
unpacked-packed zero [] e s = refl
unpacked-packed zero (b ∷ l) e s = absurd (omega arith)
unpacked-packed (suc w) [] e s = absurd (omega arith)
unpacked-packed (suc w) (b ∷ l) e s =
    let low : (b + 256 * packed l) % 256 ≡ b = omega (arith, s.0) in
    let high : (b + 256 * packed l) / 256 ≡ packed l = omega (arith, s.0) in
    ap₂ (λ (x y : ℕ). x ∷ unpacked w y) low high ∙ ap (λ (x : List ℕ). b ∷ x) (unpacked-packed w l (omega arith) s.1)

unpacked-small : (w p : ℕ) → Small (unpacked w p)
unfolding unpacked
unpacked-small zero p = tt
unpacked-small (suc w) p = (omega arith, unpacked-small w (p / 256))

length-unpacked : (w p : ℕ) → length (unpacked w p) ≡ w
unfolding unpacked
length-unpacked zero p = refl
length-unpacked (suc w) p = ap suc (length-unpacked w (p / 256))

-- bytes are those of a number exactly where theirs is that number
pub packed_decides : (l : List ℕ) (p q : ℕ) → length l ≡ 7 → Packs l q → eqb q p ≡ ltb p 72057594037927936 && same l (unpacked 7 p)
packed_decides l p q long c = ap (λ (x : ℕ). eqb x p) c.is ∙ go (ltb p 72057594037927936) refl
  where
    go : (t : Bool) → ltb p 72057594037927936 ≡ t → eqb (packed l) p ≡ t && same l (unpacked 7 p)
    go true e = let h : p < 256 ^ 7 = ltb-true p 72057594037927936 e in ap (eqb (packed l)) (sym (packed-unpacked 7 p h)) ∙ sym (packed-same l (unpacked 7 p) (long ∙ sym (length-unpacked 7 p)) c.small (unpacked-small 7 p))
    go false e = ne_eqb (packed l) p (λ x. omega (arith, x, ltb-false p 72057594037927936 e, packed-below l c.small, ap (λ (k : ℕ). 256 ^ k) long))

-- the bytes of the written form
pub number-bytes : (l : List ℕ) (n : ℕ) → ltb (packed_number n) 72057594037927936 && same l (unpacked 7 (packed_number n)) ≡ leb n 9999999 && same l (written 7 (pos n))
number-bytes l n = go (leb n 9999999) refl
  where
    go : (t : Bool) → leb n 9999999 ≡ t → ltb (packed_number n) 72057594037927936 && same l (unpacked 7 (packed_number n)) ≡ t && same l (written 7 (pos n))
    go true e =
        let h : n ≤ 9999999 = leb-true n 9999999 e in
        let bytes_are : unpacked 7 (packed_number n) ≡ written 7 (pos n) = ap (unpacked 7) (packed-fits n h) ∙ unpacked-packed 7 (written 7 (pos n)) (length-written 7 (pos n)) (seven-parts n h).small in
        rw (lt-ltb (packed_number n) 72057594037927936 (fits-seven n h), bytes_are)
    go false e = rw (← none-packed n (leb-false n 9999999 e))

-- ---- numbers with the same tenth
zeros_by : (w n m : ℕ) → n / 10 ≡ m / 10 → zeros_part (suc w) n ≡ zeros_part (suc w) m
unfolding zeros_part
zeros_by w n m e = ap₂ (λ (t : Bool) (q : ℕ). cond t (packed (replicate w 32)) (zeros_part w q) + 256 ^ w * 48) (one_digit_both (ltb m 10) refl) e
  where
    one_digit_both : (t : Bool) → ltb m 10 ≡ t → ltb n 10 ≡ ltb m 10
    one_digit_both true q = lt-ltb n 10 (omega (arith, e, ltb-true m 10 q)) ∙ sym q
    one_digit_both false q = le-ltb n 10 (omega (arith, e, ltb-false m 10 q)) ∙ sym q

-- ---- `is_raised`
module _ (n m p : ℕ) where
  pub raised_below : n < m → false ≡ is_raised n m p
  unfolding is_raised
  raised_below h = rw (lt-leb m n h)

  pub raised_far : m ≤ n → 57 < n - m → false ≡ is_raised n m p
  unfolding is_raised
  raised_far h l = rw (le-leb m n h, lt-leb (p / 281474976710656 + (n - m)) 57 (let x : 57 < p / 281474976710656 + (n - m) = omega arith in x))

  pub raised_by : m ≤ n → leb (p / 281474976710656 + (n - m)) 57 ≡ is_raised n m p
  unfolding is_raised
  raised_by h = rw (le-leb m n h)

  raised_low : is_raised n m p ≡ true → (m ≤ n) × (p / 281474976710656 + (n - m) ≤ 57)
  unfolding is_raised
  raised_low h = let both = (and-eq-true_iff (leb m n) (leb (p / 281474976710656 + (n - m)) 57)).0 h in (leb-true m n both.0, leb-true (p / 281474976710656 + (n - m)) 57 both.1)

  -- ---- `packed_near`
  pub near_same : n ≡ m → p ≡ packed_near n m p
  unfolding packed_near
  near_same e = rw (eq-eqb n m e)

  module _ (ne : n ≡ m → ⊥) (t : Bool) (t-is : t ≡ is_raised n m p) where
    pub near_raised : t ≡ true → p + (n - m) * 281474976710656 ≡ packed_near n m p
    unfolding packed_near
    near_raised h = rw (ne_eqb n m ne, ← t-is, h)

    pub near_some : t ≡ true → m ≤ n
    near_some h = (raised_low (sym t-is ∙ h)).0

    pub near_few : t ≡ true → Fits w64 ((n - m) * 281474976710656)
    near_few h = record { fits = omega (arith, (raised_low (sym t-is ∙ h)).1) }

    pub near_fits : t ≡ true → Fits w64 (p + (n - m) * 281474976710656)
    near_fits h = let low = raised_low (sym t-is ∙ h) in record { fits = omega (arith, low.0, low.1) }

    pub near_other : t ≡ false → (r : ℕ) → r ≡ packed_number n → r ≡ packed_near n m p
    unfolding packed_near
    near_other h r e = e ∙ rw (ne_eqb n m ne, ← t-is, h)

  -- by way of the other number's
  pub near_is : p ≡ packed_number m → packed_near n m p ≡ packed_number n
  unfolding packed_near
  near_is e = go (eqb n m) refl (is_raised n m p) refl
    where
      fits-other : (t : Bool) → leb m 9999999 ≡ t → p / 281474976710656 ≤ 57 → m ≤ 9999999
      fits-other true q l = leb-true m 9999999 q
      fits-other false q l = absurd (omega (arith, e, l, none-packed m (leb-false m 9999999 q)))

      raised : (m ≤ n) × (p / 281474976710656 + (n - m) ≤ 57) → p + (n - m) * 281474976710656 ≡ packed_number n
      raised low =
          let k : m ≤ 9999999 = fits-other (leb m 9999999) refl (omega (arith, low.1)) in
          let digit_is : p / 281474976710656 ≡ 48 + m % 10 = omega (arith, e, packed-fits m k, (seven-parts m k).low 6 refl, (seven-parts m k).high 6 refl) in
          let q : n / 10 ≡ m / 10 = omega (arith, low.0, low.1, digit_is) in
          omega (arith, e, low.0, q, in_parts n (omega (arith, q, k)), in_parts m k, zeros_by 6 n m q, digits_by 6 n, digits_by 6 m, ap (digits_part 6) q)

      go : (a : Bool) → eqb n m ≡ a → (b : Bool) → is_raised n m p ≡ b → cond a p (cond b (p + (n - m) * 281474976710656) (packed_number n)) ≡ packed_number n
      go true x b y = e ∙ ap packed_number (sym (eqb-true n m x))
      go false x true y = raised (raised_low y)
      go false x false y = refl
