-- What a column's bytes are for each thing that it may say, both ways and for lists of any length. Assumes nothing.
use mathlib.Core.Path.{◌≡◌, refl, ap, ◌∙◌}
use mathlib.Core.Bool.{Bool, true, false, and-false, false≢true}
use mathlib.Core.Logic.{inl, inr, ◌↔◌}
use mathlib.Core.List.{List, [], ◌∷◌, ◌++◌, append_assoc, append-nil}
use Prim.Native.Nat.{ℕ, zero, suc, ◌+◌, ◌-◌, ◌*◌, ◌^◌, ◌≤◌}
use native.Mathlib.Nat.{add-mul, mul_assoc, mul_comm, pow-suc, one-le-pow, mul-le-mul_left}
use native.Mathlib.Omega.{arith}
use borrow.Author.Tests.{lt-leb, leb-true}
use lib.Dec.{leb, eqb-suc-zero}
use lib.ListN.{length, replicate, length-append}
use lib.IntN.{ℤ, pos, negsuc}
use Rattle.format.specs.declared.Column.{Column}
use Rattle.format.specs.declared.Column.TheVariants.{Value, MinusZero, Malformed}
use Rattle.format.specs.Column.{strip, is_digit, all_digits, value_of, is_number, negative, positive, signed, column_of}
use Rattle.format.specs.Shape.{Digits, digit, more, Plain, Minus, MinusZeros, Says, Shapeless, NoDigit}
use Rattle.format.proofs.Basics.{and-true}
use Rattle.format.proofs.Columns.{Byte, v_space, v_minus, v_digit, v_other, byte, digit_is, all_snoc, value_snoc, Means, means_one, digits-column}
use Rattle.format.proofs.ColumnRoundTrip.{spaces-before}

-- ---- digits read from the left have the value that Column gives them
pub left_means : {t : List ℕ} {n : ℕ} → Digits t n → Means t n
left_means (digit d h) = means_one d h
left_means (more {ds} {n} r d h) =
    let m : Means ds n = left_means r in
    record {
      all = all_snoc ds (48 + d) (digit_is d h) m.all;
      value = rw (value_snoc ds (48 + d), m.value) (omega arith);
      some = simp length-append (omega arith);
    }

-- a digit's byte, in numbers
digit-between : (b : ℕ) → is_digit b ≡ true → (48 ≤ b) × (b ≤ 57)
unfolding is_digit
digit-between b e = let p = and-true (leb 48 b) (leb b 57) e in (leb-true 48 b p.0, leb-true b 57 p.1)

one_more : {a : List ℕ} {n : ℕ} (b : ℕ) → Digits a n → is_digit b ≡ true → Digits (a ++ b ∷ []) (n * 10 + (b - 48))
one_more b r e =
    let p = digit-between b e in
    let q : 48 + (b - 48) ≡ b = omega arith in
    rw q at (more r (b - 48) (omega arith))

-- digits behind digits
read_on : (bs a : List ℕ) (n : ℕ) → Digits a n → all_digits bs ≡ true → Digits (a ++ bs) (n * 10 ^ length bs + value_of bs)
unfolding all_digits value_of
read_on [] a n r e = let v : n * 1 + 0 ≡ n = omega arith in rw (append-nil, v) r
read_on (b ∷ bs) a n r e =
    let p = and-true (is_digit b) (all_digits bs) e in
    rw (append_assoc, shifted) at (read_on bs (a ++ b ∷ []) (n * 10 + (b - 48)) (one_more b r p.0) p.1)
  where
    shifted : (n * 10 + (b - 48)) * 10 ^ length bs + value_of bs ≡ n * 10 ^ suc (length bs) + ((b - 48) * 10 ^ length bs + value_of bs)
    shifted = rw (add-mul (n * 10) (b - 48) (10 ^ length bs), mul_assoc n 10 (10 ^ length bs), mul_comm 10 (10 ^ length bs), ← pow-suc 10 (length bs)) (omega arith)

alone : (b : ℕ) → is_digit b ≡ true → Digits (b ∷ []) (b - 48)
alone b e =
    let p = digit-between b e in
    let q : 48 + (b - 48) ≡ b = omega arith in
    rw q at (digit (b - 48) (omega arith))

pub numbered : (t : List ℕ) → is_number t ≡ true → Digits t (value_of t)
unfolding is_number all_digits value_of
numbered [] e = absurd (false≢true e)
numbered (b ∷ bs) e = let p = and-true (is_digit b) (all_digits bs) e in read_on bs (b ∷ []) (b - 48) (alone b p.0) p.1

pub is_number_lem : (t : List ℕ) (n : ℕ) → Means t n → is_number t ≡ true
unfolding is_number
is_number_lem [] n m = absurd (omega (arith, m.some))
is_number_lem (b ∷ bs) n m = m.all

-- ---- zeros
zeros_digits : (k : ℕ) → all_digits (replicate k 48) ≡ true
unfolding all_digits is_digit
zeros_digits zero = refl
zeros_digits (suc k) = zeros_digits k

zeros_value : (k : ℕ) → value_of (replicate k 48) ≡ 0
unfolding value_of
zeros_value zero = refl
zeros_value (suc k) = omega (arith, zeros_value k)

zeros_only : (t : List ℕ) → all_digits t ≡ true → value_of t ≡ 0 → t ≡ replicate (length t) 48
unfolding all_digits value_of
zeros_only [] e v = refl
zeros_only (b ∷ bs) e v = let q : bs ≡ replicate (length bs) 48 = zeros_only bs p.1 (omega arith) in let z : b ≡ 48 = omega (arith, times, digit-between b p.0) in cc
  where
    p : (is_digit b ≡ true) × (all_digits bs ≡ true)
    p = and-true (is_digit b) (all_digits bs) e

    times : (b - 48) * 1 ≤ (b - 48) * 10 ^ length bs
    times = mul-le-mul_left (b - 48) (one-le-pow (length bs) 10 (omega arith))

-- ---- what a column is seen to be
data Seen (l : List ℕ) : Column → Type 0 where
  plain : (n : ℕ) → Plain l n → Seen l (Value (pos n))
  minus : (n : ℕ) → Minus l (suc n) → Seen l (Value (negsuc n))
  zeros : MinusZeros l → Seen l MinusZero
  no_shape : Seen l Malformed

space_before : {l : List ℕ} {c : Column} → Seen l c → Seen (32 ∷ l) c
space_before (plain n p) = plain n (record { spaces = suc p.spaces; digits = p.digits; bytes = ap (λ (x : List ℕ). 32 ∷ x) p.bytes; number = p.number })
space_before (minus n p) = minus n (record { spaces = suc p.spaces; digits = p.digits; bytes = ap (λ (x : List ℕ). 32 ∷ x) p.bytes; number = p.number })
space_before (zeros p) = zeros (record { spaces = suc p.spaces; others = p.others; bytes = ap (λ (x : List ℕ). 32 ∷ x) p.bytes })
space_before no_shape = no_shape

zeros_behind : (bs : List ℕ) → is_number bs ≡ true → value_of bs ≡ 0 → MinusZeros (45 ∷ bs)
unfolding is_number
zeros_behind [] e v = absurd (false≢true e)
zeros_behind (b ∷ bs) e v = record { spaces = 0; others = length bs; bytes = ap (λ (x : List ℕ). 45 ∷ x) (zeros_only (b ∷ bs) e v) }

see_minus : (bs : List ℕ) → Seen (45 ∷ bs) (negative bs)
unfolding negative
see_minus bs = at_test (is_number bs) (value_of bs) refl refl
  where
    at_test : (t : Bool) (v : ℕ) → is_number bs ≡ t → value_of bs ≡ v → Seen (45 ∷ bs) (negative bs)
    at_test true zero p q = simp (p, q) (zeros (zeros_behind bs p q))
    at_test true (suc v) p q = simp (p, q, eqb-suc-zero) (minus v (record { spaces = 0; digits = bs; bytes = refl; number = rw q at (numbered bs p) }))
    at_test false v p q = simp p no_shape

see_plain : (t : List ℕ) → Seen t (positive t)
unfolding positive
see_plain t = at_test (is_number t) refl
  where
    at_test : (u : Bool) → is_number t ≡ u → Seen t (positive t)
    at_test true e = simp e (plain (value_of t) (record { spaces = 0; digits = t; bytes = refl; number = numbered t e }))
    at_test false e = simp e no_shape

see_first : (b : ℕ) (bs : List ℕ) → Byte b → Seen bs (column_of bs) → Seen (b ∷ bs) (column_of (b ∷ bs))
unfolding column_of strip signed
see_first b bs (v_space e) s = rw e (space_before s)
see_first b bs (v_minus e) s = rw e (see_minus bs)
see_first b bs (v_digit p q r) s = simp (p, q) (see_plain (b ∷ bs))
see_first b bs (v_other p q r) s = simp (p, q) (see_plain (b ∷ bs))

see : (l : List ℕ) → Seen l (column_of l)
unfolding column_of strip signed
see [] = no_shape
see (b ∷ bs) = see_first b bs (byte b) (see bs)

-- ---- A VALUE, A MINUS ZERO, MALFORMED: each for exactly these bytes
says_value : (l : List ℕ) (z : ℤ) → Says l z → column_of l ≡ Value z
unfolding column_of strip signed negative
says_value l (pos n) p = rw p.bytes (spaces-before p.spaces p.digits ∙ digits-column p.digits n (left_means p.number))
says_value l (negsuc n) p =
    let m : Means p.digits (suc n) = left_means p.number in
    rw p.bytes (spaces-before p.spaces (45 ∷ p.digits) ∙ simp (is_number_lem p.digits (suc n) m, m.value, eqb-suc-zero))

value_says : {l : List ℕ} {c : Column} (z : ℤ) → Seen l c → c ≡ Value z → Says l z
value_says (pos m) (plain n p) e = let q : n ≡ m = cc in rw q at p
value_says (negsuc m) (minus n p) e = let q : n ≡ m = cc in rw q at p
value_says (negsuc m) (plain n p) e = let x : ◌≡◌ {A = ℕ} 0 1 = cc in absurd (omega arith)
value_says (pos m) (minus n p) e = let x : ◌≡◌ {A = ℕ} 0 1 = cc in absurd (omega arith)
value_says z (zeros p) e = let x : ◌≡◌ {A = ℕ} 0 1 = cc in absurd (omega arith)
value_says z no_shape e = let x : ◌≡◌ {A = ℕ} 0 1 = cc in absurd (omega arith)

zeros_minus_zero : (l : List ℕ) → MinusZeros l → column_of l ≡ MinusZero
unfolding column_of strip signed negative is_number
zeros_minus_zero l p = rw p.bytes (spaces-before p.spaces (45 ∷ replicate (suc p.others) 48) ∙ simp (zeros_digits (suc p.others), zeros_value (suc p.others)))

minus_zero_zeros : {l : List ℕ} {c : Column} → Seen l c → c ≡ MinusZero → MinusZeros l
minus_zero_zeros (zeros p) e = p
minus_zero_zeros (plain n p) e = let x : ◌≡◌ {A = ℕ} 0 1 = cc in absurd (omega arith)
minus_zero_zeros (minus n p) e = let x : ◌≡◌ {A = ℕ} 0 1 = cc in absurd (omega arith)
minus_zero_zeros no_shape e = let x : ◌≡◌ {A = ℕ} 0 1 = cc in absurd (omega arith)

malformed_shapeless : (l : List ℕ) → column_of l ≡ Malformed → Shapeless l
malformed_shapeless l e = (λ z p. let q = says_value l z p in let x : ◌≡◌ {A = ℕ} 0 1 = cc in omega arith, λ p. let q = zeros_minus_zero l p in let x : ◌≡◌ {A = ℕ} 0 1 = cc in omega arith)

shapeless_malformed : {l : List ℕ} {c : Column} → Seen l c → Shapeless l → c ≡ Malformed
shapeless_malformed (plain n p) s = absurd (s.0 (pos n) p)
shapeless_malformed (minus n p) s = absurd (s.0 (negsuc n) p)
shapeless_malformed (zeros p) s = absurd (s.1 p)
shapeless_malformed no_shape s = refl

pub value_exactly : (l : List ℕ) (z : ℤ) → column_of l ≡ Value z ↔ Says l z
value_exactly l z = (value_says z (see l), says_value l z)

pub minus_zero_exactly : (l : List ℕ) → column_of l ≡ MinusZero ↔ MinusZeros l
minus_zero_exactly l = (minus_zero_zeros (see l), zeros_minus_zero l)

pub malformed_exactly : (l : List ℕ) → column_of l ≡ Malformed ↔ Shapeless l
malformed_exactly l = (malformed_shapeless l, shapeless_malformed (see l))

-- ---- bytes that make it malformed, wherever they stand
no_digit : (y : ℕ) → NoDigit y → is_digit y ≡ false
unfolding is_digit
no_digit y (inl h) = simp (lt-leb 48 y h)
no_digit y (inr h) = simp (lt-leb y 57 h) (and-false (leb 48 y))

not-all : (b c : List ℕ) (y : ℕ) → is_digit y ≡ false → all_digits (b ++ y ∷ c) ≡ false
unfolding all_digits
not-all [] c y e = simp e
not-all (x ∷ b) c y e = rw (not-all b c y e) (and-false (is_digit x))

not-number : (b c : List ℕ) (y : ℕ) → is_digit y ≡ false → is_number (b ++ y ∷ c) ≡ false
unfolding is_number
not-number [] c y e = not-all [] c y e
not-number (x ∷ b) c y e = not-all (x ∷ b) c y e

-- a byte more in front: where it is a space the rest says as before, else only digits may follow
malformed-more : (t c : List ℕ) (x y : ℕ) → Byte x → (x ≡ 32 → column_of (t ++ y ∷ c) ≡ Malformed) → is_digit y ≡ false → column_of (x ∷ t ++ y ∷ c) ≡ Malformed
unfolding column_of strip signed negative positive
malformed-more t c x y (v_space e) rest d = rw e (rest e)
malformed-more t c x y (v_minus e) rest d = rw e (simp (not-number t c y d))
malformed-more t c x y (v_digit p q r) rest d = simp (p, q, not-number (x ∷ t) c y d)
malformed-more t c x y (v_other p q r) rest d = simp (p, q, not-number (x ∷ t) c y d)

pub only_digits_behind : (a b c : List ℕ) (x y : ℕ) → (x ≡ 32 → ⊥) → NoDigit y → column_of (a ++ x ∷ b ++ y ∷ c) ≡ Malformed
only_digits_behind [] b c x y some d = malformed-more b c x y (byte x) (λ e. absurd (some e)) (no_digit y d)
only_digits_behind (w ∷ a) b c x y some d = malformed-more (a ++ x ∷ b) c w y (byte w) (λ e. only_digits_behind a b c x y some d) (no_digit y d)

other-first : (c : List ℕ) (y : ℕ) → Byte y → (y ≡ 32 → ⊥) → (y ≡ 45 → ⊥) → is_digit y ≡ false → column_of (y ∷ c) ≡ Malformed
unfolding column_of strip signed positive
other-first c y (v_space e) no_space no_minus d = absurd (no_space e)
other-first c y (v_minus e) no_space no_minus d = absurd (no_minus e)
other-first c y (v_digit p q r) no_space no_minus d = simp (p, q, not-number [] c y d)
other-first c y (v_other p q r) no_space no_minus d = simp (p, q, not-number [] c y d)

pub no_other_byte : (a c : List ℕ) (y : ℕ) → (y ≡ 32 → ⊥) → (y ≡ 45 → ⊥) → NoDigit y → column_of (a ++ y ∷ c) ≡ Malformed
no_other_byte [] c y no_space no_minus d = other-first c y (byte y) no_space no_minus (no_digit y d)
no_other_byte (x ∷ a) c y no_space no_minus d = malformed-more a c x y (byte x) (λ e. no_other_byte a c y no_space no_minus d) (no_digit y d)

pub spaces-malformed : (k : ℕ) → column_of (replicate k 32) ≡ Malformed
unfolding column_of strip signed
spaces-malformed zero = refl
spaces-malformed (suc k) = spaces-malformed k
