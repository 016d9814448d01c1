-- Number columns of any width: what is written is read back, a column reads below its width's power, and columns that share no byte
-- leave each other alone. Assumes nothing.
use mathlib.Core.Path.{◌≡◌, refl, ap, sym, ◌∙◌}
use mathlib.Core.Bool.{Bool, true, false, cond, ◌&&◌, and-eq-true_iff, false≢true}
use mathlib.Core.List.{List, [], ◌∷◌, ◌++◌}
use Prim.Native.Nat.{ℕ, zero, suc, ◌+◌, ◌-◌, ◌*◌, ◌/◌, ◌%◌, ◌^◌, ◌≤◌, ◌<◌, suc-le-suc}
use native.Mathlib.Nat.{mul_assoc, pow-suc, not-suc-le-zero, one-le-pow, mul-le-mul_right}
use native.Mathlib.Numerals.{add-one}
use native.Mathlib.Omega.{arith}
use borrow.Author.Tests.{le-leb, lt-ltb, le-ltb, leb-true, ltb-true, ltb-false, eqb-true}
use lib.Dec.{eqb, leb, ltb}
use lib.ListN.{length, take, drop, get_or, replicate, length-append, length-replicate, length-drop, take-append-drop}
use lib.Seq.{take_at, drop_at, length-take-le, take_all, drop-append-le, take-append-le, drop-append-add, drop-drop, get_or-take, get_or-drop}
use lib.IntN.{ℤ, pos, neg_ℤ}
use Rattle.format.specs.declared.Column.{Column}
use Rattle.format.specs.declared.Column.TheVariants.{Value, MinusZero, Malformed}
use Rattle.format.specs.Column.{strip, is_digit, all_digits, value_of, is_number, negative, positive, signed, column_of, formed, size, number_of, digits_in, digits, text_of, written}
use Rattle.format.specs.Layout.{column, splice}

-- the four kinds of byte, each with what the tests say of it
pub data Byte (b : ℕ) : Type 0 where
  v_space : b ≡ 32 → Byte b
  v_minus : b ≡ 45 → Byte b
  v_digit : eqb b 32 ≡ false → eqb b 45 ≡ false → is_digit b ≡ true → Byte b
  v_other : eqb b 32 ≡ false → eqb b 45 ≡ false → is_digit b ≡ false → Byte b

pub byte : (b : ℕ) → Byte b
byte b = go (eqb b 32) (eqb b 45) (is_digit b) refl refl refl
  where
    go : (x y z : Bool) → eqb b 32 ≡ x → eqb b 45 ≡ y → is_digit b ≡ z → Byte b
    go true y z p q r = v_space (eqb-true b 32 p)
    go false true z p q r = v_minus (eqb-true b 45 q)
    go false false true p q r = v_digit p q r
    go false false false p q r = v_other p q r

-- a number below ten, or one with a digit before the last
pub data Size (n : ℕ) : Type 0 where
  below : n < 10 → Size n
  above : 10 ≤ n → Size n

pub size_of : (n : ℕ) → Size n
size_of n = go (ltb n 10) refl
  where
    go : (b : Bool) → ltb n 10 ≡ b → Size n
    go true e = below (ltb-true n 10 e)
    go false e = above (ltb-false n 10 e)

pub strip-spaces : (k : ℕ) (t : List ℕ) → strip (replicate k 32 ++ t) ≡ strip t
unfolding strip
strip-spaces zero t = refl
strip-spaces (suc k) t = strip-spaces k t

pub digit_is : (d : ℕ) → d < 10 → is_digit (48 + d) ≡ true
unfolding is_digit
digit_is d h = simp (le-leb 48 (48 + d) (omega arith), le-leb (48 + d) 57 (omega arith))

-- ---- one digit more at the end
pub all_snoc : (t : List ℕ) (x : ℕ) → is_digit x ≡ true → all_digits t ≡ true → all_digits (t ++ (x ∷ [])) ≡ true
unfolding all_digits
all_snoc [] x h e = simp h
all_snoc (b ∷ bs) x h e =
    let p = (and-eq-true_iff (is_digit b) (all_digits bs)).0 e in
    simp (p.0, all_snoc bs x h p.1)

pow_snoc : (t : List ℕ) (x : ℕ) → 10 ^ length (t ++ (x ∷ [])) ≡ 10 ^ length t * 10
pow_snoc t x = rw (length-append t (x ∷ []), add-one, pow-suc)

pub value_snoc : (t : List ℕ) (x : ℕ) → value_of (t ++ (x ∷ [])) ≡ value_of t * 10 + (x - 48)
unfolding value_of
value_snoc [] x = omega arith
value_snoc (b ∷ bs) x =
    omega (arith, value_snoc bs x, ap (λ (k : ℕ). (b - 48) * k) (pow_snoc bs x), mul_assoc (b - 48) (10 ^ length bs) 10)

-- ---- the digits of n are digits, and their value is n
pub record Means (t : List ℕ) (n : ℕ) : Type 0 where
  pub all : all_digits t ≡ true
  pub value : value_of t ≡ n
  pub some : 0 < length t

pub means_one : (n : ℕ) → n < 10 → Means ((48 + n) ∷ []) n
unfolding all_digits value_of
means_one n h = record { all = simp (digit_is n h); value = omega arith; some = omega arith }

means_more : (t : List ℕ) (n : ℕ) → Means t (n / 10) → Means (t ++ ((48 + n % 10) ∷ [])) n
means_more t n m =
    record {
      all = all_snoc t (48 + n % 10) (digit_is (n % 10) (omega arith)) m.all;
      value = rw (value_snoc t (48 + n % 10), m.value) (omega arith);
      some = simp length-append (omega arith);
    }

mean_next : (f n : ℕ) → Size n → (n / 10 < 10 ^ suc f → Means (digits_in f (n / 10)) (n / 10)) → n < 10 ^ suc (suc f) → Means (digits_in (suc f) n) n
unfolding digits_in
mean_next f n (below h) ih b = simp (lt-ltb n 10 h) (means_one n h)
mean_next f n (above h) ih b =
    let b' : n < 10 ^ suc f * 10 = rw pow-suc at b in
    simp (le-ltb n 10 h) (means_more (digits_in f (n / 10)) n (ih (omega arith)))

pub digits_mean : (f n : ℕ) → n < 10 ^ suc f → Means (digits_in f n) n
unfolding digits_in
digits_mean zero n b = means_one n b
digits_mean (suc f) n b = mean_next f n (size_of n) (digits_mean f (n / 10)) b

-- ---- at most w digits, where n is below 10 ^ w
pub length_one : (f n : ℕ) → n < 10 → length (digits_in f n) ≡ 1
unfolding digits_in
length_one zero n h = refl
length_one (suc f) n h = simp (lt-ltb n 10 h)

pub length_more : (f n : ℕ) → 10 ≤ n → length (digits_in (suc f) n) ≡ suc (length (digits_in f (n / 10)))
unfolding digits_in
length_more f n h = simp (le-ltb n 10 h) (length-append (digits_in f (n / 10)) ((48 + n % 10) ∷ []) ∙ add-one (length (digits_in f (n / 10))))

abbrev pub Short : ℕ → Type 0
Short f = (w n : ℕ) → 0 < w → n < 10 ^ w → length (digits_in f n) ≤ w

short-next : (f : ℕ) → Short f → (w n : ℕ) → Size n → 0 < w → n < 10 ^ w → length (digits_in (suc f) n) ≤ w
short-next f ih w n (below h) p b = rw (length_one (suc f) n h) p
short-next f ih zero n (above h) p b = absurd (not-suc-le-zero p)
short-next f ih (suc zero) n (above h) p b = absurd (omega arith)
short-next f ih (suc (suc w)) n (above h) p b =
    let b' : n < 10 ^ suc w * 10 = rw pow-suc at b in
    rw (length_more f n h) (suc-le-suc (ih (suc w) (n / 10) (omega arith) (omega arith)))

pub short : (f : ℕ) → Short f
unfolding digits_in
short zero w n p b = p
short (suc f) w n p b = short-next f (short f) w n (size_of n) p b

-- ---- the column of digits
digit-head : (b : ℕ) (bs : List ℕ) → Byte b → all_digits (b ∷ bs) ≡ true → column_of (b ∷ bs) ≡ Value (pos (value_of (b ∷ bs)))
unfolding column_of strip signed positive is_number all_digits is_digit
digit-head b bs (v_space e) h = absurd (false≢true (rw e at h))
digit-head b bs (v_minus e) h = absurd (false≢true (rw e at h))
digit-head b bs (v_digit p q r) h = simp (p, q, h)
digit-head b bs (v_other p q r) h = absurd (false≢true (simp r at h))

pub digits-column : (t : List ℕ) (n : ℕ) → Means t n → column_of t ≡ Value (pos n)
digits-column [] n m = absurd (omega (arith, m.some))
digits-column (b ∷ bs) n m = digit-head b bs (byte b) m.all ∙ ap (λ (k : ℕ). Value (pos k)) m.value

pub pow-up : (a b : ℕ) → a ≤ b → 10 ^ a ≤ 10 ^ b
pow-up zero b h = one-le-pow b 10 (omega arith)
pow-up (suc a) zero h = absurd (omega arith)
pow-up (suc a) (suc b) h = rw (pow-suc 10 a, pow-suc 10 b) (omega (arith, pow-up a b (omega arith)))

-- ---- WHAT IS WRITTEN IS READ BACK, and has the column's width
pub length-written : (w : ℕ) (z : ℤ) → length (written w z) ≡ w
unfolding written
length-written w z = length-take-le w (replicate (w - length (text_of z)) 32 ++ text_of z) (simp (length-append, length-replicate) (omega arith))

module _ (w n : ℕ) (some : 0 < w) (most : w ≤ 20) (l : n < 10 ^ w) where
  below_20 : n < 10 ^ 20
  below_20 = omega (arith, pow-up w 20 most)

  whole : written w (pos n) ≡ replicate (w - length (digits_in 19 n)) 32 ++ digits_in 19 n
  unfolding written text_of digits
  whole = take_all w (replicate (w - length (digits_in 19 n)) 32 ++ digits_in 19 n) (simp (length-append, length-replicate) (omega (arith, short 19 w n some l)))

  stripped : column_of (replicate (w - length (digits_in 19 n)) 32 ++ digits_in 19 n) ≡ column_of (digits_in 19 n)
  unfolding column_of
  stripped = ap signed (strip-spaces (w - length (digits_in 19 n)) (digits_in 19 n))

  pub read_written : column_of (written w (pos n)) ≡ Value (pos n)
  read_written = ap column_of whole ∙ stripped ∙ digits-column (digits_in 19 n) n (digits_mean 19 n below_20)

-- ---- A COLUMN OF w BYTES READS BELOW 10 ^ w
pub digits-below : (bs : List ℕ) → all_digits bs ≡ true → value_of bs < 10 ^ length bs
unfolding all_digits value_of is_digit
digits-below [] e = omega arith
digits-below (b ∷ bs) e = rw (pow-suc 10 (length bs)) (omega (arith, digits-below bs p.1, times))
  where
    p : (leb 48 b && leb b 57 ≡ true) × (all_digits bs ≡ true)
    p = (and-eq-true_iff (leb 48 b && leb b 57) (all_digits bs)).0 e

    nine : b - 48 ≤ 9
    nine = omega (arith, leb-true b 57 ((and-eq-true_iff (leb 48 b) (leb b 57)).0 p.0).1)

    times : (b - 48) * 10 ^ length bs ≤ 9 * 10 ^ length bs
    times = mul-le-mul_right (10 ^ length bs) nine

pub strip-short : (l : List ℕ) → length (strip l) ≤ length l
unfolding strip
strip-short [] = omega arith
strip-short (b ∷ bs) = go (eqb b 32) (strip-short bs)
  where
    go : (t : Bool) → length (strip bs) ≤ length bs → length (cond t (strip bs) (b ∷ bs)) ≤ suc (length bs)
    go true ih = omega arith
    go false ih = omega arith

pub number_digits : (t : List ℕ) → is_number t ≡ true → all_digits t ≡ true
unfolding is_number
number_digits [] e = absurd (false≢true e)
number_digits (b ∷ bs) e = e

some-pow : (k : ℕ) → 0 < 10 ^ k
some-pow k = one-le-pow k 10 (omega arith)

size_neg : (n : ℕ) → size (neg_ℤ (pos n)) ≡ 0
size_neg zero = refl
size_neg (suc n) = refl

minus-below : (bs : List ℕ) (k : ℕ) → number_of (negative bs) < 10 ^ k
unfolding negative
minus-below bs k = at_test (is_number bs) (eqb (value_of bs) 0)
  where
    at_test : (t u : Bool) → number_of (cond t (cond u MinusZero (Value (neg_ℤ (pos (value_of bs))))) Malformed) < 10 ^ k
    at_test true true = some-pow k
    at_test true false = rw (size_neg (value_of bs)) (some-pow k)
    at_test false u = some-pow k

plus_below : (bs : List ℕ) → number_of (positive bs) < 10 ^ length bs
unfolding positive
plus_below bs = at_test (is_number bs) refl
  where
    at_test : (t : Bool) → is_number bs ≡ t → number_of (cond t (Value (pos (value_of bs))) Malformed) < 10 ^ length bs
    at_test true e = digits-below bs (number_digits bs e)
    at_test false e = some-pow (length bs)

signed_below : (l : List ℕ) → number_of (signed l) < 10 ^ length l
unfolding signed
signed_below [] = omega arith
signed_below (b ∷ bs) = go (eqb b 45)
  where
    go : (t : Bool) → number_of (cond t (negative bs) (positive (b ∷ bs))) < 10 ^ suc (length bs)
    go true = minus-below bs (suc (length bs))
    go false = plus_below (b ∷ bs)

pub number-below : (l : List ℕ) → number_of (column_of l) < 10 ^ length l
unfolding column_of
number-below l = omega (arith, signed_below (strip l), pow-up (length (strip l)) (length l) (strip-short l))

-- ---- columns of a record
pub data Apart (a v at w : ℕ) : Type 0 where
  left : a + v ≤ at → Apart a v at w
  right : at + w ≤ a → Apart a v at w

col_front : (X Y : List ℕ) (a v : ℕ) → a + v ≤ length X → take v (drop a (X ++ Y)) ≡ take v (drop a X)
col_front X Y a v l = rw (drop-append-le a X Y (omega arith), take-append-le v (drop a X) Y (rw (length-drop a X) (omega arith)))

col_back : (X Z : List ℕ) (a d : ℕ) → a ≡ length X + d → drop a (X ++ Z) ≡ drop d Z
col_back X Z a d e = rw e (drop-append-add X Z d)

module _ (at w : ℕ) (new r : List ℕ) (len : length new ≡ w) (fits : at + w ≤ length r) where
  pub length-splice : length (splice at w new r) ≡ length r
  unfolding splice
  length-splice = rw (length-append (take at r) (new ++ drop (at + w) r), length-append new (drop (at + w) r), length-take-le at r (omega arith), length-drop (at + w) r) (omega arith)

  pub column-own : column at w (splice at w new r) ≡ new
  unfolding splice column
  column-own = rw (drop_at (take at r) (new ++ drop (at + w) r) at (length-take-le at r (omega arith)), take_at new (drop (at + w) r) w len)

  pub column-before : (a v : ℕ) → a + v ≤ at → column a v (splice at w new r) ≡ column a v r
  unfolding splice column
  column-before a v l = col_front (take at r) (new ++ drop (at + w) r) a v (omega (arith, length-take-le at r (omega arith))) ∙ sym (col_front (take at r) (drop at r) a v (omega (arith, length-take-le at r (omega arith)))) ∙ rw (take-append-drop at r)

  pub column-behind : (a v : ℕ) → at + w ≤ a → column a v (splice at w new r) ≡ column a v r
  unfolding splice column
  column-behind a v l = ap (take v) (col_back (take at r) (new ++ drop (at + w) r) a (a - at) (omega (arith, length-take-le at r (omega arith))) ∙ col_back new (drop (at + w) r) (a - at) (a - (at + w)) (omega arith) ∙ drop-drop (a - (at + w)) (at + w) r ∙ ap (λ (k : ℕ). drop k r) back)
    where
      back : at + w + (a - (at + w)) ≡ a
      back = omega arith

  -- any column that shares no byte
  pub column-other : (a v : ℕ) → Apart a v at w → column a v (splice at w new r) ≡ column a v r
  column-other a v (left l) = column-before a v l
  column-other a v (right l) = column-behind a v l

pub length-column : (at w : ℕ) (r : List ℕ) → at + w ≤ length r → length (column at w r) ≡ w
unfolding column
length-column at w r l = length-take-le w (drop at r) (rw (length-drop at r) (omega arith))

-- a byte is a column of width 1
pub byte_column : (i : ℕ) (r : List ℕ) → get_or r i 0 ≡ get_or (column i 1 r) 0 0
unfolding column
byte_column i r = sym (get_or-take 1 (drop i r) 0 0 (omega arith) ∙ get_or-drop i r 0 0 ∙ ap (λ (k : ℕ). get_or r k 0) none_more)
  where
    none_more : i + 0 ≡ i
    none_more = omega arith

-- what `let Column::Value(z) = .. else` tells of the column in its other way
pub other_tag : (c : Column) → ((z : ℤ) → c ≡ Value z → ⊥) → formed c ≡ false
other_tag (Value z) h = absurd (h z refl)
other_tag MinusZero h = refl
other_tag Malformed h = refl
