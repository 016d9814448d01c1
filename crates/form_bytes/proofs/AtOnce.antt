-- Of a column no byte is in doubt by its letters exactly where it can be told at once: a column without fault, in which no 0 stands right after a
-- minus, has no byte in doubt; and nowhere but where anything may stand is a 0 right after a minus without doubt. Assumes nothing.
use mathlib.Core.Path.{◌≡◌, refl, sym, ◌∙◌}
use mathlib.Core.Bool.{Bool, true, false, cond, not, ◌&&◌, ◌||◌, or-true, and-false, false≢true}
use mathlib.Core.List.{List, [], ◌∷◌}
use Prim.Native.Nat.{ℕ, zero, suc, ◌+◌, ◌-◌, ◌*◌, ◌^◌, ◌≤◌}
use native.Mathlib.Omega.{arith}
use borrow.Author.Tests.{le-leb, leb-true, eqb-true, eqb-false, ne_eqb, not-true}
use lib.Dec.{eqb, leb}
use lib.IntN.{pos, neg_ℤ, nat_abs}
use lib.Signed.{le_z}
use lib.ListN.{length, take, replicate}
use lib.Seq.{length-take-le}
use Rattle.format.specs.declared.Column.TheVariants.{Value, MinusZero, Malformed}
use Rattle.format.specs.Column.{strip, is_digit, all_digits, value_of, is_number, negative, positive, signed, column_of, formed, integer}
use Rattle.format.specs.Layout.{Rule, any_sign, at_least, range, within, one_of, inside, spaces, What, text, blank, integral, integral_or_spaces, is_formed, is_inside}
use Rattle.format.proofs.Basics.{and-true, true_and, or-false}
use Rattle.format.proofs.Columns.{Byte, v_space, v_minus, v_digit, v_other, byte, number_digits}
use Rattle.form_bytes.specs.Doubt.{least_at, most_at, surely_right, doubt}
use Rattle.form_bytes.specs.Letters.{behind, letters_in, ruled, letters_for, doubts_in}
use Rattle.form_bytes.specs.Told.{looser, zero_after_minus, no_zero_after_minus, told_at_once, has_letters, Told}
use Rattle.form_bytes.proofs.Neighbours.{first_letter, between_letter, Seen, t_digit, t_space, t_minus, told}
use Rattle.form_bytes.proofs.Doubts.{right-at, anything}
use Rattle.form_bytes.proofs.Rules.{one_digit, digit-at-least, digit-at-most, least-up-to, most-up-to, NoFault, no_fault, length_for}

-- ---- what a column says

positive-number : (bs : List ℕ) → formed (positive bs) ≡ true → is_number bs ≡ true
unfolding positive
positive-number bs = go (is_number bs)
  where
    go : (t : Bool) → formed (cond t (Value (pos (value_of bs))) Malformed) ≡ true → t ≡ true
    go true e = refl
    go false e = e

negative-number : (bs : List ℕ) → formed (negative bs) ≡ true → is_number bs ≡ true
unfolding negative
negative-number bs = go (is_number bs) (eqb (value_of bs) 0)
  where
    go : (t u : Bool) → formed (cond t (cond u MinusZero (Value (neg_ℤ (pos (value_of bs))))) Malformed) ≡ true → t ≡ true
    go true u e = refl
    go false u e = e

below_zero : (n : ℕ) → eqb n 0 ≡ false → le_z (pos 0) (neg_ℤ (pos n)) ≡ true → ⊥
below_zero zero e h = false≢true (sym e)
below_zero (suc n) e h = false≢true h

negative-below : (bs : List ℕ) → formed (negative bs) ≡ true → le_z (pos 0) (integer (negative bs)) ≡ true → ⊥
unfolding negative
negative-below bs = go (is_number bs) (eqb (value_of bs) 0) refl
  where
    go : (t u : Bool) → eqb (value_of bs) 0 ≡ u → formed (cond t (cond u MinusZero (Value (neg_ℤ (pos (value_of bs))))) Malformed) ≡ true → le_z (pos 0) (integer (cond t (cond u MinusZero (Value (neg_ℤ (pos (value_of bs))))) Malformed)) ≡ true → ⊥
    go true true q e h = false≢true e
    go true false q e h = below_zero (value_of bs) q h
    go false u q e h = false≢true e

at-digit : (b : ℕ) (bs : List ℕ) → eqb b 32 ≡ false → eqb b 45 ≡ false → column_of (b ∷ bs) ≡ positive (b ∷ bs)
unfolding column_of strip signed
at-digit b bs p q = simp (p, q)

digits_of : (b : ℕ) (bs : List ℕ) → eqb b 32 ≡ false → eqb b 45 ≡ false → formed (column_of (b ∷ bs)) ≡ true → all_digits (b ∷ bs) ≡ true
digits_of b bs p q e = number_digits (b ∷ bs) (positive-number (b ∷ bs) (rw (at-digit b bs p q) at e))

-- ---- one byte

sure-between : (k p b : ℕ) → leb (least_at k) b ≡ true → leb b (most_at k) ≡ true → eqb p 45 && eqb b 48 ≡ false → doubt k p b ≡ 0
unfolding doubt surely_right
sure-between k p b h g z = simp (h, g, z, or-true)

-- letters that take every digit
abbrev Digits : ℕ → Type 0
Digits k = (least_at k ≡ 48) × (most_at k ≡ 57)

sure-digit : (k p b : ℕ) → Digits k → is_digit b ≡ true → eqb p 45 && eqb b 48 ≡ false → doubt k p b ≡ 0
unfolding is_digit
sure-digit k p b d e z =
    let a = and-true (leb 48 b) (leb b 57) e in
    sure-between k p b (rw d.0 a.0) (rw d.1 a.1) z

last_digits : Digits 100
unfolding least_at most_at
last_digits = (refl, refl)

between-digits : (s : Bool) → Digits (between_letter s)
unfolding least_at most_at
between-digits true = (refl, refl)
between-digits false = (refl, refl)

first-digits : (s : Bool) → Digits (first_letter s)
unfolding least_at most_at
first-digits true = (refl, refl)
first-digits false = (refl, refl)

-- a space and a minus after a space, and at a column's first byte
space_between : (s : Bool) → doubt (between_letter s) 32 32 ≡ 0
unfolding doubt surely_right least_at most_at
space_between true = refl
space_between false = refl

minus-between : doubt 109 32 45 ≡ 0
unfolding doubt surely_right least_at most_at
minus-between = refl

space_first : (s : Bool) (p : ℕ) → doubt (first_letter s) p 32 ≡ 0
unfolding doubt surely_right least_at most_at
space_first true p = simp (or-true, and-false)
space_first false p = simp (or-true, and-false)

minus-first : (p : ℕ) → doubt 77 p 45 ≡ 0
unfolding doubt surely_right least_at most_at
minus-first p = simp (or-true, and-false)

-- ---- a column of any width, its last letter z

module _ (s : Bool) (z : ℕ) (last : Digits z) where
  -- digits behind p
  digits-none : (n p : ℕ) (l : List ℕ) → length l ≡ suc n → all_digits l ≡ true → zero_after_minus p l ≡ false → doubts_in (behind (between_letter s) z n) p l ≡ 0
  unfolding behind doubts_in all_digits zero_after_minus
  digits-none n p [] g d m = absurd (omega arith)
  digits-none zero p (b ∷ bs) g d m =
      let a = and-true (is_digit b) (all_digits bs) d in
      let q = or-false (eqb p 45 && eqb b 48) (zero_after_minus b bs) m in
      omega (arith, sure-digit z p b last a.0 q.0)
  digits-none (suc n) p (b ∷ bs) g d m =
      let a = and-true (is_digit b) (all_digits bs) d in
      let q = or-false (eqb p 45 && eqb b 48) (zero_after_minus b bs) m in
      omega (arith, sure-digit (between_letter s) p b (between-digits s) a.0 q.0, digits-none n b bs (omega arith) a.1 q.1)

  -- a minus stands only where one may
  signed-letter : (s : Bool) → (s ≡ false → ⊥) → doubt (between_letter s) 32 45 ≡ 0
  signed-letter true h = minus-between
  signed-letter false h = absurd (h refl)

  signed-first : (s : Bool) (p : ℕ) → (s ≡ false → ⊥) → doubt (first_letter s) p 45 ≡ 0
  signed-first true p h = minus-first p
  signed-first false p h = absurd (h refl)

  -- bytes after a space that are a column, without a minus where none may stand, and without a 0 right after one
  abbrev Column : List ℕ → Type 0
  Column l = (formed (column_of l) ≡ true) × (s ≡ false → le_z (pos 0) (integer (column_of l)) ≡ true)

  after_space : (b : ℕ) (bs : List ℕ) → b ≡ 32 → Column (b ∷ bs) → Column bs
  unfolding column_of strip
  after_space b bs e c = rw e at c

  after_minus : (b : ℕ) (bs : List ℕ) → b ≡ 45 → Column (b ∷ bs) → (all_digits bs ≡ true) × (s ≡ false → ⊥)
  unfolding column_of strip signed
  after_minus b bs e c =
      let f : formed (negative bs) ≡ true = rw e at c.0 in
      let i : s ≡ false → le_z (pos 0) (integer (negative bs)) ≡ true = rw e at c.1 in
      (number_digits bs (negative-number bs f), λ t. negative-below bs f (i t))

  one_byte : (b : ℕ) → Column (b ∷ []) → all_digits (b ∷ []) ≡ true
  unfolding column_of strip signed negative is_number
  one_byte b c = go (byte b)
    where
      go : Byte b → all_digits (b ∷ []) ≡ true
      go (v_space e) = absurd (false≢true (rw e at c.0))
      go (v_minus e) = absurd (false≢true (rw e at c.0))
      go (v_digit p q r) = digits_of b [] p q c.0
      go (v_other p q r) = digits_of b [] p q c.0

  none_after : (p b : ℕ) (bs : List ℕ) → zero_after_minus p (b ∷ bs) ≡ false → (eqb p 45 && eqb b 48 ≡ false) × (zero_after_minus b bs ≡ false)
  unfolding zero_after_minus
  none_after p b bs m = or-false (eqb p 45 && eqb b 48) (zero_after_minus b bs) m

  behind-none : (n : ℕ) (l : List ℕ) → length l ≡ suc n → Column l → zero_after_minus 32 l ≡ false → doubts_in (behind (between_letter s) z n) 32 l ≡ 0
  unfolding behind doubts_in
  behind-none n [] g c m = absurd (omega arith)
  behind-none zero (b ∷ d ∷ bs) g c m = absurd (omega arith)
  behind-none zero (b ∷ []) g c m = digits-none 0 32 (b ∷ []) g (one_byte b c) m
  behind-none (suc n) (b ∷ bs) g c m = go (byte b) (λ e. behind-none n bs (omega arith) (after_space b bs e c) (rw e at (none_after 32 b bs m).1))
    where
      go : Byte b → (b ≡ 32 → doubts_in (behind (between_letter s) z n) 32 bs ≡ 0) → doubts_in (behind (between_letter s) z (suc n)) 32 (b ∷ bs) ≡ 0
      go (v_space e) ih = rw e (omega (arith, space_between s, ih e))
      go (v_minus e) ih =
          let a = after_minus b bs e c in
          rw e (omega (arith, signed-letter s a.1, digits-none n 45 bs (omega arith) a.0 (rw e at (none_after 32 b bs m).1)))
      go (v_digit p q r) ih = digits-none (suc n) 32 (b ∷ bs) g (digits_of b bs p q c.0) m
      go (v_other p q r) ih = digits-none (suc n) 32 (b ∷ bs) g (digits_of b bs p q c.0) m

  -- from its first byte on
  column-none : (w p : ℕ) (l : List ℕ) → 1 ≤ w → length l ≡ w → Column l → zero_after_minus p l ≡ false → doubts_in (letters_in (first_letter s) (between_letter s) z w) p l ≡ 0
  unfolding letters_in behind doubts_in all_digits
  column-none zero p l h g c m = absurd (omega arith)
  column-none (suc w) p [] h g c m = absurd (omega arith)
  column-none (suc zero) p (b ∷ d ∷ bs) h g c m = absurd (omega arith)
  column-none (suc zero) p (b ∷ []) h g c m = digits-none 0 p (b ∷ []) g (one_byte b c) m
  column-none (suc (suc n)) p (b ∷ bs) h g c m = go (byte b)
    where
      digits : eqb b 32 ≡ false → eqb b 45 ≡ false → doubt (first_letter s) p b + doubts_in (behind (between_letter s) z n) b bs ≡ 0
      digits x y =
          let d = and-true (is_digit b) (all_digits bs) (digits_of b bs x y c.0) in
          let q = none_after p b bs m in
          omega (arith, sure-digit (first_letter s) p b (first-digits s) d.0 q.0, digits-none n b bs (omega arith) d.1 q.1)

      go : Byte b → doubt (first_letter s) p b + doubts_in (behind (between_letter s) z n) b bs ≡ 0
      go (v_space e) = rw e (omega (arith, space_first s p, behind-none n bs (omega arith) (after_space b bs e c) (rw e at (none_after p b bs m).1)))
      go (v_minus e) =
          let a = after_minus b bs e c in
          rw e (omega (arith, signed-first s p a.1, digits-none n 45 bs (omega arith) a.0 (rw e at (none_after p b bs m).1)))
      go (v_digit x y r) = digits x y
      go (v_other x y r) = digits x y

-- ---- spaces alone, where they may stand

all-spaces : (n : ℕ) (l : List ℕ) → length l ≡ suc n → spaces l ≡ true → doubts_in (behind 109 115 n) 32 l ≡ 0
unfolding behind doubts_in
all-spaces n [] g e = absurd (omega arith)
all-spaces zero (b ∷ bs) g e =
    let a = and-true (eqb b 32) (spaces bs) e in
    rw (eqb-true b 32 a.0) (omega (arith, space_between false))
all-spaces (suc n) (b ∷ bs) g e =
    let a = and-true (eqb b 32) (spaces bs) e in
    let h = all-spaces n bs (omega arith) a.1 in
    rw (eqb-true b 32 a.0) (omega (arith, space_between true, h))

spaces-none : (w p : ℕ) (l : List ℕ) → 2 ≤ w → length l ≡ w → spaces l ≡ true → doubts_in (letters_in 77 109 115 w) p l ≡ 0
unfolding letters_in doubts_in
spaces-none zero p l h g e = absurd (omega arith)
spaces-none (suc zero) p l h g e = absurd (omega arith)
spaces-none (suc (suc n)) p [] h g e = absurd (omega arith)
spaces-none (suc (suc n)) p (b ∷ bs) h g e =
    let a = and-true (eqb b 32) (spaces bs) e in
    let k = all-spaces n bs (omega arith) a.1 in
    rw (eqb-true b 32 a.0) (omega (arith, space_first true p, k))

-- ---- one digit, and -9 to 9

a-digit : (b : ℕ) → formed (column_of (b ∷ [])) ≡ true → is_digit b ≡ true
unfolding all_digits
a-digit b f = (and-true (is_digit b) true (one_byte true 100 last_digits b (f, λ t. absurd (false≢true (sym t))))).0

module _ (n m p b : ℕ) (f : formed (column_of (b ∷ [])) ≡ true) (i : inside (range n m) (integer (column_of (b ∷ []))) ≡ true) (z : eqb p 45 && eqb b 48 ≡ false) where
  in_range : (n ≤ b - 48) × (b - 48 ≤ m)
  in_range =
      let a = and-true (leb n (b - 48)) (leb (b - 48) m) (rw (one_digit b (a-digit b f)) at i) in
      (leb-true n (b - 48) a.0, leb-true (b - 48) m a.1)

  up-to-none : m ≤ 9 → doubt (48 + m) p b ≡ 0
  up-to-none h =
      let l : 48 ≤ b = digit-at-least b (a-digit b f) in
      let k : b - 48 ≤ m = in_range.1 in
      sure-between (48 + m) p b (rw (least-up-to m h) (le-leb 48 b l)) (rw (most-up-to m h) (le-leb b (48 + m) (omega arith))) z

  nine_none : n ≡ 1 → doubt 114 p b ≡ 0
  unfolding least_at most_at
  nine_none e =
      let k : n ≤ b - 48 = in_range.0 in
      sure-between 114 p b (le-leb 49 b (omega arith)) (le-leb b 57 (digit-at-most b (a-digit b f))) z

space_nine : (p : ℕ) → doubt 90 p 32 ≡ 0
unfolding doubt surely_right least_at most_at
space_nine p = simp (or-true, and-false)

minus_nine : (p : ℕ) → doubt 90 p 45 ≡ 0
unfolding doubt surely_right least_at most_at
minus_nine p = simp (or-true, and-false)

two_digits : (b q : ℕ) → column_of (b ∷ q ∷ []) ≡ positive (b ∷ q ∷ []) → all_digits (b ∷ q ∷ []) ≡ true → leb (nat_abs (integer (column_of (b ∷ q ∷ [])))) 9 ≡ true → b - 48 ≡ 0
unfolding positive is_number value_of
two_digits b q e d h =
    let k : (b - 48) * 10 ^ 1 + ((q - 48) * 10 ^ 0 + 0) ≤ 9 = leb-true _ 9 (rw (e, d) at h) in
    omega arith

module _ (p b q : ℕ) (f : formed (column_of (b ∷ q ∷ [])) ≡ true) (i : leb (nat_abs (integer (column_of (b ∷ q ∷ [])))) 9 ≡ true) (m : zero_after_minus p (b ∷ q ∷ []) ≡ false) where
  any : Column true 100 last_digits (b ∷ q ∷ [])
  any = (f, λ t. absurd (false≢true (sym t)))

  first-none : (eqb p 45 && eqb b 48 ≡ false) × (zero_after_minus b (q ∷ []) ≡ false)
  first-none = none_after true 100 last_digits p b (q ∷ []) m

  last_none : is_digit q ≡ true → doubt 100 b q ≡ 0
  last_none d = sure-digit 100 b q last_digits d (none_after true 100 last_digits b q [] first-none.1).0

  two_none : doubt 90 p b + (doubt 100 b q + 0) ≡ 0
  unfolding all_digits least_at most_at
  two_none = go (byte b)
    where
      digits : eqb b 32 ≡ false → eqb b 45 ≡ false → doubt 90 p b + (doubt 100 b q + 0) ≡ 0
      digits x y =
          let d = digits_of b (q ∷ []) x y f in
          let a = and-true (is_digit b) (is_digit q && true) d in
          let l : 48 ≤ b = digit-at-least b a.0 in
          let v : b - 48 ≡ 0 = two_digits b q (at-digit b (q ∷ []) x y) d i in
          omega (arith, sure-between 90 p b (le-leb 48 b l) (le-leb b 48 (omega arith)) first-none.0, last_none (and-true (is_digit q) true a.1).0)

      go : Byte b → doubt 90 p b + (doubt 100 b q + 0) ≡ 0
      go (v_space e) =
          let k = last_none (a-digit q (after_space true 100 last_digits b (q ∷ []) e any).0) in
          let j : doubt 90 p b ≡ 0 = rw e (space_nine p) in
          omega arith
      go (v_minus e) =
          let k = last_none (and-true (is_digit q) true (after_minus true 100 last_digits b (q ∷ []) e any).0).0 in
          let j : doubt 90 p b ≡ 0 = rw e (minus_nine p) in
          omega arith
      go (v_digit x y r) = digits x y
      go (v_other x y r) = digits x y

-- ---- a column by what is judged in it

anything_in : (w p : ℕ) (l : List ℕ) → doubts_in (replicate w 46) p l ≡ 0
unfolding doubts_in
anything_in zero p l = refl
anything_in (suc w) p [] = refl
anything_in (suc w) p (b ∷ bs) = omega (arith, anything p b, anything_in w b bs)

range_none : (n m w p : ℕ) (l : List ℕ) → length l ≡ w → has_letters (integral (range n m)) w ≡ true → formed (column_of l) ≡ true → inside (range n m) (integer (column_of l)) ≡ true → zero_after_minus p l ≡ false → doubts_in (ruled (range n m) w) p l ≡ 0
unfolding ruled doubts_in
range_none n m w p [] g h f i z = absurd (omega (arith, eqb-true w 1 (and-true (eqb w 1) ((eqb n 0 && leb m 9) || (eqb n 1 && eqb m 9)) h).0))
range_none n m w p (b ∷ c ∷ bs) g h f i z = absurd (omega (arith, eqb-true w 1 (and-true (eqb w 1) ((eqb n 0 && leb m 9) || (eqb n 1 && eqb m 9)) h).0))
range_none n m w p (b ∷ []) g h f i z =
    let a = and-true (eqb w 1) ((eqb n 0 && leb m 9) || (eqb n 1 && eqb m 9)) h in
    rw a.0 (go (eqb n 0 && leb m 9) (eqb n 1 && eqb m 9) refl refl a.1)
  where
    y : eqb p 45 && eqb b 48 ≡ false
    y = (none_after true 100 last_digits p b [] z).0

    go : (t u : Bool) → eqb n 0 && leb m 9 ≡ t → eqb n 1 && eqb m 9 ≡ u → t || u ≡ true → doubts_in (cond t ((48 + m) ∷ []) (cond u (114 ∷ []) (replicate w 33))) p (b ∷ []) ≡ 0
    go true u et eu e = omega (arith, up-to-none n m p b f i y (leb-true m 9 (and-true (eqb n 0) (leb m 9) et).1))
    go false true et eu e = omega (arith, nine_none n m p b f i y (eqb-true n 1 (and-true (eqb n 1) (eqb m 9) eu).0))
    go false false et eu e = absurd (false≢true e)

within_none : (n w p : ℕ) (l : List ℕ) → length l ≡ w → has_letters (integral (within n)) w ≡ true → formed (column_of l) ≡ true → inside (within n) (integer (column_of l)) ≡ true → zero_after_minus p l ≡ false → doubts_in (ruled (within n) w) p l ≡ 0
unfolding ruled doubts_in
within_none n w p l g h f i z =
    let a = and-true (eqb w 2) (eqb n 9) h in
    rw h (go l (omega (arith, eqb-true w 2 a.0)) f (rw (eqb-true n 9 a.1) at i) z)
  where
    go : (l : List ℕ) → length l ≡ 2 → formed (column_of l) ≡ true → leb (nat_abs (integer (column_of l))) 9 ≡ true → zero_after_minus p l ≡ false → doubts_in (90 ∷ 100 ∷ []) p l ≡ 0
    go [] g f i z = absurd (omega arith)
    go (b ∷ []) g f i z = absurd (omega arith)
    go (b ∷ q ∷ c ∷ bs) g f i z = absurd (omega arith)
    go (b ∷ q ∷ []) g f i z = two_none p b q f i z

exact : (k : What) (w p : ℕ) (l : List ℕ) → 1 ≤ w → length l ≡ w → has_letters k w ≡ true → NoFault k l → no_zero_after_minus k p l ≡ true → doubts_in (letters_for k w) p l ≡ 0
unfolding letters_for ruled
exact text w p l h g t c z = anything_in w p l
exact blank w p l h g t c z = anything_in w p l
exact (integral any_sign) w p l h g t c z = column-none true 100 last_digits w p l h g (c.is_formed_lem, λ e. absurd (false≢true (sym e))) (not-true (zero_after_minus p l) z)
exact (integral (at_least n)) w p l h g t c z = column-none false 100 last_digits w p l h g (c.is_formed_lem, λ e. c.is_inside_lem) (not-true (zero_after_minus p l) z)
exact (integral (range n m)) w p l h g t c z = range_none n m w p l g t c.is_formed_lem c.is_inside_lem (not-true (zero_after_minus p l) z)
exact (integral (within n)) w p l h g t c z = within_none n w p l g t c.is_formed_lem c.is_inside_lem (not-true (zero_after_minus p l) z)
exact (integral (one_of ns)) w p l h g t c z = column-none false 100 last_digits w p l h g (c.is_formed_lem, λ e. c.is_inside_lem) (not-true (zero_after_minus p l) z)
exact integral_or_spaces w p l h g t c z = go (spaces l) refl c.is_formed_lem
  where
    go : (b : Bool) → spaces l ≡ b → b || formed (column_of l) ≡ true → doubts_in (letters_in 77 109 115 w) p l ≡ 0
    go true e f = spaces-none w p l (leb-true 2 w t) g e
    go false e f = column-none true 115 (between-digits false) w p l h g (f, λ e. absurd (false≢true (sym e))) (not-true (zero_after_minus p l) z)

-- only the bytes that have letters count
in_front : (ks : List ℕ) (p : ℕ) (l : List ℕ) → doubts_in ks p l ≡ doubts_in ks p (take (length ks) l)
unfolding doubts_in
in_front [] p l = refl
in_front (k ∷ ks) p [] = refl
in_front (k ∷ ks) p (b ∷ bs) = rw (in_front ks b bs)

no_doubt : (k : What) (w p : ℕ) (l : List ℕ) → 1 ≤ w → w ≤ length l → has_letters k w ≡ true → NoFault k (take w l) → no_zero_after_minus k p (take w l) ≡ true → doubts_in (letters_for k w) p l ≡ 0
no_doubt k w p l h g t c z =
    in_front (letters_for k w) p l ∙ rw (length_for k w) (exact k w p (take w l) h (length-take-le w l g) t c z)

-- ---- no 0 right after a minus

not_zero : (k p b : ℕ) → eqb k 46 ≡ false → doubt k p b ≡ 0 → eqb p 45 && eqb b 48 ≡ false
not_zero k p b n e = go (told k p b n (right-at k p b e))
  where
    go : Seen k p b → eqb p 45 && eqb b 48 ≡ false
    go (t_digit l m z) = z
    go (t_space q x f) = rw q (simp and-false)
    go (t_minus q x f) = rw q (simp and-false)

-- letters none of which takes anything
abbrev none_free : List ℕ → Bool
none_free [] = true
none_free (k ∷ ks) = not (eqb k 46) && none_free ks

free_behind : (a z n : ℕ) → eqb a 46 ≡ false → eqb z 46 ≡ false → none_free (behind a z n) ≡ true
unfolding behind
free_behind a z zero e f = simp f
free_behind a z (suc n) e f = simp (e, free_behind a z n e f)

free_letters : (i a z w : ℕ) → eqb i 46 ≡ false → eqb a 46 ≡ false → eqb z 46 ≡ false → none_free (letters_in i a z w) ≡ true
unfolding letters_in
free_letters i a z zero d e f = refl
free_letters i a z (suc zero) d e f = simp f
free_letters i a z (suc (suc n)) d e f = simp (d, free_behind a z n e f)

free_never : (w : ℕ) → none_free (replicate w 33) ≡ true
free_never zero = refl
free_never (suc w) = free_never w

free_rule : (rule : Rule) (w : ℕ) → none_free (ruled rule w) ≡ true
unfolding ruled
free_rule any_sign w = free_letters 77 109 100 w refl refl refl
free_rule (at_least n) w = free_letters 83 115 100 w refl refl refl
free_rule (range n m) w = go (eqb w 1 && (eqb n 0 && leb m 9)) (eqb w 1 && (eqb n 1 && eqb m 9))
  where
    go : (t u : Bool) → none_free (cond t ((48 + m) ∷ []) (cond u (114 ∷ []) (replicate w 33))) ≡ true
    go true u = simp (ne_eqb (48 + m) 46 (λ (e : 48 + m ≡ 46). omega arith))
    go false true = refl
    go false false = free_never w
free_rule (within n) w = go (eqb w 2 && eqb n 9)
  where
    go : (t : Bool) → none_free (cond t (90 ∷ 100 ∷ []) (replicate w 33)) ≡ true
    go true = refl
    go false = free_never w
free_rule (one_of ns) w = free_letters 83 115 100 w refl refl refl

none-there : (ks : List ℕ) (p : ℕ) (l : List ℕ) → none_free ks ≡ true → length ks ≤ length l → doubts_in ks p l ≡ 0 → zero_after_minus p (take (length ks) l) ≡ false
unfolding doubts_in zero_after_minus
none-there [] p l n h e = refl
none-there (k ∷ ks) p [] n h e = absurd (omega arith)
none-there (k ∷ ks) p (b ∷ bs) n h e =
    let a = and-true (not (eqb k 46)) (none_free ks) n in
    rw (not_zero k p b (not-true (eqb k 46) a.0) (omega arith), none-there ks b bs a.1 (omega arith) (omega arith))

plain_at : (ks : List ℕ) (w p : ℕ) (l : List ℕ) → length ks ≡ w → none_free ks ≡ true → w ≤ length l → doubts_in ks p l ≡ 0 → not (zero_after_minus p (take w l)) ≡ true
plain_at ks w p l g n h e =
    let z = none-there ks p l n (omega arith) e in
    rw (rw g at z)

is_plain : (k : What) (w p : ℕ) (l : List ℕ) → w ≤ length l → doubts_in (letters_for k w) p l ≡ 0 → no_zero_after_minus k p (take w l) ≡ true
unfolding letters_for
is_plain text w p l h e = refl
is_plain blank w p l h e = refl
is_plain (integral rule) w p l h e = plain_at (ruled rule w) w p l (length_for (integral rule) w) (free_rule rule w) h e
is_plain integral_or_spaces w p l h e = plain_at (letters_in 77 109 115 w) w p l (length_for integral_or_spaces w) (free_letters 77 109 115 w refl refl refl) h e

-- ---- exactly

pub at_once : (k : What) (w p : ℕ) (l : List ℕ) → has_letters k w ≡ true → 1 ≤ w → w ≤ length l → eqb (doubts_in (letters_for k w) p l) 0 ≡ told_at_once k p (take w l)
at_once k w p l t g h = go (eqb (doubts_in (letters_for k w) p l) 0) (told_at_once k p (take w l)) refl refl
  where
    there : told_at_once k p (take w l) ≡ true → doubts_in (letters_for k w) p l ≡ 0
    there e =
        let a = and-true (is_formed k (take w l)) (is_inside (looser k) (take w l) && no_zero_after_minus k p (take w l)) e in
        let b = and-true (is_inside (looser k) (take w l)) (no_zero_after_minus k p (take w l)) a.1 in
        no_doubt k w p l g h t (record { is_formed_lem = a.0; is_inside_lem = b.0 }) b.1

    back : doubts_in (letters_for k w) p l ≡ 0 → told_at_once k p (take w l) ≡ true
    back e =
        let n = no_fault k w p l g h e in
        true_and (is_formed k (take w l)) (is_inside (looser k) (take w l) && no_zero_after_minus k p (take w l)) n.is_formed_lem
        (true_and (is_inside (looser k) (take w l)) (no_zero_after_minus k p (take w l)) n.is_inside_lem (is_plain k w p l h e))

    go : (x y : Bool) → eqb (doubts_in (letters_for k w) p l) 0 ≡ x → told_at_once k p (take w l) ≡ y → x ≡ y
    go true y e f = sym (back (eqb-true (doubts_in (letters_for k w) p l) 0 e)) ∙ f
    go false true e f = absurd (eqb-false (doubts_in (letters_for k w) p l) 0 e (there f))
    go false false e f = refl

-- ---- what the contract says of one byte

pub answered : (letter before byte r : ℕ) → r ≡ doubt letter before byte → Told letter before byte r
answered letter before byte r e = record { is = e; columns = at_once }
