-- A column's number lies between the least and the greatest that its width holds. It is inside its rule exactly when it lies between the
-- least and the greatest that the rule allows there and, where the rule is a list, is one of the list. Assumes nothing.
use mathlib.Core.Path.{◌≡◌, refl, sym, ◌∙◌}
use mathlib.Core.Bool.{Bool, true, false, cond, ◌&&◌, ◌||◌, and-true, and-false, and-eq-true_iff, false≢true}
use mathlib.Core.List.{List, [], ◌∷◌, foldr}
use Prim.Native.Nat.{ℕ, zero, suc, ◌-◌, ◌^◌, ◌≤◌, ◌<◌, min, max}
use native.Mathlib.Nat.{min-le_left, min-le_right, le-max_left, le-max_right, pow-le-pow_right}
use native.Mathlib.Omega.{arith}
use borrow.Author.Tests.{le-leb, leb-true, eqb-true, ne_eqb}
use lib.Dec.{leb, eqb, leb-zero}
use lib.IntN.{ℤ, pos, negsuc, neg_ℤ}
use lib.Signed.{le_z}
use lib.ListN.{length}
use Rattle.format.specs.declared.Column.{Column}
use Rattle.format.specs.declared.Column.TheVariants.{Value, MinusZero, Malformed}
use Rattle.format.specs.Basics.{minus, member}
use Rattle.format.specs.Column.{strip, is_digit, all_digits, value_of, is_number, negative, positive, signed, column_of, integer, number_of}
use Rattle.format.specs.Layout.{Rule, any_sign, at_least, range, within, one_of, is_one, inside}
use Rattle.format.proofs.Columns.{number-below, strip-short}
use Rattle.format.proofs.ColumnFits.{minus_pos, size-range}
pub use Rattle.layouts.specs.Tables.{listed}
use Rattle.layouts.specs.Tables.{low, high}

-- ---- what a width holds
pub at_most : (l : List ℕ) → le_z (integer (column_of l)) (pos (10 ^ length l - 1)) ≡ true
at_most l = go (column_of l) (number-below l)
  where
    go : (c : Column) → number_of c < 10 ^ length l → le_z (integer c) (pos (10 ^ length l - 1)) ≡ true
    go (Value (pos n)) h = le-leb n (10 ^ length l - 1) (omega arith)
    go (Value (negsuc n)) h = refl
    go MinusZero h = leb-zero (10 ^ length l - 1)
    go Malformed h = leb-zero (10 ^ length l - 1)

minus-below-minus : (m n : ℕ) → n ≤ m → le_z (minus m) (minus n) ≡ true
minus-below-minus m zero h = minus_pos m 0
minus-below-minus zero (suc n) h = absurd (omega arith)
minus-below-minus (suc m) (suc n) h = le-leb n m (omega arith)

-- digits alone are a column of their own, whose number is theirs
value_below : (bs : List ℕ) → is_number bs ≡ true → value_of bs < 10 ^ length bs
unfolding is_number all_digits is_digit column_of strip signed positive
value_below [] e = absurd (false≢true e)
value_below (b ∷ bs) e = simp (other 32 (omega arith), other 45 (omega arith), e) at (number-below (b ∷ bs))
  where
    digit : 48 ≤ b
    digit = leb-true 48 b ((and-eq-true_iff (leb 48 b) (leb b 57)).0 ((and-eq-true_iff (leb 48 b && leb b 57) (all_digits bs)).0 e).0).0

    other : (n : ℕ) → n < 48 → eqb b n ≡ false
    other n h = ne_eqb b n (λ (p : b ≡ n). omega (arith, digit))

-- behind a minus stand at most w digits
negative-least : (bs : List ℕ) (w : ℕ) → length bs ≤ w → le_z (minus (10 ^ w - 1)) (integer (negative bs)) ≡ true
unfolding negative
negative-least bs w h = go (is_number bs) (eqb (value_of bs) 0) refl
  where
    go : (t u : Bool) → is_number bs ≡ t → le_z (minus (10 ^ w - 1)) (integer (cond t (cond u MinusZero (Value (neg_ℤ (pos (value_of bs))))) Malformed)) ≡ true
    go true true e = minus_pos (10 ^ w - 1) 0
    go true false e = minus-below-minus (10 ^ w - 1) (value_of bs) (omega (arith, value_below bs e, pow-le-pow_right {n = 10} (omega arith) h))
    go false u e = minus_pos (10 ^ w - 1) 0

positive-least : (bs : List ℕ) (m : ℕ) → le_z (minus m) (integer (positive bs)) ≡ true
unfolding positive
positive-least bs m = go (is_number bs)
  where
    go : (t : Bool) → le_z (minus m) (integer (cond t (Value (pos (value_of bs))) Malformed)) ≡ true
    go true = minus_pos m (value_of bs)
    go false = minus_pos m 0

signed-least : (t : List ℕ) (w : ℕ) → length t ≤ w → le_z (minus (10 ^ (w - 1) - 1)) (integer (signed t)) ≡ true
unfolding signed
signed-least [] w h = minus_pos (10 ^ (w - 1) - 1) 0
signed-least (b ∷ bs) w h = go (eqb b 45)
  where
    go : (t : Bool) → le_z (minus (10 ^ (w - 1) - 1)) (integer (cond t (negative bs) (positive (b ∷ bs)))) ≡ true
    go true = negative-least bs (w - 1) (omega arith)
    go false = positive-least (b ∷ bs) (10 ^ (w - 1) - 1)

pub at-least : (l : List ℕ) → le_z (minus (10 ^ (length l - 1) - 1)) (integer (column_of l)) ≡ true
unfolding column_of
at-least l = signed-least (strip l) (length l) (strip-short l)

-- ---- what a rule allows
-- the numbers of a list lie between its ends
from-least : (k top : ℕ) (ns : List ℕ) → member k ns ≡ true → foldr min top ns ≤ k
from-least k top [] e = absurd (false≢true e)
from-least k top (n ∷ ns) e = go (eqb k n) refl e (from-least k top ns)
  where
    go : (t : Bool) → eqb k n ≡ t → t || member k ns ≡ true → (member k ns ≡ true → foldr min top ns ≤ k) → min n (foldr min top ns) ≤ k
    go true p q ih = omega (arith, eqb-true k n p, min-le_left n (foldr min top ns))
    go false p q ih = omega (arith, ih q, min-le_right n (foldr min top ns))

to-greatest : (k : ℕ) (ns : List ℕ) → member k ns ≡ true → k ≤ foldr max 0 ns
to-greatest k [] e = absurd (false≢true e)
to-greatest k (n ∷ ns) e = go (eqb k n) refl e (to-greatest k ns)
  where
    go : (t : Bool) → eqb k n ≡ t → t || member k ns ≡ true → (member k ns ≡ true → k ≤ foldr max 0 ns) → k ≤ max n (foldr max 0 ns)
    go true p q ih = omega (arith, eqb-true k n p, le-max_left n (foldr max 0 ns))
    go false p q ih = omega (arith, ih q, le-max_right n (foldr max 0 ns))

pub list-between : (z : ℤ) (top : ℕ) (ns : List ℕ) → is_one z ns ≡ le_z (pos (foldr min top ns)) z && (le_z z (pos (foldr max 0 ns)) && is_one z ns)
list-between (negsuc n) top ns = refl
list-between (pos k) top ns = go (member k ns) refl
  where
    go : (t : Bool) → member k ns ≡ t → member k ns ≡ leb (foldr min top ns) k && (leb k (foldr max 0 ns) && member k ns)
    go true e = simp (e, le-leb _ _ (from-least k top ns e), le-leb _ _ (to-greatest k ns e))
    go false e = simp (e, and-false)

pub inside-between : (rule : Rule) (l : List ℕ) → inside rule (integer (column_of l)) ≡ le_z (low rule (length l)) (integer (column_of l)) && (le_z (integer (column_of l)) (high rule (length l)) && listed rule (integer (column_of l)))
inside-between any_sign l = simp (at-least l, at_most l)
inside-between (at_least n) l = simp (at_most l, and-true)
inside-between (range n m) l = simp and-true
inside-between (within n) l = sym (size-range n (integer (column_of l))) ∙ simp and-true
inside-between (one_of ns) l = list-between (integer (column_of l)) (10 ^ length l - 1) ns
