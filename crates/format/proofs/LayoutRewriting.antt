-- One column of a record written anew: what the layout's table says of the others stays. Assumes nothing.
use mathlib.Core.Path.{◌≡◌, refl, ap, ◌∙◌}
use mathlib.Core.Bool.{Bool, true, false, ◌&&◌, ◌||◌, false≢true}
use mathlib.Core.List.{List, [], ◌∷◌}
use Prim.Native.Nat.{ℕ, ◌+◌, ◌^◌, ◌≤◌, ◌<◌}
use native.Mathlib.Omega.{arith}
use borrow.Author.Tests.{leb-true, le-leb, eqb-true}
use lib.Dec.{eqb, leb}
use lib.IntN.{pos}
use lib.Signed.{le_z}
use lib.ListN.{length}
use Rattle.format.specs.declared.Column.{Column}
use Rattle.format.specs.declared.Column.TheVariants.{Value}
use Rattle.format.specs.Basics.{unless}
use Rattle.format.specs.Column.{column_of, formed, integer, written}
use Rattle.format.specs.Layout.{any_sign, at_least, range, within, one_of, What, text, blank, integral, integral_or_spaces, Col, column, splice, bytes_of, is_formed, is_inside, all_formed, all_inside, column_fault}
use Rattle.format.proofs.Basics.{and-true, true_and, first_zero, zero_first, unless_zero, zero_unless}
use Rattle.format.proofs.Columns.{Apart, left, right, length-written, length-splice, read_written, column-own, column-other}

-- an integer of at least 0
abbrev pub is_natural : What → Bool
is_natural text = false
is_natural blank = false
is_natural (integral any_sign) = false
is_natural (integral (at_least n)) = eqb n 0
is_natural (integral (range n m)) = false
is_natural (integral (within n)) = false
is_natural (integral (one_of ns)) = false
is_natural integral_or_spaces = false

-- a column shares no byte with the W bytes from S on, or is just those and holds an integer of at least 0
abbrev pub apart : ℕ → ℕ → Col → Bool
apart S W c = leb (c.start + c.width) S || leb (S + W) c.start

abbrev pub clear : ℕ → ℕ → Col → Bool
clear S W c = apart S W c || (eqb c.start S && eqb c.width W && is_natural c.what)

abbrev pub clear_all : ℕ → ℕ → List Col → Bool
clear_all S W [] = true
clear_all S W (c ∷ cs) = clear S W c && clear_all S W cs

pub apart_is : (S W : ℕ) (c : Col) → apart S W c ≡ true → Apart c.start c.width S W
apart_is S W c e = go (leb (c.start + c.width) S) refl e
  where
    go : (t : Bool) → leb (c.start + c.width) S ≡ t → t || leb (S + W) c.start ≡ true → Apart c.start c.width S W
    go true p q = left (leb-true _ _ p)
    go false p q = right (leb-true _ _ q)

natural-formed : (w : What) (bs : List ℕ) (x : ℕ) → is_natural w ≡ true → column_of bs ≡ Value (pos x) → is_formed w bs ≡ true
natural-formed text bs x n e = absurd (false≢true n)
natural-formed blank bs x n e = absurd (false≢true n)
natural-formed (integral rule) bs x n e = ap formed e
natural-formed integral_or_spaces bs x n e = absurd (false≢true n)

natural-inside : (w : What) (bs : List ℕ) (x : ℕ) → is_natural w ≡ true → column_of bs ≡ Value (pos x) → is_inside w bs ≡ true
natural-inside text bs x n e = absurd (false≢true n)
natural-inside blank bs x n e = absurd (false≢true n)
natural-inside (integral any_sign) bs x n e = refl
natural-inside (integral (at_least m)) bs x n e = ap (λ (c : Column). le_z (pos m) (integer c)) e ∙ le-leb m x (omega (arith, eqb-true m 0 n))
natural-inside (integral (range a b)) bs x n e = absurd (false≢true n)
natural-inside (integral (within m)) bs x n e = absurd (false≢true n)
natural-inside (integral (one_of ns)) bs x n e = absurd (false≢true n)
natural-inside integral_or_spaces bs x n e = absurd (false≢true n)

-- a number x written in the W bytes from S on
module _ (S W x : ℕ) (r : List ℕ) (some : 0 < W) (most : W ≤ 20) (fits : x < 10 ^ W) (room : S + W ≤ length r) where
  abbrev new : List ℕ
  new = splice S W (written W (pos x)) r

  pub new_length : length (splice S W (written W (pos x)) r) ≡ length r
  new_length = length-splice S W (written W (pos x)) r (length-written W (pos x)) room

  pub new_own : column_of (column S W (splice S W (written W (pos x)) r)) ≡ Value (pos x)
  new_own = ap column_of (column-own S W (written W (pos x)) r (length-written W (pos x)) room) ∙ read_written W x some most fits

  pub new_other : (a v : ℕ) → Apart a v S W → column a v (splice S W (written W (pos x)) r) ≡ column a v r
  new_other a v h = column-other S W (written W (pos x)) r (length-written W (pos x)) room a v h

  data Kept (c : Col) : Type 0 where
    same : bytes_of c new ≡ bytes_of c r → Kept c
    own : is_natural c.what ≡ true → column_of (bytes_of c new) ≡ Value (pos x) → Kept c

  kept : (c : Col) → clear S W c ≡ true → Kept c
  kept c e = go (apart S W c) refl e
    where
      go : (t : Bool) → apart S W c ≡ t → t || (eqb c.start S && eqb c.width W && is_natural c.what) ≡ true → Kept c
      go true p q = same (new_other c.start c.width (apart_is S W c p))
      go false p q =
          let y = and-true _ _ q in
          let z = and-true _ _ y.0 in
          own y.1 (rw (eqb-true c.start S z.0, eqb-true c.width W z.1) new_own)

  formed-kept : (l : List Col) → clear_all S W l ≡ true → all_formed l r ≡ true → all_formed l new ≡ true
  unfolding all_formed
  formed-kept [] c f = refl
  formed-kept (x₁ ∷ l) c f = let y = and-true (clear S W x₁) _ c in let z = and-true (is_formed x₁.what (bytes_of x₁ r)) _ f in true_and _ _ (one (kept x₁ y.0) z.0) (formed-kept l y.1 z.1)
    where
      one : Kept x₁ → is_formed x₁.what (bytes_of x₁ r) ≡ true → is_formed x₁.what (bytes_of x₁ new) ≡ true
      one (same e) h = ap (is_formed x₁.what) e ∙ h
      one (own n e) h = natural-formed x₁.what (bytes_of x₁ new) x n e

  inside-kept : (l : List Col) → clear_all S W l ≡ true → all_inside l r ≡ true → all_inside l new ≡ true
  unfolding all_inside
  inside-kept [] c f = refl
  inside-kept (x₁ ∷ l) c f = let y = and-true (clear S W x₁) _ c in let z = and-true (is_inside x₁.what (bytes_of x₁ r)) _ f in true_and _ _ (one (kept x₁ y.0) z.0) (inside-kept l y.1 z.1)
    where
      one : Kept x₁ → is_inside x₁.what (bytes_of x₁ r) ≡ true → is_inside x₁.what (bytes_of x₁ new) ≡ true
      one (same e) h = ap (is_inside x₁.what) e ∙ h
      one (own n e) h = natural-inside x₁.what (bytes_of x₁ new) x n e

  -- a record whose columns are in order stays so
  pub column_fault-kept : (l : List Col) → clear_all S W l ≡ true → column_fault l r ≡ 0 → column_fault l (splice S W (written W (pos x)) r) ≡ 0
  unfolding column_fault
  column_fault-kept l c f = let y = first_zero (unless (all_formed l r) 5) _ f in zero_first _ _ (zero_unless _ 5 (formed-kept l c (unless_zero _ _ y.0))) (zero_unless _ 6 (inside-kept l c (unless_zero _ _ y.1)))
