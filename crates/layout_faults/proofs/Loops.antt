-- A malformed integer, the loop of `all_inside`, and `is_listed`, in the code's own words. Assumes nothing.
use mathlib.Core.Path.{◌≡◌, refl, sym, ap₂, ◌∙◌}
use mathlib.Core.Bool.{Bool, true, false, ◌&&◌, ◌||◌, and_assoc, and-true, false≢true, true≢false}
use mathlib.Core.List.{List, [], ◌∷◌}
use Prim.Native.Nat.{ℕ, ◌+◌, ◌≤◌, ◌<◌}
use native.Mathlib.Numerals.{add-one}
use borrow.Author.Tests.{eqb-true, eqb-false, ne_eqb, eq-eqb}
use lib.Dec.{eqb, leb-zero}
use lib.IntN.{ℤ, pos, negsuc, nat_abs}
use lib.Signed.{le_z}
use lib.ListN.{length, drop, get_or, drop_of_length-le}
use lib.Seq.{drop-cons}
use mir.Syntax.{w64}
use mir.Val.{SFits, to_z, of_z}
use mir.ValLaws.{to_z-of_z}
use Rattle.std.specs.Prelude.{Some, None}
use Rattle.std.specs.List.{list_any}
use Rattle.format.specs.declared.Column.{Column}
use Rattle.format.specs.declared.Column.TheVariants.{Value}
use Rattle.format.specs.Basics.{member}
use Rattle.format.specs.Column.{integer}
use Rattle.format.specs.Layout.{is_one}
use Rattle.format.proofs.Columns.{other_tag}
use Rattle.columns.specs.InRecord.{column_at}
use Rattle.layouts.specs.declared.TableColumn.{TableColumn}
use Rattle.layout_faults.specs.Tables.{formed_by, between_by, inside_if, integer_told, told, formed_at, between_at, table_told, listed_at}

-- ---- `integer_inside`

module _ (l : List ℕ) (column : TableColumn) (c : Column) (e : c ≡ column_at l column.start column.width) where
  pub integer-malformed : ((z : ℤ) → c ≡ Value z → ⊥) → None ≡ integer_told l column
  unfolding integer_told
  integer-malformed n = rw (← e, other_tag c n)

-- ---- `all_inside`

module _ (l : List ℕ) (table : List TableColumn) (i : ℕ) (d : TableColumn) (h : i < length table) where
  next-row : drop i table ≡ get_or table i d ∷ drop (i + 1) table
  next-row = rw (add-one i) (drop-cons table i d h)

  -- a malformed column: none is inside
  pub malformed_row : None ≡ told l (get_or table i d) → formed_at l (drop i table) ≡ formed_at l table → None ≡ table_told l table
  unfolding told formed_at table_told
  malformed_row e k = go (formed_by (get_or table i d).form l (get_or table i d)) e (rw next-row at k)
    where
      go : (f : Bool) → None ≡ inside_if f (between_by (get_or table i d).form l (get_or table i d)) → f && formed_at l (drop (i + 1) table) ≡ formed_at l table → None ≡ inside_if (formed_at l table) (between_at l table)
      go false e k = rw (← k) refl
      go true e k = absurd (cc)

  -- another
  module _ (inside : Bool) (e : Some inside ≡ told l (get_or table i d)) where
    row-formed : formed_by (get_or table i d).form l (get_or table i d) ≡ true
    unfolding told
    row-formed = go (formed_by (get_or table i d).form l (get_or table i d)) e
      where
        go : (f : Bool) → Some inside ≡ inside_if f (between_by (get_or table i d).form l (get_or table i d)) → f ≡ true
        go true e = refl
        go false e = absurd (cc)

    row-inside : inside ≡ between_by (get_or table i d).form l (get_or table i d)
    unfolding told
    row-inside = let k : Some inside ≡ Some (between_by (get_or table i d).form l (get_or table i d)) = rw row-formed at e in cc

    pub formed_again : formed_at l (drop i table) ≡ formed_at l table → formed_at l (drop (i + 1) table) ≡ formed_at l table
    unfolding formed_at
    formed_again k = rw (next-row, row-formed) at k

    pub between_again : (before : Bool) → before && between_at l (drop i table) ≡ between_at l table → (before && inside) && between_at l (drop (i + 1) table) ≡ between_at l table
    unfolding between_at
    between_again before k = rw (and_assoc, row-inside) (rw next-row at k)

-- all columns are read
pub all_read : (l : List ℕ) (table : List TableColumn) (i : ℕ) (inside : Bool) → length table ≤ i → formed_at l (drop i table) ≡ formed_at l table → inside && between_at l (drop i table) ≡ between_at l table → Some inside ≡ table_told l table
unfolding formed_at between_at table_told
all_read l table i inside h f b =
    let e : drop i table ≡ [] = drop_of_length-le table h in
    rw (← f, ← b, e, and-true) refl

-- ---- `is_listed`

equal_either_way : (x n : ℕ) → eqb x n ≡ eqb n x
equal_either_way x n = go (eqb n x) refl
  where
    go : (t : Bool) → eqb n x ≡ t → eqb x n ≡ t
    go true e = eq-eqb x n (sym (eqb-true n x e))
    go false e = ne_eqb x n (λ (p : x ≡ n). eqb-false n x e (sym p))

any_member : (n : ℕ) (numbers : List ℕ) → list_any (λ (x : ℕ). eqb x n) numbers ≡ member n numbers
any_member n [] = refl
any_member n (x ∷ xs) = ap₂ ◌||◌ (equal_either_way x n) (any_member n xs)

module _ (l : List ℕ) (start width : ℕ) (numbers : List ℕ) (z : ℤ) (e : z ≡ integer (column_at l start width)) (s : SFits w64 z) where
  pub below_zero : le_z (pos 0) (to_z w64 (of_z w64 z)) ≡ false → le_z (pos 0) (to_z w64 (of_z w64 z)) ≡ listed_at l start width numbers
  unfolding listed_at
  below_zero h = rw (← e, to_z-of_z w64 z s) (go z (rw (to_z-of_z w64 z s) at h))
    where
      go : (z : ℤ) → le_z (pos 0) z ≡ false → le_z (pos 0) z ≡ is_one z numbers
      go (pos n) h = absurd (true≢false (sym (leb-zero n) ∙ h))
      go (negsuc n) h = refl

  pub one_of_them : (n : ℕ) (r : Bool) → le_z (pos 0) (to_z w64 (of_z w64 z)) ≡ true → n ≡ nat_abs (to_z w64 (of_z w64 z)) → r ≡ list_any (λ (x : ℕ). eqb x n) numbers → r ≡ listed_at l start width numbers
  unfolding listed_at
  one_of_them n r h k m = m ∙ any_member n numbers ∙ rw (← e, k, to_z-of_z w64 z s) (go z (rw (to_z-of_z w64 z s) at h))
    where
      go : (z : ℤ) → le_z (pos 0) z ≡ true → member (nat_abs z) numbers ≡ is_one z numbers
      go (pos n) h = refl
      go (negsuc n) h = absurd (false≢true h)
