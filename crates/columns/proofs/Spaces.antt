-- `spaces_at` in the code's own words, and what callers cite of them. Assumes nothing.
use mathlib.Core.Path.{◌≡◌, ap, sym, ◌∙◌}
use mathlib.Core.Bool.{Bool, true, false}
use mathlib.Core.List.{List}
use Prim.Native.Nat.{ℕ, ◌+◌, ◌-◌, ◌≤◌}
use native.Mathlib.Nat.{add-sub_cancel_left}
use borrow.Author.Tests.{le-leb, leb-true}
use lib.Dec.{leb}
use lib.ListN.{length, take, drop}
use Rattle.format.specs.Layout.{column, spaces}
use Rattle.columns.specs.InRecord.{spaces_at}

module _ (l : List ℕ) (start width : ℕ) where
  -- in a record that has room for it
  pub spaces-at-inside : start + width ≤ length l → spaces_at l start width ≡ spaces (column start width l)
  unfolding spaces_at
  spaces-at-inside h = simp (le-leb (start + width) (length l) h)

  -- b is the test that they are whole inside the record
  module _ (b : Bool) (e : b ≡ leb (start + width) (length l)) where
    pub not-inside : b ≡ false → b ≡ spaces_at l start width
    unfolding spaces_at
    not-inside h = h ∙ rw (sym e ∙ h)

    pub part-spaces : (t : Bool) → t ≡ spaces (take (start + width - start) (drop start l)) → b ≡ true → t ≡ spaces_at l start width
    unfolding column
    part-spaces t f h = f ∙ ap (λ (n : ℕ). spaces (take n (drop start l))) (add-sub_cancel_left start width) ∙ sym (spaces-at-inside (leb-true (start + width) (length l) (sym e ∙ h)))
