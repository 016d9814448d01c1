-- The number of a column inside a record, in the code's own words, and that it is below its width's power of ten. Assumes nothing.
use mathlib.Core.Path.{◌≡◌, refl, ap, ◌∙◌}
use mathlib.Core.Bool.{Bool, true, false, cond, ◌&&◌}
use mathlib.Core.List.{List}
use Prim.Native.Nat.{ℕ, zero, suc, ◌+◌, ◌^◌, ◌<◌}
use native.Mathlib.Nat.{pow-le-pow_right}
use native.Mathlib.Omega.{arith}
use borrow.Author.Tests.{lt-ltb, leb-true}
use lib.Dec.{leb}
use lib.IntN.{ℤ, pos, negsuc, nat_abs}
use lib.ListN.{length}
use mir.Syntax.{w64}
use mir.Val.{SFits}
use Rattle.std.specs.Int.{int_max}
use Rattle.format.specs.declared.Column.TheVariants.{Malformed}
use Rattle.format.specs.Column.{column_of, integer, size, number_of}
use Rattle.format.specs.Layout.{column}
use Rattle.format.proofs.Basics.{and-true}
use Rattle.format.proofs.Columns.{number-below, length-column}
use Rattle.columns.specs.InRecord.{column_at, number_in}
use Rattle.format.proofs.Signed.{stored, back}

-- ---- `number_at`

size_is : (z : ℤ) → nat_abs (int_max z (pos 0)) ≡ size z
size_is (pos zero) = refl
size_is (pos (suc n)) = simp (lt-ltb 0 (suc n) (omega arith))
size_is (negsuc n) = refl

-- m is the larger of a column's integer and 0
module _ (l : List ℕ) (start width : ℕ) (z m : ℤ) (e : z ≡ integer (column_at l start width)) (f : SFits w64 z) (g : SFits w64 m) where
  pub number_is : m ≡ int_max (stored z) (pos 0) → nat_abs (stored m) ≡ number_in l start width
  unfolding number_in
  number_is h = rw (back m g, h, back z f) (size_is z ∙ ap size e)

-- ---- its bound
module _ (l : List ℕ) (start width : ℕ) where
  pub number_in_below : number_in l start width < 10 ^ width
  unfolding number_in column_at
  number_in_below = go (leb width 18 && leb (start + width) (length l)) refl
    where
      go : (t : Bool) → leb width 18 && leb (start + width) (length l) ≡ t → number_of (cond t (column_of (column start width l)) Malformed) < 10 ^ width
      go true e =
          let q = and-true (leb width 18) (leb (start + width) (length l)) e in
          rw (length-column start width l (leb-true (start + width) (length l) q.1)) at (number-below (column start width l))
      go false e = omega (arith, pow-le-pow_right {n = 10} (omega arith) {i = 0} {j = width} (omega arith))
