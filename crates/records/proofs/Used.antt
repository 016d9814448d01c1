-- How much of a data record is used, in the code's own words. Assumes nothing.
use mathlib.Core.Path.{◌≡◌, refl}
use mathlib.Core.Bool.{Bool, true, false}
use Prim.Native.Nat.{ℕ, zero, suc, ◌+◌, ◌-◌, ◌*◌, ◌/◌, ◌%◌, ◌^◌, ◌≤◌, ◌<◌}
use native.Mathlib.Nat.{div-add-mod, add-div_right}
use native.Mathlib.Omega.{arith}
use borrow.Author.Tests.{eqb-true, eqb-false}
use lib.Dec.{eqb}
use Rattle.format.specs.Basics.{round_up}
use Rattle.format.specs.Record.{used_in}
use Rattle.form_columns.proofs.Records.{used-at-most}
use Rattle.records.specs.declared.Held.{Held}
use Rattle.records.specs.declared.Held.TheVariants.{Nothing, Points3D, Points2D, Triangles, Heights, Notes, Attributes}
use Rattle.records.specs.Entry.{columns_used}

-- ---- `used`

module _ (each count behind : ℕ) where
  pub last_used : 1 ≤ each → behind ≤ 0 → (count ≡ 0 → ⊥) → (count - 1) % each + 1 ≡ used_in each count behind
  last_used p h k =
      let z : behind ≡ 0 = omega arith in
      let s : count + (each - 1) ≡ count - 1 + each = omega arith in
      let q : round_up count each ≡ (count - 1) / each + 1 = rw s (add-div_right (count - 1) p) in
      let t : (count - 1) / each + 1 - 1 ≡ (count - 1) / each = omega arith in
      rw (z, q, t) (omega (arith, div-add-mod (count - 1) each))

-- three points a triangle, in 64 bits
pub wrapped_used : (count behind : ℕ) → count < 2 ^ 64 → used_in 4 (count * 3 % 2 ^ 64) behind ≡ used_in 4 (3 * count) behind
wrapped_used count zero h = go (eqb count 0) refl
  where
    go : (t : Bool) → eqb count 0 ≡ t → used_in 4 (count * 3 % 2 ^ 64) 0 ≡ used_in 4 (3 * count) 0
    go true e = rw (eqb-true count 0 e)
    go false e = omega (arith, eqb-false count 0 e)
wrapped_used count (suc behind) h = refl

-- a data record has twelve columns of seven bytes: no more are used
pub columns_most : (held : Held) (behind : ℕ) → columns_used held behind ≤ 12
unfolding columns_used
columns_most Nothing behind = omega arith
columns_most (Points3D count) behind = omega (arith, used-at-most 4 count behind (omega arith))
columns_most (Points2D count) behind = omega (arith, used-at-most 6 count behind (omega arith))
columns_most (Triangles count) behind = omega (arith, used-at-most 4 (3 * count) behind (omega arith))
columns_most (Heights count) behind = used-at-most 12 count behind (omega arith)
columns_most Notes behind = omega arith
columns_most Attributes behind = omega arith
