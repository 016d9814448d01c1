-- What the exact reader answers for seven bytes that lie whole in the bytes: a value, exactly where the column is well formed. All that leans on
-- the crate `columns` stands here and in `has_value`. Assumes nothing.
use mathlib.Core.Path.{◌≡◌, ap, sym, ◌∙◌}
use mathlib.Core.Bool.{true, false}
use mathlib.Core.List.{List}
use Prim.Native.Nat.{ℕ, ◌+◌, ◌≤◌}
use native.Mathlib.Omega.{arith}
use lib.IntN.{ℤ}
use lib.ListN.{length, take, drop}
use Rattle.format.specs.declared.Column.{Column}
use Rattle.format.specs.declared.Column.TheVariants.{Value}
use Rattle.format.specs.Column.{column_of, formed}
use Rattle.format.specs.Layout.{column}
use Rattle.format.proofs.Columns.{other_tag}
use Rattle.columns.specs.InRecord.{column_at}
use Rattle.columns.proofs.Laws.{column-at-inside}

read_inside : (l : List ℕ) (at : ℕ) (r : Column) → r ≡ column_at l at 7 → at + 7 ≤ length l → formed r ≡ formed (column_of (take 7 (drop at l)))
unfolding column
read_inside l at r e h = ap formed (e ∙ column-at-inside l at 7 h (omega arith))

pub no_value : (l : List ℕ) (at : ℕ) (r : Column) → r ≡ column_at l at 7 → at + 7 ≤ length l → ((z : ℤ) → r ≡ Value z → ⊥) → false ≡ formed (column_of (take 7 (drop at l)))
no_value l at r e h n = sym (other_tag r n) ∙ read_inside l at r e h

pub a_value : (l : List ℕ) (at : ℕ) (r : Column) (z : ℤ) → r ≡ column_at l at 7 → at + 7 ≤ length l → r ≡ Value z → true ≡ formed (column_of (take 7 (drop at l)))
a_value l at r z e h v = ap formed (sym v) ∙ read_inside l at r e h
