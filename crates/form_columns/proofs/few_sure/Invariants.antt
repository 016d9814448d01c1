-- `form_columns::few_sure` meets its contract. The loop's invariant: `Counting`, of the doubts that count. The measure is the bytes still to come.
-- Assumes nothing.
use Prim.Native.Nat.{◌≤◌}
use Rattle.form_columns.proofs.Doubts.{behind_first_of, Counting}
use Rattle.form_columns.proofs.few_sure.Given as goal

abbrev pub invariant-loop-i : goal.invariant-loop-i
invariant-loop-i l = (l.i ≤ 48) × Counting (behind_first_of l.count) l.bytes l.at l.doubts l.i
