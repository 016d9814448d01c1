-- `form_columns::ends_sure` meets its contract. The loop's invariant: `Counting`, at the front and at the back. The measure is the bytes still to come.
-- Assumes nothing.
use Prim.Native.Nat.{◌≤◌}
use Rattle.form_columns.proofs.Doubts.{behind_first, Counting}
use Rattle.form_columns.proofs.ends_sure.Given as goal

abbrev pub invariant-loop-i : goal.invariant-loop-i
invariant-loop-i l = (l.i ≤ 48) × Counting behind_first l.bytes l.at l.front l.i × Counting behind_first l.bytes l.end l.back l.i
