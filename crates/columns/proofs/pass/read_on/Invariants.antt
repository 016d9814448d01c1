-- `columns::pass::read_on` meets its contract. The loop's invariant: the bytes that are left, passed from what is kept, end where the bytes from `from` on
-- end; and the number that is kept is below 10 ^ i. Assumes nothing.
use mathlib.Core.Path.{◌≡◌}
use Prim.Native.Nat.{◌^◌, ◌<◌}
use lib.ListN.{drop}
use Rattle.columns.specs.Pass.{pass_from}
use Rattle.columns.proofs.pass.read_on.Given as goal

abbrev pub invariant-loop-i : goal.invariant-loop-i
invariant-loop-i l = (l.kept.number < 10 ^ l.i) × (pass_from l.kept (drop l.i l.column) ≡ pass_from l.initial.kept (drop l.from l.column))
