-- `columns::fill` meets its contract. The loop's invariant: what is left to write, and behind it what was written, is the column that is
-- due. Assumes nothing.
use mathlib.Core.Path.{◌≡◌}
use mathlib.Core.List.{◌++◌}
use lib.ListN.{length, drop}
use Rattle.columns.specs.WriteSteps.{filled}
use Rattle.columns.proofs.fill.Given as goal

abbrev pub invariant-loop-i : goal.invariant-loop-i
invariant-loop-i l = filled l.i l.rest ++ drop l.i l.column ≡ filled (length l.initial.column) l.initial.rest
