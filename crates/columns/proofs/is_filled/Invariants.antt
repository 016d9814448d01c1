-- `columns::is_filled` meets its contract. The loop's invariant: the bytes so far and those still to come are the ones that are due. Assumes nothing.
use mathlib.Core.Path.{◌≡◌}
use mathlib.Core.Bool.{◌&&◌}
use lib.ListN.{length, take}
use Rattle.format.specs.Text.{same}
use Rattle.columns.specs.WriteSteps.{filled}
use Rattle.columns.proofs.is_filled.Given as goal

abbrev pub invariant-loop-i : goal.invariant-loop-i
invariant-loop-i l = l.equal && same (take l.i l.column) (filled l.i l.rest) ≡ same l.column (filled (length l.column) l.initial.rest)
