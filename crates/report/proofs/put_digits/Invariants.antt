-- `report::put_digits`. The loop's invariant: with the digits that are still to be put the buffer is the one that is due. Assumes nothing.
use Rattle.std.proofs.Common.{◌≡◌, length}
use Rattle.format.specs.Column.{digits}
use Rattle.report.specs.Steps.{stored_digits}
use Rattle.report.proofs.put_digits.Given as goal

abbrev pub invariant-loop-i : goal.invariant-loop-i
invariant-loop-i l = stored_digits l.out l.at l.i l.left ≡ stored_digits l.initial.out l.at (length (digits l.n)) l.n
