-- `check_sheet_b` tests the columns, then the unit. Assumes nothing.
use Rattle.std.proofs.Common.{rules}
use Rattle.part_and_index.proofs.FaultLaws.{b_columns, b_unit, b_other_unit}
use Rattle.part_and_index.proofs.faults.check_sheet_b.Goals as goal

pub returns-in_err-check : goal.returns-in_err-check
returns-in_err-check c = search (rules, b_columns)

pub returns-then-unit-unit_of : goal.returns-then-unit-unit_of
returns-then-unit-unit_of c = search (rules, b_other_unit, c.in_ok-check.ensures)

pub returns : goal.returns
returns c = search (rules, b_unit, c.in_ok-check.ensures)
