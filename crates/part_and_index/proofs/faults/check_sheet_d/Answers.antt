-- `check_sheet_d` tests the columns, then the f count. Assumes nothing.
use Rattle.std.proofs.Common.{rules}
use Rattle.part_and_index.proofs.FaultLaws.{d_columns, d-count, d-other-count}
use Rattle.part_and_index.proofs.faults.check_sheet_d.Goals as goal

pub returns-in_err-check : goal.returns-in_err-check
returns-in_err-check c = search (rules, d_columns)

pub returns-then-not-f_count_ok : goal.returns-then-not-f_count_ok
returns-then-not-f_count_ok c = search (rules, d-other-count, c.in_ok-check.ensures)

pub returns : goal.returns
returns c = search (rules, d-count, c.in_ok-check.ensures)
