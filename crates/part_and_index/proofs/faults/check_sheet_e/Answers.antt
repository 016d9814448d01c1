-- `check_sheet_e` tests the columns, then the fractions. Assumes nothing.
use Rattle.std.proofs.Common.{rules}
use Rattle.part_and_index.proofs.FaultLaws.{e_columns, e_fractions, e_other_fractions}
use Rattle.part_and_index.proofs.faults.check_sheet_e.Goals as goal

pub returns-in_err-check : goal.returns-in_err-check
returns-in_err-check c = search (rules, e_columns)

pub returns-then-not-fractions_ok : goal.returns-then-not-fractions_ok
returns-then-not-fractions_ok c = search (rules, e_other_fractions, c.in_ok-check.ensures)

pub returns : goal.returns
returns c = search (rules, e_fractions, c.in_ok-check.ensures)
