-- `check_index_a` tests the type, the columns, then the b count. Assumes nothing.
use Rattle.std.proofs.Common.{rules}
use Rattle.part_and_index.proofs.FaultLaws.{index_other_type, index_columns, index-count, index-other-count}
use Rattle.part_and_index.proofs.faults.check_index_a.Goals as goal

pub returns-then-not-starts_with : goal.returns-then-not-starts_with
returns-then-not-starts_with c = search index_other_type

pub returns-in_err-check : goal.returns-in_err-check
returns-in_err-check c = search (rules, index_columns)

pub returns-then-b_records-div_ceil : goal.returns-then-b_records-div_ceil
returns-then-b_records-div_ceil c = search (rules, index-other-count, c.in_ok-check.ensures)

pub returns : goal.returns
returns c = search (rules, index-count, c.in_ok-check.ensures)
