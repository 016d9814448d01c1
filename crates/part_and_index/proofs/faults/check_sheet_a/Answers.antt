-- `check_sheet_a` tests the type, then the columns. Assumes nothing.
use Rattle.part_and_index.proofs.FaultLaws.{a_other_type, a_columns}
use Rattle.part_and_index.proofs.faults.check_sheet_a.Goals as goal

pub returns-then-not-starts_with : goal.returns-then-not-starts_with
returns-then-not-starts_with c = search a_other_type

pub returns : goal.returns
returns c = search a_columns
