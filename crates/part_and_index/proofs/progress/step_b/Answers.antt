-- `step_b` keeps what record b states. Assumes nothing.
use Rattle.std.proofs.Common.{rules}
use Rattle.part_and_index.proofs.FaultLaws.{unit_read, elements_read, records_read}
use Rattle.part_and_index.proofs.progress.step_b.Goals as goal

pub returns : goal.returns
returns c = search (rules, unit_read, elements_read, records_read)
