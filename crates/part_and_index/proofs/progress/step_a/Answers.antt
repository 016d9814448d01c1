-- `step_a` keeps the level. Assumes nothing.
use Rattle.std.proofs.Common.{rules}
use Rattle.part_and_index.proofs.FaultLaws.{level_read}
use Rattle.part_and_index.proofs.progress.step_a.Goals as goal

pub returns : goal.returns
returns c = search (rules, level_read)
