-- `step` goes by the record that is due. Assumes nothing.
use Rattle.std.proofs.Common.{rules}
use Rattle.part_and_index.proofs.ProgressLaws.{no_whole}
use Rattle.part_and_index.proofs.progress.step.Goals as goal

pub returns-in_default : goal.returns-in_default
returns-in_default c = search (rules, no_whole)
