-- `count` divides by the stride. Assumes nothing.
use Rattle.files.proofs.Records.{count-plain, count-lines}
use Rattle.files.proofs.count.Goals as goal

pub returns-in-Plain : goal.returns-in-Plain
returns-in-Plain c = search count-plain

pub returns-in-Lines : goal.returns-in-Lines
returns-in-Lines c = search count-lines
