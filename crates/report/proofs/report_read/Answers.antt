-- `report::report_read` meets its contract. Assumes nothing.
use Rattle.format.specs.Text.{bytes}
use Rattle.report.proofs.Answers.{not-read, part_read}
use Rattle.report.proofs.report_read.Goals as goal

pub returns-in_default : goal.returns-in_default
unfolding bytes
returns-in_default c = search not-read

pub returns : goal.returns
returns c = search part_read
