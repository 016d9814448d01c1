-- `report::report` meets its contract. Assumes nothing.
use Rattle.format.specs.Text.{bytes}
use Rattle.report.proofs.Answers.{judged-line, long-line}
use Rattle.report.proofs.report.Goals as goal

pub returns-then-input-gt-LONGEST : goal.returns-then-input-gt-LONGEST
unfolding bytes
returns-then-input-gt-LONGEST c = search long-line

pub returns : goal.returns
returns c = search judged-line
