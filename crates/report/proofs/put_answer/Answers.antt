-- `report::put_answer` meets its contract. Assumes nothing.
use Rattle.std.proofs.Common.{◌∙◌}
use Rattle.format.specs.Text.{bytes}
use Rattle.report.proofs.Answers.{accepted-line, refused-line}
use Rattle.report.proofs.put_answer.Goals as goal

pub returns-in-Ok : goal.returns-in-Ok
unfolding bytes
returns-in-Ok c = search accepted-line

pub returns-in-Err : goal.returns-in-Err
unfolding bytes
returns-in-Err c = refused-line c.in-Err.field-0 _ _ _ _ c.in-Err.is (c.from.ensures ∙ c.number.ensures) c.put_number_line-in-Err.ensures
