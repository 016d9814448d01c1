-- `columns::pass::step` meets its contract. Assumes nothing.
use borrow.Author.Rules.{rules}
use Rattle.format.specs.Column.{is_digit}
use Rattle.columns.specs.Pass.{step_of}
use Rattle.columns.proofs.pass.step.Goals as goal

pub returns-then-is_ascii_digit : goal.returns-then-is_ascii_digit
unfolding step_of is_digit
returns-then-is_ascii_digit c = search rules

pub returns-else-is_ascii_digit : goal.returns-else-is_ascii_digit
unfolding step_of is_digit
returns-else-is_ascii_digit c = search rules
