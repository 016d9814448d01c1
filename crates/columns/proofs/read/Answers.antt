-- `columns::read` meets its contract. Assumes nothing.
use borrow.Author.Rules.{rules}
use Rattle.format.specs.Answers.{number_answer}
use Rattle.columns.proofs.Alone.{wrong_width, is_read, is_malformed}
use Rattle.columns.proofs.read.Goals as goal

pub returns-then-not-is_width : goal.returns-then-not-is_width
returns-then-not-is_width c = search wrong_width

pub returns-in-Value : goal.returns-in-Value
unfolding number_answer
returns-in-Value c = search (is_read, rules)

pub returns-in-MinusZero : goal.returns-in-MinusZero
returns-in-MinusZero c = search is_malformed
