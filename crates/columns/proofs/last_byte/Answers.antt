-- `columns::last_byte` meets its contract. Assumes nothing.
use borrow.Author.Rules.{rules}
use Rattle.columns.specs.WriteSteps.{byte_of}
use Rattle.columns.proofs.last_byte.Goals as goal

pub returns-in-Digits : goal.returns-in-Digits
unfolding byte_of
returns-in-Digits c = search rules

pub returns-in-Minus : goal.returns-in-Minus
unfolding byte_of
returns-in-Minus c = search rules

pub returns-in-Spaces : goal.returns-in-Spaces
unfolding byte_of
returns-in-Spaces c = search rules
