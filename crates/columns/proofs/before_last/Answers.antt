-- `columns::before_last` meets its contract. Assumes nothing.
use borrow.Author.Rules.{rules}
use Rattle.columns.specs.WriteSteps.{before_of}
use Rattle.columns.proofs.before_last.Goals as goal

pub returns-then-n-ge10 : goal.returns-then-n-ge10
unfolding before_of
returns-then-n-ge10 c = search rules

pub returns-then-minus : goal.returns-then-minus
unfolding before_of
returns-then-minus c = search rules

pub returns-else-minus : goal.returns-else-minus
unfolding before_of
returns-else-minus c = search rules

pub returns-in-Minus : goal.returns-in-Minus
unfolding before_of
returns-in-Minus c = search rules
