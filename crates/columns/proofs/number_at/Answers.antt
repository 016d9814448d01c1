-- `columns::number_at` meets its contract: the larger of the integer and 0. Assumes nothing.
use borrow.Author.Rules.{rules}
use Rattle.columns.proofs.NumberIn.{number_is}
use Rattle.columns.proofs.number_at.Goals as goal

pub returns : goal.returns
returns c = search (rules, number_is)
