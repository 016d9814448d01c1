-- `columns::is_written_at` meets its contract. Assumes nothing.
use borrow.Author.Rules.{rules}
use Rattle.columns.proofs.Compared.{not_inside, not_allowed, is_compared}
use Rattle.columns.proofs.is_written_at.Goals as goal

pub returns-then-not-is_inside : goal.returns-then-not-is_inside
returns-then-not-is_inside c = search not_inside

pub returns-in_default : goal.returns-in_default
returns-in_default c = search (rules, not_allowed)

pub returns : goal.returns
returns c = search (rules, is_compared)
