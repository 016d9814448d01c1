-- `columns::write` meets its contract. Assumes nothing.
use borrow.Author.Rules.{rules}
use Rattle.columns.proofs.Alone.{not_written, is_written_lem}
use Rattle.columns.proofs.write.Goals as goal

pub returns-in_default : goal.returns-in_default
returns-in_default c = search (rules, not_written)

pub returns : goal.returns
returns c = search (rules, is_written_lem)
