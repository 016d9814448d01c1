-- `columns::write_at` meets its contract. Assumes nothing.
use borrow.Author.Rules.{rules}
use Rattle.columns.proofs.InRecord.{no_room, not-rewritten, is_rewritten}
use Rattle.columns.proofs.write_at.Goals as goal

pub returns-then-not-is_inside : goal.returns-then-not-is_inside
returns-then-not-is_inside c = search no_room

pub returns-in_default : goal.returns-in_default
returns-in_default c = search (rules, not-rewritten)

pub returns : goal.returns
returns c = search (rules, is_rewritten)
