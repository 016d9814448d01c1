-- `columns::fill` meets its contract. The loop's invariant: what is left to write, and behind it what was written, is the column that is
-- due. Assumes nothing.
use borrow.Author.Rules.{rules}
use Rattle.columns.proofs.Writing.{stored, all_stored}
use Rattle.columns.proofs.fill.Goals as goal

pub loop-i-preserved : goal.loop-i-preserved
loop-i-preserved c = search (rules, stored)

pub returns : goal.returns
returns c = search (rules, all_stored)
