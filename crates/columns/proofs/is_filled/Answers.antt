-- `columns::is_filled` meets its contract. The loop's invariant: the bytes so far and those still to come are the ones that are due. Assumes nothing.
use borrow.Author.Rules.{rules}
use Rattle.columns.proofs.Compared.{one_compared, all_compared}
use Rattle.columns.proofs.is_filled.Goals as goal

pub loop-i-preserved : goal.loop-i-preserved
loop-i-preserved c = search (rules, one_compared)

pub returns : goal.returns
returns c = search (rules, all_compared)
