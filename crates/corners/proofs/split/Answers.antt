-- `split` answers as its definition for every number of 64 bits, both ends too. Assumes nothing.
use borrow.Author.Rules.{rules}
use Rattle.corners.proofs.Splitting.{pair_joins, none-joins}
use Rattle.corners.proofs.split.Goals as goal

pub returns-then-eq : goal.returns-then-eq
returns-then-eq c = search (rules, pair_joins)

pub returns-else-eq : goal.returns-else-eq
returns-else-eq c = search (rules, none-joins)
