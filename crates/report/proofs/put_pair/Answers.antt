-- `report::put_pair` meets its contract. Assumes nothing.
use borrow.Author.Rules.{rules}
use Rattle.report.proofs.Lines.{pair_put}
use Rattle.report.proofs.put_pair.Goals as goal

pub returns : goal.returns
returns c = search (rules, pair_put)
