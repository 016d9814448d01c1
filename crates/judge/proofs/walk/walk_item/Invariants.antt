-- `walk_item` passes the data records that are due. The loop's invariant is `Walking`. Assumes nothing.
use Rattle.judge.proofs.ItemLaws.{Walking}
use Rattle.judge.proofs.walk.walk_item.Given as goal

abbrev pub invariant-loop-behind : goal.invariant-loop-behind
invariant-loop-behind l = Walking l.walk.file.now l.walk.extent l.k l.initial.behind l.held l.at l.behind
