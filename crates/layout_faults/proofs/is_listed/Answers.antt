-- `layout_faults::is_listed` meets its contract: a negative number is of no list. Assumes nothing.
use Rattle.layout_faults.proofs.Loops.{below_zero, one_of_them}
use Rattle.layout_faults.proofs.is_listed.Goals as goal

pub returns-then-z-ge0 : goal.returns-then-z-ge0
returns-then-z-ge0 c = search one_of_them

pub returns-else-z-ge0 : goal.returns-else-z-ge0
returns-else-z-ge0 c = search below_zero
