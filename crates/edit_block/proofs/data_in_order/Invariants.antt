-- `data_in_order` walks over the data records. The loop keeps that the walk from its index comes to the same as the whole. Assumes nothing.
use Rattle.edit_block.proofs.Data.{Same}
use Rattle.edit_block.proofs.data_in_order.Given as goal

abbrev pub invariant-loop-index : goal.invariant-loop-index
invariant-loop-index l = Same l.block l.held l.index
