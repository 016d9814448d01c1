-- `data_in_order` walks over the data records. The loop keeps that the walk from its index comes to the same as the whole. Assumes nothing.
use borrow.Author.Rules.{rules}
use Rattle.edit_block.proofs.Data.{data_over, data_wrong, data_passes}
use Rattle.edit_block.proofs.data_in_order.Goals as goal

pub returns-then-is_err : goal.returns-then-is_err
returns-then-is_err c = search (rules, data_wrong)

pub loop-index-preserved : goal.loop-index-preserved
loop-index-preserved c = search (rules, data_passes)

pub returns : goal.returns
returns c = search (rules, data_over)
