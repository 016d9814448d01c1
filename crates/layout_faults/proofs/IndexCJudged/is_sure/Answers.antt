-- `IndexC::is_sure` meets its contract. Assumes nothing.
use Rattle.layout_faults.proofs.Sure.{index_c_faultless}
use Rattle.layout_faults.proofs.IndexCJudged.is_sure.Goals as goal

pub returns-then-is_sure : goal.returns-then-is_sure
returns-then-is_sure c = search index_c_faultless
