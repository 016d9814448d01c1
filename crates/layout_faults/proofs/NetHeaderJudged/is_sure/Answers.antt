-- `NetHeader::is_sure` meets its contract. Assumes nothing.
use Rattle.layout_faults.proofs.Sure.{net_header_faultless}
use Rattle.layout_faults.proofs.NetHeaderJudged.is_sure.Goals as goal

pub returns-then-is_sure : goal.returns-then-is_sure
returns-then-is_sure c = search net_header_faultless
