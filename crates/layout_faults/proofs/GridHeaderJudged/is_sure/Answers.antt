-- `GridHeader::is_sure` meets its contract. Assumes nothing.
use Rattle.layout_faults.proofs.Sure.{grid_header_faultless}
use Rattle.layout_faults.proofs.GridHeaderJudged.is_sure.Goals as goal

pub returns : goal.returns
returns c = search grid_header_faultless
