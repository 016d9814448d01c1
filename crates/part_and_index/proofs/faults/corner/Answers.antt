-- `corner` is the joined number, or 0. Assumes nothing.
use Rattle.part_and_index.proofs.Corners.{corner-joined}
use Rattle.part_and_index.proofs.faults.corner.Goals as goal

pub returns : goal.returns
returns c = search corner-joined
