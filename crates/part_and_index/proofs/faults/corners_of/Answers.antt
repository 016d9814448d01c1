-- `corners_of` makes the eight corners. The loop keeps that the corners so far are the first ones. Assumes nothing.
use Rattle.std.proofs.Common.{rules}
use Rattle.part_and_index.proofs.Corners.{corner-more, corners-all}
use Rattle.part_and_index.proofs.faults.corners_of.Goals as goal

pub loop-i-preserved : goal.loop-i-preserved
loop-i-preserved c = (search rules, search corner-more)

pub returns : goal.returns
returns c = search corners-all
