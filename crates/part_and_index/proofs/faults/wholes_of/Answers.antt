-- `wholes_of` reads the eight wholes in their order. Assumes nothing.
use Rattle.std.proofs.Common.{rules}
use Rattle.part_and_index.proofs.Corners.{wholes_read}
use Rattle.part_and_index.proofs.faults.wholes_of.Goals as goal

pub returns : goal.returns
returns c = search (rules, wholes_read)
