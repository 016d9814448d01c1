-- `fractions_of` reads the eight fractions in the order of record b. Assumes nothing.
use Rattle.std.proofs.Common.{rules}
use Rattle.part_and_index.proofs.Corners.{fractions_read}
use Rattle.part_and_index.proofs.faults.fractions_of.Goals as goal

pub returns : goal.returns
returns c = search (rules, fractions_read)
