-- `corners_of` makes the eight corners. The loop keeps that the corners so far are the first ones. Assumes nothing.
use mathlib.Core.Path.{◌≡◌}
use lib.ListN.{length, take}
use Rattle.part_and_index.specs.Progress.{corners_of}
use Rattle.part_and_index.proofs.faults.corners_of.Given as goal

abbrev pub invariant-loop-i : goal.invariant-loop-i
invariant-loop-i l = (length l.corners ≡ 8) × (take l.i l.corners ≡ take l.i (corners_of l.unit l.wholes l.fractions))
