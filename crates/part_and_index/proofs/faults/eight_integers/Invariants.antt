-- `eight_integers` reads the columns one after the other. The loop keeps that the integers so far are the first ones. Assumes nothing.
use mathlib.Core.Path.{◌≡◌}
use mathlib.Core.List.{map}
use lib.ListN.{length, take}
use Rattle.format.specs.Column.{integer}
use Rattle.columns.specs.InRecord.{column_at}
use Rattle.part_and_index.proofs.faults.eight_integers.Given as goal

abbrev pub invariant-loop-i : goal.invariant-loop-i
invariant-loop-i l = (length l.integers ≡ 8) × (take l.i l.integers ≡ take l.i (map (λ start. integer (column_at l.record start l.width)) l.starts))
