-- `walk_layers` walks layer after layer. The loop's invariant is `Layering`, and that the written form of the last number is known where there is a directory;
-- its measure the records left. Assumes nothing.
use mathlib.Core.Path.{◌≡◌}
use Prim.Native.Nat.{◌-◌, ◌≤◌}
use lib.ListN.{length}
use Rattle.files.specs.declared.Stride.TheVariants.{Plain}
use Rattle.files.specs.Records.{records_of}
use Rattle.directory_columns.specs.PackedColumns.{packed_number}
use Rattle.judge.specs.Listed.{unlisted_said}
use Rattle.judge.proofs.LayersLaws.{Layering}
use Rattle.judge.proofs.walk.walk_layers.Given as goal

abbrev pub invariant-loop-at : goal.invariant-loop-at
invariant-loop-at l = (Layering l.walk.file.now l.walk.extent l.k (records_of Plain l.directory.records.now) l.directory.edition l.at l.low l.seen l.layers (unlisted_said l.unlisted) l.first_numbers) × (84 ≤ length l.directory.records.now → l.before ≡ packed_number l.at)

abbrev pub decreases-loop-at : goal.decreases-loop-at
decreases-loop-at l = l.walk.extent.records - l.at
