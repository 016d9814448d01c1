-- `form_columns::each_formed` meets its contract. The loop's invariant: the columns so far and those still to come are all columns. Assumes nothing.
use Rattle.std.proofs.Common.{◌≡◌, ◌+◌, ◌*◌, ◌-◌, drop}
use mathlib.Core.Bool.{◌&&◌}
use Rattle.form_columns.specs.Columns.{each_formed}
use Rattle.form_columns.proofs.each_formed.Given as goal

abbrev pub invariant-loop-column : goal.invariant-loop-column
invariant-loop-column l = l.good && each_formed (l.count - l.column) (drop (l.start + l.column * 7) l.bytes) ≡ each_formed l.count (drop l.start l.bytes)
