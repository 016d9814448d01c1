-- `layout_faults::all_inside` meets its contract. The loop's invariant: the columns so far are well formed, so that all are where those still to come are;
-- and the numbers so far and those still to come are between their ends. Assumes nothing.
use mathlib.Core.Path.{◌≡◌}
use mathlib.Core.Bool.{◌&&◌}
use lib.ListN.{drop}
use Rattle.layout_faults.specs.Tables.{formed_at, between_at}
use Rattle.layout_faults.proofs.all_inside.Given as goal

abbrev pub invariant-loop-column : goal.invariant-loop-column
invariant-loop-column l = (formed_at l.record (drop l.column-index l.table) ≡ formed_at l.record l.table) × (l.inside && between_at l.record (drop l.column-index l.table) ≡ between_at l.record l.table)
