-- `columns::pass::leading_spaces` meets its contract. The loop's invariant: without leading spaces, the bytes still to come are all bytes. Assumes nothing.
use mathlib.Core.Path.{◌≡◌}
use lib.ListN.{drop}
use Rattle.format.specs.Column.{strip}
use Rattle.columns.proofs.pass.leading_spaces.Given as goal

abbrev pub invariant-loop-i : goal.invariant-loop-i
invariant-loop-i l = strip (drop l.i l.column) ≡ strip l.column
