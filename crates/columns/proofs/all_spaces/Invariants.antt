-- `columns::all_spaces` meets its contract. The loop's invariant: the bytes so far and those still to come are spaces. Assumes nothing.
use mathlib.Core.Path.{◌≡◌}
use mathlib.Core.Bool.{◌&&◌}
use lib.ListN.{drop}
use Rattle.format.specs.Layout.{spaces}
use Rattle.columns.proofs.all_spaces.Given as goal

abbrev pub invariant-loop-byte : goal.invariant-loop-byte
invariant-loop-byte l = l.blank && spaces (drop l.byte-index l.bytes) ≡ spaces l.bytes
