-- `records::reading::natural` meets its contract. The loop's invariant: the number so far and the bytes still to come make what all bytes make; and
-- the number stays small. Assumes nothing.
use mathlib.Core.Path.{◌≡◌}
use Prim.Native.Nat.{◌+◌, ◌*◌, ◌^◌, ◌≤◌}
use Rattle.columns.specs.Pass.{number_from}
use Rattle.records.proofs.Naturals.{number_on}
use Rattle.records.proofs.reading.natural.Given as goal

abbrev pub invariant-loop-byte : goal.invariant-loop-byte
invariant-loop-byte l = (l.number + 2 ≤ 2 * 10 ^ l.byte-index) × (number_on l.byte-items l.number l.byte-index ≡ number_from 0 l.byte-items)
