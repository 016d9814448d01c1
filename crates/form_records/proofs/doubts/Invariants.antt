-- `form_records::doubts` meets its contract. The loop's invariant: the doubts so far and those of the bytes still to come are the doubts of all from
-- byte 2 on; and no more than one a byte. Assumes nothing.
use mathlib.Core.Path.{◌≡◌}
use Prim.Native.Nat.{◌+◌, ◌≤◌}
use Rattle.form_records.proofs.Counting.{doubts_from}
use Rattle.form_records.proofs.doubts.Given as goal

abbrev pub invariant-loop-i : goal.invariant-loop-i
invariant-loop-i l = (l.doubts ≤ l.i) × (l.doubts + doubts_from l.letters l.record l.i ≡ doubts_from l.letters l.record 0)
