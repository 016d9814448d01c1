-- `put_at` puts the bytes where they have room. The loop keeps that they stand there up to its index. Assumes nothing.
use mathlib.Core.Path.{◌≡◌}
use mathlib.Core.List.{◌++◌}
use Prim.Native.Nat.{◌+◌, ◌≤◌}
use lib.ListN.{length, take, drop}
use Rattle.files.proofs.put_at.Given as goal

abbrev pub invariant-loop-i : goal.invariant-loop-i
invariant-loop-i l = (l.at + length l.bytes ≤ length l.initial.buffer) × (length l.buffer ≡ length l.initial.buffer) × (l.buffer ≡ (take l.at l.initial.buffer ++ take l.i l.bytes) ++ drop (l.at + l.i) l.initial.buffer)
