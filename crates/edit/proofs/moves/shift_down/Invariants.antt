-- `shift_down` moves bytes down. The loop keeps that what it has passed stands n places lower; each turn leaves one byte fewer. Assumes nothing.
use mathlib.Core.Path.{◌≡◌}
use mathlib.Core.List.{◌++◌}
use Prim.Native.Nat.{◌+◌, ◌-◌, ◌≤◌}
use lib.ListN.{length, take, drop}
use lib.Seq.{slice}
use Rattle.edit.proofs.moves.shift_down.Given as goal

abbrev pub invariant-loop-i : goal.invariant-loop-i
invariant-loop-i l = (l.at + l.n ≤ l.i) × (l.i ≤ l.used) × (length l.buffer ≡ length l.initial.buffer) × (l.buffer ≡ (take l.at l.initial.buffer ++ slice (l.at + l.n) l.i l.initial.buffer) ++ drop (l.i - l.n) l.initial.buffer)

abbrev pub decreases-loop-i : goal.decreases-loop-i
decreases-loop-i l = l.used - l.i
