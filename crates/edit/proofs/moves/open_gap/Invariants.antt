-- `open_gap` moves bytes up. The loop runs from the back and keeps that what it has passed stands n places higher; each turn leaves one byte fewer. Assumes nothing.
use mathlib.Core.Path.{◌≡◌}
use mathlib.Core.List.{◌++◌}
use Prim.Native.Nat.{◌+◌, ◌-◌, ◌≤◌}
use lib.ListN.{length, take, drop}
use lib.Seq.{slice}
use Rattle.edit.proofs.moves.open_gap.Given as goal

abbrev pub invariant-loop-i : goal.invariant-loop-i
invariant-loop-i l = (l.at ≤ l.i) × (l.i ≤ l.used) × (length l.buffer ≡ length l.initial.buffer) × (l.buffer ≡ take (l.i + l.n) l.initial.buffer ++ (slice l.i l.used l.initial.buffer ++ drop (l.used + l.n) l.initial.buffer))

abbrev pub decreases-loop-i : goal.decreases-loop-i
decreases-loop-i l = l.i - l.at
