-- `normal::write_records`. The loop's invariant: what is written and what is left to write is the whole file, and the second buffer behind it is as it was.
-- Assumes nothing.
use Rattle.std.proofs.Common.{◌≡◌, ◌++◌, ◌-◌, ◌*◌, take, drop}
use Rattle.format.specs.Basics.{chunks, flat}
use Rattle.normal.specs.Due.{rewritten}
use Rattle.normal.proofs.write_records.Given as goal

abbrev pub invariant-loop-k : goal.invariant-loop-k
invariant-loop-k l = (take (84 * l.k) l.second ++ flat (rewritten l.due (chunks (l.n - l.k) (drop (84 * l.k) l.buffer))) ≡ flat (rewritten l.initial.due (chunks l.n l.buffer))) × (drop (84 * l.k) l.second ≡ drop (84 * l.k) l.initial.second)
