-- `read_block`: each line adds at most 255. Assumes nothing.
use Prim.Native.Nat.{◌*◌, ◌≤◌}
use Rattle.read_ahead.proofs.read_block.Given as goal

abbrev pub invariant-loop-line : goal.invariant-loop-line
invariant-loop-line l = l.sum ≤ 255 * l.line
