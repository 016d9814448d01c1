-- `next_layer` goes from one header or item to the next. The loop's invariant is `Passing`, its measure the records left. Assumes nothing.
use Prim.Native.Nat.{◌-◌}
use Rattle.directories.proofs.Written.{Passing}
use Rattle.directories.proofs.writing.next_layer.Given as goal

abbrev pub invariant-loop-at : goal.invariant-loop-at
invariant-loop-at l = Passing l.file l.k l.at l.items

abbrev pub decreases-loop-at : goal.decreases-loop-at
decreases-loop-at l = l.count - l.at
