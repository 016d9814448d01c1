-- `records::counts_agree` meets its contract. The loop's invariant: the counts so far agree, and their sum. Assumes nothing.
use Rattle.records.specs.Entry.{states_count}
use Rattle.format.specs.Judge.{sum, all}
use Rattle.format.specs.Record.{count_in}
use Prim.Native.Nat.{◌≤◌}
use mathlib.Core.Path.{◌≡◌}
use Rattle.records.proofs.counts_agree.Given as goal

abbrev pub invariant-loop-kind : goal.invariant-loop-kind
invariant-loop-kind l = (l.kind ≤ 10) × (l.agree ≡ all l.kind (states_count l.record l.tally)) × (l.sum ≡ sum l.kind (count_in l.record))
