-- `first_unended` looks at the end of each line. The loop's invariant: the first k lines end right. Assumes nothing.
use Rattle.line_ends.proofs.Records.{EndsSoFar}
use Rattle.line_ends.proofs.first_unended.Given as goal

abbrev pub invariant-loop-k : goal.invariant-loop-k
invariant-loop-k l = EndsSoFar l.file l.k
