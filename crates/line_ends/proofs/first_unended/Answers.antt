-- `first_unended` looks at the end of each line. The loop's invariant: the first k lines end right. Assumes nothing.
use Rattle.std.proofs.Common.{rules}
use Rattle.line_ends.proofs.Records.{line_inside, ends_all, ends_wrong, ends_again}
use Rattle.line_ends.proofs.first_unended.Goals as goal

pub is_ended-requires : goal.is_ended-requires
is_ended-requires c = search (rules, line_inside)

pub returns-then-not-is_ended : goal.returns-then-not-is_ended
returns-then-not-is_ended c = search (rules, ends_wrong)

pub loop-k-preserved : goal.loop-k-preserved
loop-k-preserved c = search (rules, ends_again)

pub returns : goal.returns
returns c = search (rules, ends_all)
