-- `put_record` puts the record at its place, and stores its line end behind it. Assumes nothing.
use Rattle.std.proofs.Common.{rules}
use Rattle.line_ends.proofs.Writing.{end_inside, last_inside, lines_put}
use Rattle.line_ends.proofs.put_record.Goals as goal

pub bounds-target-end : goal.bounds-target-end
bounds-target-end c = search (rules, end_inside)

pub bounds-target-end-then-eq : goal.bounds-target-end-then-eq
bounds-target-end-then-eq c = search (rules, last_inside)

pub returns-then-eq : goal.returns-then-eq
returns-then-eq c = search (rules, lines_put)
