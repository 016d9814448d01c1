-- `check_lines` tests the length, then the line ends. Assumes nothing.
use Rattle.std.proofs.Common.{rules}
use Rattle.line_ends.proofs.Answers.{used-length, wrong-length, ends}
use Rattle.line_ends.proofs.check_lines.Goals as goal

pub returns-then-not-length_ok : goal.returns-then-not-length_ok
returns-then-not-length_ok c = search (rules, wrong-length)

pub slice_bounds-first_unended-end : goal.slice_bounds-first_unended-end
slice_bounds-first_unended-end c = search (rules, used-length)

pub returns-in-Some : goal.returns-in-Some
returns-in-Some c = search (rules, ends)

pub returns : goal.returns
returns c = search (rules, ends)
