-- `from_lines` tests the form and the target, then writes. Assumes nothing.
use Rattle.std.proofs.Common.{rules, ◌/◌, ◌≤◌}
use Rattle.format.specs.Answers.{written_answer}
use Rattle.line_ends.proofs.Answers.{back-refused, back-used, back-few, back-short, back-room, back-written}
use Rattle.line_ends.proofs.from_lines.Goals as goal

pub returns-in_err-check_lines : goal.returns-in_err-check_lines
returns-in_err-check_lines c = search (rules, back-refused _ _ _ c.in_err-check_lines.ensures)

pub overflow_mul-length : goal.overflow_mul-length
overflow_mul-length c = let few : c.args.used / 86 ≤ 200000 = back-few _ _ c.in_ok-check_lines.ensures c.args.target.now in search rules

pub returns-then-target-length : goal.returns-then-target-length
unfolding written_answer
returns-then-target-length c = search (rules, back-short, c.in_ok-check_lines.ensures)

pub slice_bounds-write_records-end : goal.slice_bounds-write_records-end
slice_bounds-write_records-end c = search (rules, back-used, c.in_ok-check_lines.ensures)

pub write_records-requires : goal.write_records-requires
write_records-requires c = search (rules, back-room, c.in_ok-check_lines.ensures)

pub returns : goal.returns
unfolding written_answer
returns c = search (rules, back-written, c.in_ok-check_lines.ensures)
