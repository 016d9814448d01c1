-- `to_lines` tests the length and the target, then writes. Assumes nothing.
use Rattle.std.proofs.Common.{rules, ◌/◌, ◌≤◌}
use Rattle.format.specs.Answers.{written_answer}
use Rattle.line_ends.proofs.Answers.{over-length, over-used, over-few, over-short, over-room, over-written}
use Rattle.line_ends.proofs.to_lines.Goals as goal

pub returns-then-not-length_ok : goal.returns-then-not-length_ok
unfolding written_answer
returns-then-not-length_ok c = search (rules, over-length)

pub overflow_mul-length : goal.overflow_mul-length
overflow_mul-length c = let few : c.args.used / 84 ≤ 200000 = search (rules, over-few) in search rules

pub returns-then-target-length : goal.returns-then-target-length
unfolding written_answer
returns-then-target-length c = search (rules, over-short)

pub slice_bounds-write_records-end : goal.slice_bounds-write_records-end
slice_bounds-write_records-end c = search (rules, over-used)

pub write_records-requires : goal.write_records-requires
write_records-requires c = search (rules, over-room)

pub returns : goal.returns
unfolding written_answer
returns c = search (rules, over-written)
