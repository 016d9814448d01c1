-- `write_counts` writes the four columns. Assumes nothing.
use Prim.Native.Nat.{◌≤◌}
use Rattle.edit.proofs.Columns.{start_small, count_room, count-some, count_most, count-below, all-written}
use native.Mathlib.Omega.{arith}
use Rattle.format.specs.Layout.{find, header, sheet_b}
use borrow.Author.Rules.{rules}
use Rattle.edit.proofs.counts.write_counts.Goals as goal

pub overflow_add-start : goal.overflow_add-start
overflow_add-start c = let h : c.count_start.result ≤ 84 = search start_small in omega arith

pub write_number-requires : goal.write_number-requires
unfolding find header
write_number-requires c = search rules

pub write_number-requires-2 : goal.write_number-requires-2
write_number-requires-2 c = search (count_room, count-some, count_most, count-below)

pub write_number-requires-3 : goal.write_number-requires-3
unfolding find sheet_b
write_number-requires-3 c = search rules

pub write_number-requires-4 : goal.write_number-requires-4
unfolding find sheet_b
write_number-requires-4 c = search rules

pub returns : goal.returns
returns c = search all-written
