-- `check_index` is the walk from record a of an index, and then 10. Assumes nothing.
use Rattle.std.proofs.Common.{rules}
use Rattle.files.proofs.Records.{wide_records}
use Rattle.part_and_index.proofs.Parts.{index_refused, index_left_over, index-passes}
use Rattle.part_and_index.proofs.check_index.Goals as goal

pub returns-in_err-index : goal.returns-in_err-index
returns-in_err-index c = search (rules, index_refused _ (wide_records c.args.stride c.args.file.now) _ _ c.in_err-index.ensures)

pub returns-then-index-count : goal.returns-then-index-count
returns-then-index-count c = search (rules, index_left_over, wide_records, c.in_ok-index.ensures)

pub returns : goal.returns
returns c = search (rules, index-passes, wide_records, c.in_ok-index.ensures)
