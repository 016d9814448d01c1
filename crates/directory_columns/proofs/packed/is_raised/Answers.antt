-- `is_raised` by its tests. Assumes nothing.
use Rattle.directory_columns.proofs.PackedColumns.{raised_below, raised_far, raised_by}
use Rattle.directory_columns.proofs.packed.is_raised.Goals as goal

pub returns-then-number-other : goal.returns-then-number-other
returns-then-number-other c = search raised_below

pub returns-then-more-gt-NINE : goal.returns-then-more-gt-NINE
returns-then-more-gt-NINE c = search raised_far

pub returns : goal.returns
returns c = search raised_by
