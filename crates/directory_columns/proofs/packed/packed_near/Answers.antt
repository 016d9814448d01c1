-- `packed_near`: the last bytes differ as the numbers do. Assumes nothing.
use Rattle.directory_columns.proofs.PackedColumns.{near_same, near_some, near_few, near_fits, near_raised, near_other}
use Rattle.directory_columns.proofs.packed.packed_near.Goals as goal

pub returns-then-number-other : goal.returns-then-number-other
returns-then-number-other c = search near_same

pub overflow_sub-result : goal.overflow_sub-result
overflow_sub-result c = search near_some

pub overflow_mul-result : goal.overflow_mul-result
overflow_mul-result c = search near_few

pub overflow_add-result : goal.overflow_add-result
overflow_add-result c = search near_fits

pub returns-then-is_raised : goal.returns-then-is_raised
returns-then-is_raised c = search near_raised

pub returns-else-is_raised : goal.returns-else-is_raised
returns-else-is_raised c = search near_other
