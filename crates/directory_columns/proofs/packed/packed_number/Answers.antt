-- `packed_number`: one digit, none that fits, or the sum of the two parts. Assumes nothing.
use Rattle.directory_columns.proofs.PackedColumns.{one_packed, none-packed, number-packed, number_fits}
use Rattle.directory_columns.proofs.packed.packed_number.Goals as goal

pub returns-then-number-lt10 : goal.returns-then-number-lt10
returns-then-number-lt10 c = search one_packed

pub returns-then-number-gt-MOST : goal.returns-then-number-gt-MOST
returns-then-number-gt-MOST c = search none-packed

pub overflow_add-result-2 : goal.overflow_add-result-2
overflow_add-result-2 c = search number_fits

pub returns : goal.returns
returns c = search number-packed
