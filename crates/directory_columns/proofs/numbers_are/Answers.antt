-- `numbers_are` asks each column in turn. Assumes nothing.
use Rattle.directory_columns.proofs.Numbers.{header-differs, total-fits, header-alone, total-differs, last_fits, last_decides}
use Rattle.directory_columns.proofs.numbers_are.Goals as goal

pub returns-then-not-column_is : goal.returns-then-not-column_is
returns-then-not-column_is c = search header-differs

pub returns-in-One : goal.returns-in-One
returns-in-One c = search header-alone

pub overflow_add-k : goal.overflow_add-k
overflow_add-k c = search total-fits

pub overflow_add-k-then-number_is : goal.overflow_add-k-then-number_is
overflow_add-k-then-number_is c = search last_fits

pub returns-then-number_is : goal.returns-then-number_is
returns-then-number_is c = search last_decides

pub returns-else-number_is : goal.returns-else-number_is
returns-else-number_is c = search total-differs
