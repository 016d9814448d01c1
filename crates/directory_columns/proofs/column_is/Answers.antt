-- `column_is` compares where there is a column. Assumes nothing.
use borrow.Author.Rules.{rules}
use Rattle.directory_columns.proofs.Numbers.{column_lacks, compared, there-width, there-start, there-whole}
use Rattle.directory_columns.proofs.column_is.Goals as goal

pub overflow_mul-k : goal.overflow_mul-k
overflow_mul-k c = search there-width

pub overflow_add-k : goal.overflow_add-k
overflow_add-k c = search there-start

pub packed_at-requires : goal.packed_at-requires
packed_at-requires c = (search rules, search there-whole)

pub returns-then-has_column : goal.returns-then-has_column
returns-then-has_column c = search compared

pub returns-else-has_column : goal.returns-else-has_column
returns-else-has_column c = search column_lacks
