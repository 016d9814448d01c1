-- `number_is` compares one column with the written form. Assumes nothing.
use Rattle.directory_columns.proofs.Numbers.{by_column}
use Rattle.directory_columns.proofs.number_is.Goals as goal

pub returns : goal.returns
returns c = search by_column
