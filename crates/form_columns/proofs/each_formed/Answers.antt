-- `form_columns::each_formed` meets its contract. The loop's invariant: the columns so far and those still to come are all columns. Assumes nothing.
use Rattle.std.proofs.Common.{rules}
use Rattle.form_columns.proofs.Columns.{one_column, no_column}
use Rattle.form_columns.proofs.each_formed.Goals as goal

pub loop-column-init : goal.loop-column-init
loop-column-init c = search rules

pub loop-column-preserved : goal.loop-column-preserved
loop-column-preserved c = search (rules, one_column)

pub returns : goal.returns
returns c = search no_column
