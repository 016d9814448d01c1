-- `words::column_row` meets its contract. Assumes nothing.
use Rattle.words.proofs.RowLaws.{in-table, no_table}
use Rattle.words.proofs.column_row.Goals as goal

pub returns-in_err-table : goal.returns-in_err-table
returns-in_err-table c = rw c.from_residual.ensures (no_table _ _ c.in_err-table.ensures)

pub returns : goal.returns
returns c = in-table _ _ c.in_ok-table.field-0 _ c.in_ok-table.ensures c.row_in.ensures
