-- `layouts::DataGrid::table` meets its contract: result and table compute to one list, and each number is one that its column may hold. Assumes nothing.
use mathlib.Core.Path.{refl}
use Rattle.format.specs.Column.{fits, text_of, digits, digits_in}
use Rattle.format.specs.Layout.{data_grid}
use Rattle.layouts.specs.Tables.{tabled, table_of}
use Rattle.layouts.proofs.Limits.{table}
use Rattle.layouts.proofs.data_grid.DataGridLayout.table.Goals as goal

pub returns : goal.returns
unfolding data_grid tabled table_of fits text_of digits digits_in
returns c = table data_grid _ refl refl
