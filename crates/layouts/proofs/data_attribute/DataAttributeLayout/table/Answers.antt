-- `layouts::DataAttribute::table` meets its contract: result and table compute to one list, and each number is one that its column may hold. Assumes nothing.
use mathlib.Core.Path.{refl}
use Rattle.format.specs.Column.{fits, text_of, digits, digits_in}
use Rattle.format.specs.Layout.{data_attribute}
use Rattle.layouts.specs.Tables.{tabled, table_of}
use Rattle.layouts.proofs.Limits.{table}
use Rattle.layouts.proofs.data_attribute.DataAttributeLayout.table.Goals as goal

pub returns : goal.returns
unfolding data_attribute tabled table_of fits text_of digits digits_in
returns c = table data_attribute _ refl refl
