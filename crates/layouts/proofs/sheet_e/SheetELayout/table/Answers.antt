-- `layouts::SheetE::table` meets its contract: result and table compute to one list, and each number is one that its column may hold. Assumes nothing.
use mathlib.Core.Path.{refl}
use Rattle.format.specs.Column.{fits, text_of, digits, digits_in}
use Rattle.format.specs.Layout.{sheet_e}
use Rattle.layouts.specs.Tables.{tabled, table_of}
use Rattle.layouts.proofs.Limits.{table}
use Rattle.layouts.proofs.sheet_e.SheetELayout.table.Goals as goal

pub returns : goal.returns
unfolding sheet_e tabled table_of fits text_of digits digits_in
returns c = table sheet_e _ refl refl
