-- `rows` counts a last record that is not full, too. Assumes nothing.
use mathlib.Core.Path.{◌∙◌}
use Rattle.directory_columns.proofs.Numbers.{some_each, rows_are}
use Rattle.directory_columns.proofs.rows.Goals as goal

pub div_ceil-requires : goal.div_ceil-requires
div_ceil-requires c = search some_each

pub returns : goal.returns
returns c = c.div_ceil.ensures ∙ rows_are _ _ _ c.per_record.ensures
