-- `words::layout_column` meets its contract. Assumes nothing.
use Rattle.std.proofs.Common.{◌∙◌, rules}
use Rattle.std.proofs.lemmas.Result.{err_from_is_err_and}
use Rattle.words.proofs.RowLaws.{no-row, column-given, column-refused}
use Rattle.words.proofs.layout_column.Goals as goal

pub returns-in_err-letter : goal.returns-in_err-letter
returns-in_err-letter c =
    let p = err_from_is_err_and c.from_residual.result c.from_residual.ensures.1 in
    let none = no-row _ _ _ c.in_err-letter.ensures.value in
    rw (p.1, p.2) (column-refused _ _ (rw none.0 at c.column_row.ensures) (none.1 ∙ c.at.ensures))

pub returns : goal.returns
returns c = column-given _ c.in_ok-letter.field-0 _ _ (rw c.in_ok-letter.ensures.ok_part at c.column_row.ensures) (search rules) (search rules)
