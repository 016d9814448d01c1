-- `words::column_name` meets its contract. Assumes nothing.
use Rattle.std.proofs.Common.{refl, ◌∙◌}
use Rattle.std.proofs.lemmas.Result.{err_from_is_err_and}
use Rattle.words.proofs.RowLaws.{no-row, name-given, name-refused}
use Rattle.words.proofs.column_name.Goals as goal

pub returns-in_err-name : goal.returns-in_err-name
returns-in_err-name c =
    let p = err_from_is_err_and c.from_residual.result c.from_residual.ensures.1 in
    let none = no-row _ _ _ c.in_err-name.ensures.value in
    rw (p.1, p.2) (name-refused _ _ _ (rw none.0 at c.column_row.ensures) (none.1 ∙ c.at.ensures))

pub returns : goal.returns
returns c = name-given _ _ c.in_ok-name.field-0 _ _ (rw c.in_ok-name.ensures.ok_part at c.column_row.ensures) refl c.put_text_line.ensures
