-- `insert` stores what was planned, or nothing. Assumes nothing.
use Rattle.std.proofs.lemmas.Result.{err_from_is_err_and}
use Rattle.edit.proofs.Outcomes.{insert-refused, can-put, insert-fits, insert-done}
use Rattle.edit.proofs.insert.Goals as goal

pub returns-in_err-change : goal.returns-in_err-change
returns-in_err-change c =
    let p = err_from_is_err_and c.from_residual.result c.from_residual.ensures.1 in
    rw (p.1, p.2) (insert-refused _ _ _ _ c.in_err-change.field-0.0 c.in_err-change.ensures)

pub store_insertion-requires : goal.store_insertion-requires
store_insertion-requires c = can-put _ _ _ _ _ c.in_ok-change.ensures

pub overflow_add-result : goal.overflow_add-result
overflow_add-result c = search (insert-fits, c.in_ok-change.ensures)

pub returns : goal.returns
returns c = insert-done _ _ _ _ _ c.in_ok-change.ensures _ c.store_insertion.ensures
