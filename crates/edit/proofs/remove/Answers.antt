-- `remove` stores what was planned, or nothing. Assumes nothing.
use Rattle.std.proofs.lemmas.Result.{err_from_is_err_and}
use Rattle.edit.proofs.Outcomes.{remove-refused, can-take, remove_less, remove-done}
use Rattle.edit.proofs.remove.Goals as goal

pub returns-in_err-change : goal.returns-in_err-change
returns-in_err-change c =
    let p = err_from_is_err_and c.from_residual.result c.from_residual.ensures.1 in
    rw (p.1, p.2) (remove-refused _ _ _ c.in_err-change.field-0.0 c.in_err-change.ensures)

pub store_removal-requires : goal.store_removal-requires
store_removal-requires c = can-take _ _ _ _ c.in_ok-change.ensures

pub overflow_sub-result : goal.overflow_sub-result
overflow_sub-result c = remove_less _ _ _ _ c.in_ok-change.ensures

pub returns : goal.returns
returns c = remove-done _ _ _ _ c.in_ok-change.ensures _ c.store_removal.ensures
