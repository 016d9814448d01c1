-- `insertion` judges, then plans. Assumes nothing.
use Rattle.std.proofs.lemmas.Result.{err_from_is_err_and}
use Rattle.edit.proofs.OpenedAt.{insertion_refused}
use Rattle.edit.proofs.plans.insertion.Goals as goal

pub returns-in_err-sheet : goal.returns-in_err-sheet
returns-in_err-sheet c =
    let p = err_from_is_err_and c.from_residual.result c.from_residual.ensures.1 in
    rw (p.1, p.2) (insertion_refused _ _ _ c.in_err-sheet.field-0.0 (rw c.saturating_sub.ensures at c.in_err-sheet.ensures) _)
