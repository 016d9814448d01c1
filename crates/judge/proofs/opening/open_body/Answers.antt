-- `open_body` answers stage two, then stage three. Assumes nothing.
use Rattle.std.proofs.lemmas.Result.{err_from_is_err_and}
use Rattle.judge.proofs.AnswerLaws.{against_fault, refused-body, against_body}
use Rattle.judge.proofs.opening.open_body.Goals as goal

pub returns-in_err-body : goal.returns-in_err-body
returns-in_err-body c =
    let p = err_from_is_err_and c.from_residual.result c.from_residual.ensures.1 in
    rw (p.1, p.2) (against_fault _ _ _ _ _ _ c.in_err-body.ensures)

pub returns-in_err-sheet : goal.returns-in_err-sheet
returns-in_err-sheet c =
    let p = err_from_is_err_and c.from_residual-in_err-sheet.result c.from_residual-in_err-sheet.ensures.1 in
    rw (p.1, p.2) (refused-body _ _ _ _ _ _ c.in_err-sheet.ensures)

pub returns : goal.returns
returns c = against_body _ _ _ _ _ _ c.in_ok-body.ensures _ c.in_ok-sheet.ensures
