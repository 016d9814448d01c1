-- `judge_sheet_by` answers stage one, then the verdict of opening. Assumes nothing.
use Rattle.std.proofs.lemmas.Result.{err_from_is_err_and}
use Rattle.judge.proofs.FileLaws.{wrong-length, sheet-fault, sheet-counts}
use Rattle.judge.proofs.judge_sheet_by.Goals as goal

pub returns-in_err-file : goal.returns-in_err-file
returns-in_err-file c =
    let p = err_from_is_err_and c.from_residual.result c.from_residual.ensures.1 in
    rw (p.1, p.2) (wrong-length _ _ _ _ _ c.in_err-file.ensures.0 c.in_err-file.ensures.1)

pub returns-in_err-sheet : goal.returns-in_err-sheet
returns-in_err-sheet c =
    let p = err_from_is_err_and c.from_residual-in_err-sheet.result c.from_residual-in_err-sheet.ensures.1 in
    rw (p.1, p.2) (sheet-fault _ _ _ c.in_ok-file.ensures.0 _ c.in_ok-file.ensures.1 _ c.in_err-sheet.ensures)

pub returns : goal.returns
returns c = sheet-counts _ _ _ c.in_ok-file.ensures.0 _ c.in_ok-file.ensures.1 _ c.in_ok-sheet.ensures _ c.count.ensures
