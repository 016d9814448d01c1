-- `open_sheet` answers stage one, then the file in the used part of the buffer. Assumes nothing.
use Rattle.std.proofs.lemmas.Result.{err_from_is_err_and}
use Rattle.judge.proofs.FileLaws.{sheet-length, sheet-opened}
use Rattle.judge.proofs.open_sheet.Goals as goal

pub returns-in_err-file : goal.returns-in_err-file
returns-in_err-file c =
    let p = err_from_is_err_and c.from_residual.result c.from_residual.ensures.1 in
    rw (p.1, p.2) (sheet-length _ _ _ _ c.in_err-file.ensures.0 c.in_err-file.ensures.1)

pub returns : goal.returns
returns c = sheet-opened _ _ c.in_ok-file.ensures.0 _ _ (rw c.in_ok-file.ensures.1 at c.open_file.ensures)
