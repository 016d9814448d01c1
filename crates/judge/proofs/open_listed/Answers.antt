-- `open_listed` answers stage one, then the file in the used part of the buffer. Assumes nothing.
use Rattle.std.proofs.lemmas.Result.{err_from_is_err_and}
use Rattle.judge.proofs.ListedLaws.{listed-length, listed-refused, listed-given}
use Rattle.judge.proofs.open_listed.Goals as goal

pub returns-in_err-file : goal.returns-in_err-file
returns-in_err-file c =
    let p = err_from_is_err_and c.from_residual.result c.from_residual.ensures.1 in
    rw (p.1, p.2) (listed-length _ _ _ _ _ c.in_err-file.ensures.0 c.in_err-file.ensures.1)

pub returns-in_err-opened : goal.returns-in_err-opened
returns-in_err-opened c =
    let p = err_from_is_err_and c.from_residual-in_err-opened.result c.from_residual-in_err-opened.ensures.1 in
    rw (p.1, p.2) (listed-refused _ _ _ _ c.in_ok-file.ensures.0 _ (rw c.in_ok-file.ensures.1 at c.in_err-opened.ensures))

pub returns : goal.returns
returns c = listed-given _ _ _ _ c.in_ok-file.ensures.0 _ (rw c.in_ok-file.ensures.1 at c.in_ok-opened.ensures)
