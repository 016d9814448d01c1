-- `open_against` answers the sheet part, then the body. Assumes nothing.
use Rattle.std.proofs.lemmas.Result.{err_from_is_err_and}
use Rattle.judge.proofs.FileLaws.{part_against, file_extent, file-start, file_against}
use Rattle.judge.proofs.opening.open_against.Goals as goal

pub returns-in_err-part : goal.returns-in_err-part
returns-in_err-part c =
    let p = err_from_is_err_and c.from_residual.result c.from_residual.ensures.1 in
    rw (p.1, p.2) (part_against _ _ _ _ _ _ c.in_err-part.ensures)

pub open_body-requires : goal.open_body-requires
open_body-requires c = (file_extent _ _ _ c.in_ok-part.ensures _ c.args.before c.count.ensures, file-start _ _ _ c.in_ok-part.ensures _ c.args.before c.count.ensures)

pub returns : goal.returns
returns c = file_against _ _ _ c.in_ok-part.ensures _ c.args.before c.count.ensures _ _ _ c.open_body.ensures
