-- `judge_index_by` answers stage one, then the index. Assumes nothing.
use Rattle.std.proofs.lemmas.Result.{err_from_is_err_and}
use Rattle.judge.proofs.FileLaws.{wrong-length, index-judged}
use Rattle.judge.proofs.judge_index_by.Goals as goal

pub returns-in_err-file : goal.returns-in_err-file
returns-in_err-file c =
    let p = err_from_is_err_and c.from_residual.result c.from_residual.ensures.1 in
    rw (p.1, p.2) (wrong-length _ _ _ _ _ c.in_err-file.ensures.0 c.in_err-file.ensures.1)

pub returns : goal.returns
returns c = index-judged _ _ _ c.in_ok-file.ensures.0 _ c.in_ok-file.ensures.1 _ c.check_index.ensures _ c.count.ensures _ c.and.ensures
