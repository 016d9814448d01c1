-- `normal::normal_index` meets its contract. Assumes nothing.
use Rattle.std.proofs.lemmas.Result.{err_from_is_err_and}
use Rattle.normal.proofs.Files.{index-refused, index-room, index-written}
use Rattle.normal.proofs.normal_index.Goals as goal

pub returns-in_err-judge_index : goal.returns-in_err-judge_index
returns-in_err-judge_index c = let p = err_from_is_err_and c.from_residual.result c.from_residual.ensures.1 in rw (p.1, p.2) (index-refused _ _ _ _ c.in_err-judge_index.ensures)

pub write_file-requires : goal.write_file-requires
write_file-requires c = index-room _ _ _ c.in_ok-judge_index.ensures

pub returns : goal.returns
returns c = index-written _ _ _ c.in_ok-judge_index.ensures _ _ c.write_file.ensures
