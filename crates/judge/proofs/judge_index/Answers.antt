-- `judge_index` judges records end to end. Assumes nothing.
use Rattle.judge.proofs.FileLaws.{plain-index}
use Rattle.judge.proofs.judge_index.Goals as goal

pub returns : goal.returns
returns c = search plain-index
