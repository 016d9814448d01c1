-- `judge_sheet` judges records end to end. Assumes nothing.
use Rattle.judge.proofs.FileLaws.{plain-sheet}
use Rattle.judge.proofs.judge_sheet.Goals as goal

pub returns : goal.returns
returns c = search plain-sheet
