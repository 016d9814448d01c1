-- `is_ended` compares the last two bytes of a line. Assumes nothing.
use Rattle.line_ends.proofs.Records.{line-tested}
use Rattle.line_ends.proofs.is_ended.Goals as goal

pub returns : goal.returns
returns c = search line-tested
