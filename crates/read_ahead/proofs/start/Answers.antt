-- `read_ahead::start` meets its contract: it answers true. Assumes nothing.
use Rattle.read_ahead.proofs.Laws.{both_below}
use Rattle.read_ahead.proofs.start.Goals as goal

pub returns : goal.returns
returns c = search both_below
