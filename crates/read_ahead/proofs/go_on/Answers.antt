-- `read_ahead::go_on` meets its contract: it answers true. Assumes nothing.
use Rattle.read_ahead.proofs.Laws.{below}
use Rattle.read_ahead.proofs.go_on.Goals as goal

pub returns : goal.returns
returns c = search below
