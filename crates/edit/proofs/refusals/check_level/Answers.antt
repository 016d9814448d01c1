-- `check_level` answers as its definition. Assumes nothing.
use Rattle.edit.proofs.Tested.{nests, nests-not}
use Rattle.edit.proofs.refusals.check_level.Goals as goal

pub returns-then-level-open_level : goal.returns-then-level-open_level
returns-then-level-open_level c = search nests

pub returns-else-level-open_level : goal.returns-else-level-open_level
returns-else-level-open_level c = search nests-not
