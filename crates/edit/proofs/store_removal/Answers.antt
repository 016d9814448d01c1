-- `store_removal` moves, then writes the counts. Assumes nothing.
use Rattle.edit.proofs.Outcomes.{take_counted}
use Rattle.edit.proofs.store_removal.Goals as goal

pub returns : goal.returns
returns c = search take_counted
