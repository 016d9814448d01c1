-- `store_insertion` moves, then writes the counts. Assumes nothing.
use Rattle.edit.proofs.Outcomes.{put_counted}
use Rattle.edit.proofs.store_insertion.Goals as goal

pub returns : goal.returns
returns c = search put_counted
