-- `stated_total` answers what the header states. Assumes nothing.
use Rattle.edit.proofs.Columns.{total_read, total-small}
use Rattle.edit.proofs.counts.stated_total.Goals as goal

pub returns : goal.returns
returns c = search (total_read, total-small)
