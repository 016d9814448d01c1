-- `dm::put_line` meets its contract. Assumes nothing.
use Rattle.dm.proofs.Laws.{read_counts}
use Rattle.dm.proofs.put_line.Goals as goal

pub returns : goal.returns
returns g c = rw c.unwrap_or.ensures (read_counts _ _ _ _ _ _ c.report_read.ensures)
