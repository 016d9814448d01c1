-- `write_number` writes one column. Assumes nothing.
use Rattle.columns.proofs.Laws.{number_fits, number-written}
use Rattle.edit.proofs.counts.write_number.Goals as goal

pub overflow_cast-number : goal.overflow_cast-number
overflow_cast-number c = search number_fits

pub returns : goal.returns
returns c = search number-written
