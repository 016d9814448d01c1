-- `c_interface::zv_append_second_edition` meets its contract. Assumes nothing.
use Rattle.c_interface.proofs.Laws.{wrote_edit}
use Rattle.c_interface.proofs.zv_append_second_edition.Goals as goal

pub returns : goal.returns
returns c = search wrote_edit
