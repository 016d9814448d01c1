-- `packed_at` leaves the first of eight bytes out. Assumes nothing.
use Rattle.directory_columns.proofs.PackedColumns.{less_first}
use Rattle.directory_columns.proofs.packed.packed_at.Goals as goal

pub returns : goal.returns
returns c = search less_first
