-- `put_in` opens a gap and puts the block there. Assumes nothing.
use Rattle.edit.proofs.Bytes.{inserted}
use Rattle.edit.proofs.moves.put_in.Goals as goal

pub returns : goal.returns
returns c = search inserted
