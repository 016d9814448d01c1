-- `put_number` writes one column. Assumes nothing.
use Rattle.directories.proofs.Written.{number_put}
use Rattle.directories.proofs.writing.put_number.Goals as goal

pub returns : goal.returns
returns c = search number_put
