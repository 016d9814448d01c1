-- `normal::write_file` meets its contract. Assumes nothing.
use Rattle.normal.proofs.Files.{too_short, file-written}
use Rattle.normal.proofs.write_file.Goals as goal

pub returns-then-second-used : goal.returns-then-second-used
returns-then-second-used c = search too_short

pub returns : goal.returns
returns c = search file-written
