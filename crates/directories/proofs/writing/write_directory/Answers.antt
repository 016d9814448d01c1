-- `write_directory`: the rows, then the closing record. Assumes nothing.
use Rattle.directories.proofs.Appended.{directory_put_lem}
use Rattle.directories.proofs.writing.write_directory.Goals as goal

pub returns : goal.returns
returns c = search directory_put_lem
