-- `compare`: the layer's numbers in written form, each from the one before it, against the directory. Assumes nothing.
use Rattle.judge.proofs.LayersLaws.{short-lists-none, no_directory, lists, last_known}
use Rattle.judge.proofs.walk.compare.Goals as goal

pub returns-then-directory-lt-RECORD : goal.returns-then-directory-lt-RECORD
returns-then-directory-lt-RECORD c = (search short-lists-none, search no_directory)

pub returns : goal.returns
returns c = (search lists, search last_known)
