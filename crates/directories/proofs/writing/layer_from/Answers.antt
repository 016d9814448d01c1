-- `layer_from`: kept by judging, or looked for. Assumes nothing.
use Rattle.directories.proofs.Written.{none_kept, first_kept, second_kept}
use Rattle.directories.proofs.writing.layer_from.Goals as goal

pub returns-then-header-eq0 : goal.returns-then-header-eq0
returns-then-header-eq0 c = search none_kept

pub returns-in-One : goal.returns-in-One
returns-in-One c = search first_kept

pub returns-in-Two : goal.returns-in-Two
returns-in-Two c = search second_kept
