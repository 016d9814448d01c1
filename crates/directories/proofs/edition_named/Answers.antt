-- `edition_named`: the letters, then the edition column. Assumes nothing.
use Rattle.directories.proofs.Judging.{names_first, names_other, names_second}
use Rattle.directories.proofs.edition_named.Goals as goal

pub returns-then-not-is_second : goal.returns-then-not-is_second
returns-then-not-is_second c = search names_first

pub returns-then-not-states_two : goal.returns-then-not-states_two
returns-then-not-states_two c = search names_other

pub returns : goal.returns
returns c = search names_second
