-- `find_behind`: the closing record, then the rest. Assumes nothing.
use Rattle.directories.proofs.Judging.{used-inside, find_open, pointer_low, pointer_high, find-found}
use Rattle.directories.proofs.find_behind.Goals as goal

pub returns-then-not-closing_ok : goal.returns-then-not-closing_ok
returns-then-not-closing_ok c = search find_open

pub judge_from-requires : goal.judge_from-requires
judge_from-requires c = (search used-inside, search pointer_low, search pointer_high)

pub returns : goal.returns
returns c = search find-found
