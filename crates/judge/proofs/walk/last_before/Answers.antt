-- `last_before` asks whether record k stands before the place. Assumes nothing.
use Rattle.judge.proofs.SeenLaws.{number-before, number_behind}
use Rattle.judge.proofs.walk.last_before.Goals as goal

pub returns-then-k-before : goal.returns-then-k-before
returns-then-k-before c = search number-before

pub returns-else-k-before : goal.returns-else-k-before
returns-else-k-before c = search number_behind
