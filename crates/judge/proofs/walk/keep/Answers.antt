-- `keep`: stored where there is room. Assumes nothing.
use Rattle.judge.proofs.LayersLaws.{first-kept, first-over, second_kept, second_over}
use Rattle.judge.proofs.walk.keep.Goals as goal

pub returns-then-layer-lt-FIRST_KEPT : goal.returns-then-layer-lt-FIRST_KEPT
returns-then-layer-lt-FIRST_KEPT c = search first-kept

pub returns-else-layer-lt-FIRST_KEPT : goal.returns-else-layer-lt-FIRST_KEPT
returns-else-layer-lt-FIRST_KEPT c = search first-over

pub returns-then-layer-lt-SECOND_KEPT : goal.returns-then-layer-lt-SECOND_KEPT
returns-then-layer-lt-SECOND_KEPT c = search second_kept

pub returns-else-layer-lt-SECOND_KEPT : goal.returns-else-layer-lt-SECOND_KEPT
returns-else-layer-lt-SECOND_KEPT c = search second_over
