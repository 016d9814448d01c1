-- `check_room` answers as its definition. Assumes nothing.
use Rattle.edit.proofs.Tested.{no_room, too_short, roomy}
use Rattle.edit.proofs.refusals.check_room.Goals as goal

pub returns-then-not-has_room : goal.returns-then-not-has_room
returns-then-not-has_room c = search no_room

pub returns-then-free-length : goal.returns-then-free-length
returns-then-free-length c = search too_short

pub returns : goal.returns
returns c = search roomy
