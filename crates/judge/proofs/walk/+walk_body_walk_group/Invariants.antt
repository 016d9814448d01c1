-- The cycle of `walk_body` and `walk_group`: the levels left fall at each call. The loop's invariant is `Going`, its measure the records left.
-- Assumes nothing.
use Rattle.std.proofs.Common.{◌+◌, ◌-◌, ◌*◌}
use Rattle.judge.proofs.BodyLaws.{Going}
use Rattle.judge.proofs.walk.+walk_body_walk_group.Given as goal

abbrev pub decreases-walk_body : goal.decreases-walk_body
decreases-walk_body l = 2 * (9 - l.open_level)

abbrev pub decreases-walk_group : goal.decreases-walk_group
decreases-walk_group l = 2 * (8 - l.open_level) + 1

abbrev pub invariant-walk_body-loop-next : goal.invariant-walk_body-loop-next
invariant-walk_body-loop-next l = Going l.walk.file.now l.walk.extent l.k l.open_level l.initial.seen l.next l.tally l.low l.seen

abbrev pub decreases-walk_body-loop-next : goal.decreases-walk_body-loop-next
decreases-walk_body-loop-next l = l.walk.extent.records - l.next
