-- `check_place` answers as its definition. Assumes nothing.
use Rattle.edit.specs.Plans.{is_place}
use borrow.Author.Rules.{rules}
use Rattle.edit.proofs.refusals.check_place.Goals as goal

pub returns-then-part-place : goal.returns-then-part-place
unfolding is_place
returns-then-part-place c = search (rules, c.if-part-place.true)

pub returns-else-part-place : goal.returns-else-part-place
unfolding is_place
returns-else-part-place c = search (rules, c.if-part-place.false)
