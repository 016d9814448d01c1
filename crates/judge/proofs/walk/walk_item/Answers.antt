-- `walk_item` passes the data records that are due. The loop's invariant is `Walking`. Assumes nothing.
use mathlib.Core.Path.{refl}
use Rattle.judge.proofs.ItemLaws.{walking, item-missing, item-wrong, item-more, item-done}
use Rattle.judge.proofs.walk.walk_item.Goals as goal

pub loop-behind-init : goal.loop-behind-init
loop-behind-init c = search walking

pub returns-then-walk-at : goal.returns-then-walk-at
returns-then-walk-at c = search item-missing

pub returns-in-Err : goal.returns-in-Err
returns-in-Err c = item-wrong _ _ _ _ _ _ _ c.loop-behind.invariant c.loop-behind-test.true c.requires.0 c.if-walk-at.false _ c.in-Err.ensures _ c.in-Err.reason refl c.at-in-Err.ensures

pub loop-behind-preserved : goal.loop-behind-preserved
loop-behind-preserved c = item-more _ _ _ _ _ _ _ c.loop-behind.invariant c.loop-behind-test.true c.requires.0 c.if-walk-at.false _ c.in_default.ensures _ refl c.next-at-in-loop-behind.ensures

pub returns : goal.returns
returns c = search item-done
