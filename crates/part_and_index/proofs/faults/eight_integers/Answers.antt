-- `eight_integers` reads the columns one after the other. The loop keeps that the integers so far are the first ones. Assumes nothing.
use Rattle.std.proofs.Common.{rules}
use Rattle.part_and_index.proofs.Corners.{integer-more, integers-all}
use Rattle.part_and_index.proofs.faults.eight_integers.Goals as goal

pub loop-i-preserved : goal.loop-i-preserved
loop-i-preserved c = (search rules, integer-more c.args.record.now c.args.starts c.args.width (search rules) c.loop-i.integers c.loop-i.i c.loop-i.invariant.0 c.loop-i.invariant.1 c.loop-i-test.true c.integer_at.result c.integer_at.type_inv c.integer_at.ensures)

pub returns : goal.returns
returns c = integers-all c.args.record.now c.args.starts c.args.width (search rules) c.loop-i.integers c.loop-i.i c.loop-i.invariant.0 c.loop-i.invariant.1 c.loop-i-test.false
