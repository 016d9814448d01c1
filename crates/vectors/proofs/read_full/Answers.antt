-- `vectors::read_full` meets its contract. Assumes nothing.
use Rattle.std.proofs.Common.{rules, arith}
use Rattle.vectors.proofs.Reading.{as-many, read-more}
use Rattle.vectors.proofs.read_full.Goals as goal

pub loop-done-preserved : goal.loop-done-preserved
loop-done-preserved g c = (search rules, search rules, read-more _ _ _ c.loop-done.buffer c.read.new.buf c.loop-done.done c.in_ok-n.n c.loop-done.invariant.1 c.in_ok-n.ensures.bound.0 c.loop-done.invariant.2 c.in_ok-n.ensures.bytes.0)

pub returns-after-loop-done-clause-read : goal.returns-after-loop-done-clause-read
returns-after-loop-done-clause-read g c = as-many _ _ c.loop-done.buffer c.loop-done.done c.loop-done.invariant.1 c.loop-done.invariant.2 (λ h. absurd (omega (arith, h, c.loop-done-test.false)))
