-- `length_ok` is stage one, test by test. Assumes nothing.
use native.Mathlib.Omega.{arith}
use Rattle.std.proofs.lemmas.Grind.{common_steps}
use Rattle.files.specs.Records.{length_ok}
use Rattle.files.proofs.StageOne.{stride_bounds}
use Rattle.files.proofs.length_ok.Goals as goal

pub nonzero_rem-used : goal.nonzero_rem-used
nonzero_rem-used c = omega (arith, stride_bounds _ _ c.bytes-each.ensures)

pub overflow_mul-result : goal.overflow_mul-result
overflow_mul-result c = omega (arith, stride_bounds _ _ c.bytes-each.ensures)

pub returns-then-used-each-eq0 : goal.returns-then-used-each-eq0
unfolding length_ok
returns-then-used-each-eq0 c = grind (arith, common_steps)

pub returns-else-used-each-eq0 : goal.returns-else-used-each-eq0
unfolding length_ok
returns-else-used-each-eq0 c = grind (arith, common_steps)
