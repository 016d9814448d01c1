-- `join` answers as its definition for every number of 64 bits; what it computes fits. Assumes nothing.
use Rattle.corners.proofs.Joining.{not_allowed, not_ok, whole_scaled, fraction_scaled, sum_fits, joined}
use Rattle.corners.proofs.join.Goals as goal

pub returns-then-not-is_allowed : goal.returns-then-not-is_allowed
returns-then-not-is_allowed c = search not_allowed

pub returns-then-not-fraction_ok : goal.returns-then-not-fraction_ok
returns-then-not-fraction_ok c = search not_ok

pub overflow_mul-result : goal.overflow_mul-result
overflow_mul-result c = search whole_scaled

pub overflow_mul-result-2 : goal.overflow_mul-result-2
overflow_mul-result-2 c = search fraction_scaled

pub overflow_add-result : goal.overflow_add-result
overflow_add-result c = search sum_fits

pub returns : goal.returns
returns c = search joined
