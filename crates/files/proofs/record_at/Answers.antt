-- `record_at` lends the 84 bytes of a record, or none. Assumes nothing.
use native.Mathlib.Omega.{arith}
use Rattle.files.proofs.Records.{no_record, record_read, record_end}
use Rattle.files.proofs.record_at.Goals as goal

pub returns-then-count-k : goal.returns-then-count-k
returns-then-count-k c = search no_record

pub overflow_mul-start : goal.overflow_mul-start
overflow_mul-start c = omega (arith, record_end _ _ _ _ c.count.ensures c.if-count-k.false _ c.bytes.ensures)

pub overflow_add-end : goal.overflow_add-end
overflow_add-end c = omega (arith, record_end _ _ _ _ c.count.ensures c.if-count-k.false _ c.bytes.ensures)

pub slice_bounds-result-end-2 : goal.slice_bounds-result-end-2
slice_bounds-result-end-2 c = search record_end

pub returns : goal.returns
returns c = search record_read
