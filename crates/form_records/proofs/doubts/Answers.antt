-- `form_records::doubts` meets its contract: each byte adds a doubt at most, and those counted are the doubts of all. Assumes nothing.
use mathlib.Core.Path.{◌≡◌}
use native.Mathlib.Omega.{arith}
use Rattle.form_bytes.proofs.Doubts.{at_most_one}
use Rattle.form_records.proofs.Counting.{next-doubt, two_first, none_behind}
use Rattle.form_records.proofs.doubts.Goals as goal

pub overflow_add-doubts : goal.overflow_add-doubts
overflow_add-doubts c = omega (arith, at_most_one _ _ _ _ c.doubt_at-doubts.ensures.is)

pub loop-i-preserved : goal.loop-i-preserved
loop-i-preserved c = (
  omega (arith, at_most_one _ _ _ _ c.doubt_at-doubts.ensures.is),
  omega (arith, c.doubt_at-doubts.ensures.is, next-doubt c.args.letters.now c.args.record.now (omega arith) (omega arith) c.loop-i.i (omega arith)),
)

pub overflow_add-result : goal.overflow_add-result
overflow_add-result c = omega (arith, at_most_one _ _ _ _ c.doubt_at-first.ensures.is, at_most_one _ _ _ _ c.doubt_at-second.ensures.is)

pub overflow_add-result-2 : goal.overflow_add-result-2
overflow_add-result-2 c = omega (arith, at_most_one _ _ _ _ c.doubt_at-first.ensures.is, at_most_one _ _ _ _ c.doubt_at-second.ensures.is, at_most_one _ _ _ _ c.doubt_at-behind.ensures.is)

pub overflow_add-result-3 : goal.overflow_add-result-3
overflow_add-result-3 c = omega (arith, at_most_one _ _ _ _ c.doubt_at-first.ensures.is, at_most_one _ _ _ _ c.doubt_at-second.ensures.is, at_most_one _ _ _ _ c.doubt_at-behind.ensures.is, at_most_one _ _ _ _ c.doubt_at-last.ensures.is)

pub overflow_add-result-4 : goal.overflow_add-result-4
overflow_add-result-4 c = omega (arith, at_most_one _ _ _ _ c.doubt_at-first.ensures.is, at_most_one _ _ _ _ c.doubt_at-second.ensures.is, at_most_one _ _ _ _ c.doubt_at-behind.ensures.is, at_most_one _ _ _ _ c.doubt_at-last.ensures.is)

pub returns : goal.returns
returns c =
    let i : c.loop-i.i ≡ 80 = omega arith in
    omega (arith, c.doubt_at-first.ensures.is, c.doubt_at-second.ensures.is, c.doubt_at-behind.ensures.is, c.doubt_at-last.ensures.is, two_first c.args.letters.now c.args.record.now (omega arith) (omega arith), rw i at c.loop-i.invariant.1, next-doubt c.args.letters.now c.args.record.now (omega arith) (omega arith) 80 (omega arith), next-doubt c.args.letters.now c.args.record.now (omega arith) (omega arith) 81 (omega arith), none_behind c.args.letters.now c.args.record.now (omega arith) (omega arith))
