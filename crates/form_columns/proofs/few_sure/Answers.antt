-- `form_columns::few_sure` meets its contract. The loop's invariant: `Counting`, of the doubts that count. The measure is the bytes still to come.
-- Assumes nothing.
use borrow.Author.Rules.{rules}
use native.Mathlib.Omega.{arith}
use Rattle.form_bytes.specs.Letters.{behind, letters_in}
use Rattle.form_columns.proofs.Doubts.{letters_of, columns_of, behind_first, counted_small, few-first-doubt, few-next-doubt, few_no_doubt}
use Rattle.form_columns.proofs.few_sure.Goals as goal

pub loop-i-init : goal.loop-i-init
loop-i-init c = search (rules, few-first-doubt)

pub overflow_add-doubts : goal.overflow_add-doubts
overflow_add-doubts c = omega (arith, counted_small _ _ _ _ _ _ c.counted-doubts.ensures c.doubt_at-doubt.ensures.is)

pub loop-i-preserved : goal.loop-i-preserved
unfolding columns_of behind_first letters_of letters_in behind
loop-i-preserved c = (search rules, few-next-doubt _ _ _ (search rules) _ _ _ _ c.counted-doubts.ensures c.doubt_at-doubt.ensures.is (search rules) (search rules))

pub returns : goal.returns
returns c = search few_no_doubt
