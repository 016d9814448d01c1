-- `form_columns::ends_sure` meets its contract. The loop's invariant: `Counting`, at the front and at the back. The measure is the bytes still to come.
-- Assumes nothing.
use borrow.Author.Rules.{rules}
use native.Mathlib.Omega.{arith}
use Rattle.form_bytes.specs.Letters.{behind, letters_in}
use Rattle.form_bytes.proofs.Doubts.{at_most_one}
use Rattle.form_columns.proofs.Doubts.{letters_of, behind_first, first-doubt, next-doubt, no_doubt}
use Rattle.form_columns.proofs.ends_sure.Goals as goal

pub loop-i-init : goal.loop-i-init
loop-i-init c = search (rules, first-doubt)

pub overflow_add-front : goal.overflow_add-front
overflow_add-front c = omega (arith, at_most_one _ _ _ _ c.doubt_at-front-in-loop-i.ensures.is)

pub overflow_add-back : goal.overflow_add-back
overflow_add-back c = omega (arith, at_most_one _ _ _ _ c.doubt_at-back-in-loop-i.ensures.is)

pub loop-i-preserved : goal.loop-i-preserved
unfolding behind_first letters_of letters_in behind
loop-i-preserved c = search (rules, next-doubt)

pub returns : goal.returns
returns c = search no_doubt
