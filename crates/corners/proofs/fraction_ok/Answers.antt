-- `fraction_ok` tests size, then sign. Assumes nothing.
use borrow.Author.Rules.{rules}
use Rattle.format.specs.Corner.{fraction_ok}
use Rattle.corners.proofs.fraction_ok.Goals as goal

pub returns-then-unsigned_abs-most_of : goal.returns-then-unsigned_abs-most_of
unfolding fraction_ok
returns-then-unsigned_abs-most_of c = search rules

pub returns-else-unsigned_abs-most_of : goal.returns-else-unsigned_abs-most_of
unfolding fraction_ok
returns-else-unsigned_abs-most_of c = search rules
