-- `form_bytes::doubt_at` meets its contract: its tests are those of `surely_right`, one by one, and `answered` says what that means for a column. Assumes nothing.
use Rattle.form_bytes.specs.Doubt.{surely_right, doubt}
use Rattle.form_bytes.proofs.AtOnce.{answered}
use Rattle.form_bytes.proofs.doubt_at.Goals as goal

pub returns-then-letter-digit : goal.returns-then-letter-digit
unfolding doubt surely_right
returns-then-letter-digit c = answered _ _ _ _ (simp (simp (c.least_at-least.ensures, c.most_at-most.ensures) at c.if-letter-digit.true))

pub returns-else-letter-digit : goal.returns-else-letter-digit
unfolding doubt surely_right
returns-else-letter-digit c = answered _ _ _ _ (simp (simp (c.least_at-least.ensures, c.most_at-most.ensures) at c.if-letter-digit.false))
