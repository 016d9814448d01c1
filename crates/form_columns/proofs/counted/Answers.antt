-- `form_columns::counted` meets its contract. Assumes nothing.
use Rattle.form_columns.specs.Counted.{counted_if}
use Rattle.form_columns.proofs.counted.Goals as goal

pub returns-then-used : goal.returns-then-used
unfolding counted_if
returns-then-used c = rw c.if-used.true

pub returns-else-used : goal.returns-else-used
unfolding counted_if
returns-else-used c = rw c.if-used.false
