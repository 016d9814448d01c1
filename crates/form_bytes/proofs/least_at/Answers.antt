-- `form_bytes::least_at` meets its contract. Assumes nothing.
use borrow.Author.Tests.{eq-eqb, ne_eqb}
use Rattle.form_bytes.specs.Doubt.{least_at}
use Rattle.form_bytes.proofs.least_at.Goals as goal

pub returns-then-letter-eq114 : goal.returns-then-letter-eq114
unfolding least_at
returns-then-letter-eq114 c = search eq-eqb

pub returns-else-letter-eq114 : goal.returns-else-letter-eq114
unfolding least_at
returns-else-letter-eq114 c = search ne_eqb
