-- `form_bytes::most_at` meets its contract. Assumes nothing.
use Rattle.std.proofs.Common.{rules}
use borrow.Author.Tests.{eq-eqb, ne_eqb}
use Rattle.form_bytes.specs.Doubt.{most_at}
use Rattle.form_bytes.proofs.Doubts.{least_of}
use Rattle.form_bytes.proofs.most_at.Goals as goal

pub returns-then-letter-eq90 : goal.returns-then-letter-eq90
unfolding most_at
returns-then-letter-eq90 c = search eq-eqb

pub returns : goal.returns
unfolding most_at
returns c = search (rules, ne_eqb, least_of)
