-- `form_columns::many_formed` meets its contract: what is sure is well formed, and the rest is read. Assumes nothing.
use Rattle.form_columns.proofs.Columns.{both_sure, front-sure, back-sure}
use Rattle.form_columns.proofs.many_formed.Goals as goal

pub returns-then-sure-2 : goal.returns-then-sure-2
returns-then-sure-2 c = search both_sure

pub returns-then-sure : goal.returns-then-sure
returns-then-sure c = search front-sure

pub returns-then-sure-3 : goal.returns-then-sure-3
returns-then-sure-3 c = search back-sure
