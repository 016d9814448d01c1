-- `form_columns::few_formed` meets its contract: what is sure is well formed, and the rest is read. Assumes nothing.
use Rattle.form_columns.proofs.Columns.{no_columns, few_are_sure}
use Rattle.form_columns.proofs.few_formed.Goals as goal

pub returns-then-count-eq0 : goal.returns-then-count-eq0
returns-then-count-eq0 c = search no_columns

pub returns-then-few_sure : goal.returns-then-few_sure
returns-then-few_sure c = search few_are_sure
