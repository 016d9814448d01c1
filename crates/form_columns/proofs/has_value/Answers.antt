-- `form_columns::has_value` meets its contract: the exact reader's answer, by its variant. Assumes nothing.
use Rattle.form_columns.proofs.Reader.{no_value, a_value}
use Rattle.form_columns.proofs.has_value.Goals as goal

pub returns-in-Value : goal.returns-in-Value
returns-in-Value c = search a_value

pub returns-in_default : goal.returns-in_default
returns-in_default c = search no_value
