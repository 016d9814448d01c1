-- `form_columns::columns_well_formed` meets its contract: false where the columns do not lie in the bytes, else by its three ways. Assumes nothing.
use Rattle.form_columns.proofs.Columns.{starts_outside, ends_outside, inside}
use Rattle.form_columns.proofs.columns_well_formed.Goals as goal

pub returns-then-bytes-start : goal.returns-then-bytes-start
returns-then-bytes-start c = search starts_outside

pub returns-then-bytes-start-2 : goal.returns-then-bytes-start-2
returns-then-bytes-start-2 c = search ends_outside

pub returns-then-count-lt7 : goal.returns-then-count-lt7
returns-then-count-lt7 c = search inside

pub returns-then-count-le14 : goal.returns-then-count-le14
returns-then-count-le14 c = search inside

pub returns : goal.returns
returns c = search inside
