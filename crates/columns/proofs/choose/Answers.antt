-- `columns::choose` meets its contract. Assumes nothing.
use Rattle.columns.proofs.Choosing.{unallowed, decided}
use Rattle.columns.proofs.choose.Goals as goal

pub returns-then-not-is_width : goal.returns-then-not-is_width
returns-then-not-is_width c = search unallowed

pub returns : goal.returns
returns c = search decided
