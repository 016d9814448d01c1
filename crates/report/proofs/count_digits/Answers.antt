-- `report::count_digits` meets its contract. Assumes nothing.
use Rattle.report.proofs.Digits.{digits-counted}
use Rattle.std.proofs.Common.{rules}
use Rattle.report.proofs.count_digits.Goals as goal

pub returns : goal.returns
returns c = (search digits-counted, search rules)
