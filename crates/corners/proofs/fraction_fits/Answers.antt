-- `fraction_fits` is the range of its column's width. Assumes nothing.
use native.Mathlib.Omega.{arith}
use borrow.Author.Rules.{rules}
use Rattle.format.proofs.ColumnFits.{fits-range}
use Rattle.corners.proofs.fraction_fits.Goals as goal

pub returns : goal.returns
returns c = rw (fits-range 3 _ (omega arith)) (search rules)
