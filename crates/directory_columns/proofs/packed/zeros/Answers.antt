-- `zeros` by the number of digits. Assumes nothing.
use native.Mathlib.Omega.{arith}
use Rattle.directory_columns.specs.PackedColumns.{packed}
use Rattle.directory_columns.proofs.PackedColumns.{zeros_of}
use Rattle.directory_columns.proofs.packed.zeros.Goals as goal

pub returns-then-n-lt100000 : goal.returns-then-n-lt100000
unfolding packed
returns-then-n-lt100000 c = zeros_of 4 2 _ c.if-n-lt100000.true (λ h. c.if-n-lt10000.false)

pub returns-then-n-lt1000000 : goal.returns-then-n-lt1000000
unfolding packed
returns-then-n-lt1000000 c = zeros_of 5 1 _ c.if-n-lt1000000.true (λ h. c.if-n-lt100000.false)

pub returns-else-n-lt1000000 : goal.returns-else-n-lt1000000
unfolding packed
returns-else-n-lt1000000 c = zeros_of 6 0 _ (omega arith) (λ h. c.if-n-lt1000000.false)
