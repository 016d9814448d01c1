-- `few_zeros` by the number of digits. Assumes nothing.
use native.Mathlib.Omega.{arith}
use Rattle.directory_columns.specs.PackedColumns.{packed}
use Rattle.directory_columns.proofs.PackedColumns.{zeros_of}
use Rattle.directory_columns.proofs.packed.few_zeros.Goals as goal

pub returns-then-n-lt100 : goal.returns-then-n-lt100
unfolding packed
returns-then-n-lt100 c = zeros_of 1 5 _ c.if-n-lt100.true (λ h. c.requires.0)

pub returns-then-n-lt1000 : goal.returns-then-n-lt1000
unfolding packed
returns-then-n-lt1000 c = zeros_of 2 4 _ c.if-n-lt1000.true (λ h. c.if-n-lt100.false)

pub returns-else-n-lt1000 : goal.returns-else-n-lt1000
unfolding packed
returns-else-n-lt1000 c = zeros_of 3 3 _ (omega arith) (λ h. c.if-n-lt1000.false)
