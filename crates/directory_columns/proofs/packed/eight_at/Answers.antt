-- `eight_at` adds eight bytes up. Assumes nothing.
use native.Mathlib.Omega.{arith}
use Rattle.directory_columns.proofs.PackedColumns.{eight_packs}
use Rattle.directory_columns.proofs.packed.eight_at.Goals as goal

pub returns : goal.returns
returns c = eight_packs _ _ (omega arith) _ _ _ _ _ _ _ _ (c.from.ensures, omega arith) (c.from-2.ensures, omega arith) (c.from-3.ensures, omega arith) (c.from-4.ensures, omega arith) (c.from-5.ensures, omega arith) (c.from-6.ensures, omega arith) (c.from-7.ensures, omega arith) (c.from-8.ensures, omega arith)
