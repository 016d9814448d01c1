-- `normal::rewriting::rewrite` meets its contract: the table is that of its layout. Assumes nothing.
use Rattle.std.proofs.Common.{rules}
use Rattle.normal.proofs.Layouts.{record-written}
use Rattle.normal.proofs.rewriting.rewrite.Goals as goal

pub returns : goal.returns
returns g c = record-written _ _ _ _ (search rules) c.table.ensures.are c.rewrite_columns.ensures c.requires
