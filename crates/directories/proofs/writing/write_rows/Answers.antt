-- `write_rows` puts record after record behind the sheet. The loop's invariant is `RowsSoFar`. Assumes nothing.
use borrow.Author.Rules.{rules}
use Rattle.directories.proofs.Appended.{no_rows, before-few, rows-kept, records-few, row_put}
use Rattle.directories.proofs.writing.write_rows.Goals as goal

pub loop-i-init : goal.loop-i-init
loop-i-init c = (search rules, search rules, search rules, search rules, search rules, search no_rows)

pub row_from-row-requires : goal.row_from-row-requires
row_from-row-requires c = (search records-few, search before-few, search rows-kept)

pub loop-i-preserved : goal.loop-i-preserved
loop-i-preserved c = (search rules, search rules, search rules, search rules, search rules, search row_put)
