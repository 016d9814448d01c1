-- `normal::data::rewrite_first` meets its contract. Assumes nothing.
use Rattle.std.proofs.Common.{sym}
use lib.Seq.{length-take-le}
use Rattle.normal.proofs.DataColumns.{first_long, first-written}
use Rattle.normal.proofs.data.rewrite_first.Goals as goal

pub slice_bounds-rewrite_columns-end : goal.slice_bounds-rewrite_columns-end
slice_bounds-rewrite_columns-end c = sym (length-take-le _ _ (first_long _ _ c.requires c.table.ensures.are))

pub returns : goal.returns
returns c = first-written _ _ _ _ c.table.ensures.are c.rewrite_columns.ensures
