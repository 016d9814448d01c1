-- `normal::data::data` meets its contract. Assumes nothing.
use Rattle.std.proofs.Common.{◌≡◌, rules}
use Rattle.records.specs.declared.Held.TheVariants.{Notes}
use Rattle.records.proofs.Used.{columns_most}
use Rattle.normal.proofs.DataColumns.{note-written, columns_written}
use Rattle.normal.proofs.data.data.Goals as goal

pub returns-then-eq : goal.returns-then-eq
returns-then-eq c = let note : c.args.held ≡ Notes = search rules in note-written _ _ _ _ note c.rewrite.ensures

pub rewrite_first-requires : goal.rewrite_first-requires
rewrite_first-requires c = rw c.columns_used.ensures (columns_most c.args.held c.args.behind)

pub returns : goal.returns
returns c =
    let other : c.args.held ≡ Notes → ⊥ = search rules in
    columns_written c.args.record.now _ c.args.held c.args.behind _ c.columns_used.ensures c.told-record other c.rewrite_first.ensures
