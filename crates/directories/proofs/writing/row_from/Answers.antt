-- `row_from` writes layer after layer. The loop's invariant is `Filling`. Assumes nothing.
use mathlib.Core.Path.{refl}
use borrow.Author.Rules.{rules}
use Rattle.directories.proofs.Written.{filling, layer-small, layer_added, last_row}
use Rattle.directories.proofs.writing.row_from.Goals as goal

pub loop-i-init : goal.loop-i-init
loop-i-init c = (search rules, search rules, search rules, search filling)

pub returns-in_default : goal.returns-in_default
returns-in_default c = last_row c.args.file.now c.args.edition c.args.k _ c.loop-i.bytes c.loop-i.at c.loop-i.i c.loop-i.invariant.3 refl c.in_default.ensures

pub put_layer-requires : goal.put_layer-requires
put_layer-requires c = (search rules, layer-small c.args.file.now c.args.edition c.args.k _ c.loop-i.bytes c.loop-i.at c.loop-i.i c.loop-i.invariant.3 refl c.in-Some.numbers c.in-Some.ensures c.loop-i.invariant.0)

pub loop-i-preserved : goal.loop-i-preserved
loop-i-preserved c = (search rules, search rules, search rules, layer_added c.args.file.now c.args.edition c.args.k _ c.loop-i.bytes c.loop-i.at c.loop-i.i c.loop-i.invariant.3 refl c.in-Some.numbers c.in-Some.ensures (search rules) _ _ c.put_layer.ensures c.behind_layer-at.ensures)
