-- `walk_layers` walks layer after layer. The loop's invariant is `Layering`, and that the written form of the last number is known where there is a directory;
-- its measure the records left. Assumes nothing.
use mathlib.Core.Path.{refl, ap, ◌∙◌}
use borrow.Author.Rules.{rules}
use Rattle.std.proofs.lemmas.Result.{err_from_is_err_and}
use Rattle.judge.specs.Listed.{unlisted_said}
use Rattle.judge.proofs.LayersLaws.{layering, layer-header, layers-fault, layer_goes, layers_end, begun_before, next_unlisted}
use Rattle.judge.proofs.walk.walk_layers.Goals as goal

pub loop-at-init : goal.loop-at-init
loop-at-init c = (search layering, search begun_before)

pub returns-in_err-entry_due : goal.returns-in_err-entry_due
returns-in_err-entry_due c =
    let p = err_from_is_err_and c.from_residual.result c.from_residual.ensures.1 in
    rw (p.1, p.2) (layers-fault _ _ _ _ _ _ _ _ _ _ _ c.loop-at.invariant.0 _ c.loop-at-test.true c.in_err-entry_due.ensures)

pub walk_group-requires : goal.walk_group-requires
walk_group-requires c = (search rules, search rules, search rules, layer-header _ _ _ c.requires.0 c.loop-at-test.true _ c.in_ok-entry_due.ensures, search rules)

pub loop-at-preserved : goal.loop-at-preserved
loop-at-preserved c = (
  layer_goes _ _ _ _ _ _ _ _ _ _ _ c.loop-at.invariant.0 _ c.in_ok-layer.ensures c.loop-at-test.true (layer-header _ _ _ c.requires.0 c.loop-at-test.true _ c.in_ok-entry_due.ensures) _ _ _ _ refl c.compare-compared.ensures.0
      (ap unlisted_said c.or-unlisted.ensures ∙ next_unlisted _ _ _ _ c.then_some.ensures)
      c.or-low.ensures _ c.keep.ensures,
  c.compare-compared.ensures.1,
)

pub returns : goal.returns
returns c = layers_end _ _ _ _ _ _ _ _ _ _ _ c.loop-at.invariant.0 c.loop-at-test.false
