-- `columns::pass::behind_minus` meets its contract: what follows a minus is read like any bytes, or there is none. Assumes nothing.
use mathlib.Core.Path.{◌≡◌, refl, ap, ◌∙◌}
use native.Mathlib.Omega.{arith}
use Rattle.std.proofs.lemmas.Grind.{common_steps}
use Rattle.columns.specs.declared.pass.Mark.TheVariants.{Other}
use Rattle.columns.specs.Pass.{says_of}
use Rattle.columns.proofs.Reading.{again, grown, small, read_out, minus_alone}
use Rattle.columns.proofs.pass.behind_minus.Goals as goal

pub returns-then-column-from : goal.returns-then-column-from
returns-then-column-from c = minus_alone c.args.column.now c.args.minus c.args.from c.requires.3 c.if-column-from.true

pub step-first-requires : goal.step-first-requires
step-first-requires c = small c.args.minus c.args.column.now c.args.from c.requires.2 c.requires.0 c.requires.1

pub returns-then-eq : goal.returns-then-eq
returns-then-eq c =
    let other : c.step-first.result.mark ≡ Other = grind (arith, common_steps) in
    read_out c.args.column.now c.args.minus c.args.from c.args.minus c.step-first.result c.args.from c.step-first.ensures other c.if-column-from.false refl

pub read_on-requires : goal.read_on-requires
read_on-requires c = (omega arith, omega arith, grown c.args.minus c.step-first.result _ c.args.from c.step-first.ensures c.requires.2)

pub returns : goal.returns
returns c = c.read_on.ensures ∙ ap says_of (again c.args.column.now c.args.minus c.args.from c.args.minus c.step-first.result c.args.from c.step-first.ensures c.if-column-from.false refl)
