-- `columns::pass::read_on` meets its contract. The loop's invariant: the bytes that are left, passed from what is kept, end where the bytes from `from` on
-- end; and the number that is kept is below 10 ^ i. Assumes nothing.
use mathlib.Core.Path.{◌≡◌}
use native.Mathlib.Omega.{arith}
use borrow.Author.Rules.{rules}
use Rattle.std.proofs.lemmas.Grind.{common_steps}
use Rattle.columns.specs.declared.pass.Mark.TheVariants.{Other}
use Rattle.columns.proofs.Reading.{again, grown, small, read_out, read_all}
use Rattle.columns.proofs.pass.read_on.Goals as goal

pub step-kept-requires : goal.step-kept-requires
step-kept-requires c = small c.loop-i.kept c.args.column.now c.loop-i.i c.loop-i.invariant.0 (omega arith) (omega arith)

pub returns-then-eq : goal.returns-then-eq
returns-then-eq c =
    let other : c.step-kept.result.mark ≡ Other = grind (arith, common_steps) in
    read_out c.args.column.now c.args.first c.args.from c.loop-i.kept c.step-kept.result c.loop-i.i c.step-kept.ensures other c.loop-i-test.true c.loop-i.invariant.1

pub loop-i-preserved : goal.loop-i-preserved
loop-i-preserved c = search (rules, again, grown)

pub finish-requires : goal.finish-requires
finish-requires c = small c.loop-i.kept c.args.column.now c.loop-i.i c.loop-i.invariant.0 (omega arith) (omega arith)

pub returns : goal.returns
returns c = read_all c.args.column.now c.args.first c.args.from _ c.loop-i.i _ c.finish.ensures c.loop-i-test.false c.loop-i.invariant.1
