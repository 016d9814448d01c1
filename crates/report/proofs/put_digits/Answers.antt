-- `report::put_digits` meets its contract, by the invariant. Assumes nothing.
use Rattle.std.proofs.Common.{rules, ◌∙◌}
use Rattle.report.proofs.Digits.{one_stored, none_left, digits-put}
use Rattle.report.proofs.put_digits.Goals as goal

pub loop-i-init : goal.loop-i-init
loop-i-init c = rw c.count_digits-i.ensures.0

pub loop-i-preserved : goal.loop-i-preserved
loop-i-preserved c = one_stored c.loop-i.out c.args.at c.loop-i.i c.loop-i.left c.loop-i-test.true ∙ c.loop-i.invariant

pub returns : goal.returns
returns c =
    none_left c.loop-i.out c.args.at c.loop-i.i c.loop-i.left c.loop-i-test.false
    ∙ c.loop-i.invariant
    ∙ digits-put c.args.out.now c.args.at c.args.n (search rules) c.requires
