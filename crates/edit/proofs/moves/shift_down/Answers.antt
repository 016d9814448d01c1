-- `shift_down` moves bytes down. The loop keeps that what it has passed stands n places lower; each turn leaves one byte fewer. Assumes nothing.
use mathlib.Core.Path.{◌≡◌, refl, ◌∙◌}
use mathlib.Core.List.{append_assoc}
use native.Mathlib.Omega.{arith}
use borrow.Author.Rules.{rules}
use lib.ListN.{take, length-set}
use Rattle.edit.proofs.Bytes.{down_start, down_step}
use Rattle.edit.proofs.moves.shift_down.Goals as goal

pub loop-i-init : goal.loop-i-init
loop-i-init c = (search rules, search rules, refl, down_start c.args.buffer.now c.args.at c.args.n)

pub loop-i-preserved : goal.loop-i-preserved
loop-i-preserved c =
    let i = c.loop-i in
    (search rules, search rules, simp length-set i.invariant.2, down_step c.args.buffer.now i.buffer c.args.at c.args.n i.i (omega arith) (omega arith) i.invariant.3)

pub shape_of-buffer : goal.shape_of-buffer
shape_of-buffer c = c.loop-i.invariant.2

pub returns : goal.returns
returns c =
    let e : c.loop-i.i ≡ c.args.used = omega arith in
    (rw e at c.loop-i.invariant.3) ∙ append_assoc (take c.args.at c.args.buffer.now) _ _
