-- `open_gap` moves bytes up. The loop runs from the back and keeps that what it has passed stands n places higher; each turn leaves one byte fewer. Assumes nothing.
use mathlib.Core.Path.{◌≡◌, refl}
use Prim.Native.Nat.{◌+◌}
use native.Mathlib.Omega.{arith}
use borrow.Author.Rules.{rules}
use lib.ListN.{drop, length-set}
use Rattle.edit.proofs.Bytes.{open_start, open_step}
use Rattle.edit.proofs.moves.open_gap.Goals as goal

pub loop-i-init : goal.loop-i-init
loop-i-init c = (search rules, search rules, refl, open_start c.args.buffer.now c.args.used c.args.n)

pub loop-i-preserved : goal.loop-i-preserved
loop-i-preserved c =
    let i = c.loop-i in
    (search rules, search rules, simp length-set i.invariant.2, open_step c.args.buffer.now (drop (c.args.used + c.args.n) c.args.buffer.now) i.buffer c.args.used c.args.n i.i (omega arith) (omega arith) (omega arith) i.invariant.3)

pub shape_of-buffer : goal.shape_of-buffer
shape_of-buffer c = c.loop-i.invariant.2

pub returns : goal.returns
returns c =
    let e : c.loop-i.i ≡ c.args.at = omega arith in
    rw e at c.loop-i.invariant.3
