-- The cycle of `walk_body` and `walk_group`: each step keeps `Going`, and each way out is one of its cases. Assumes nothing.
use Rattle.std.proofs.Common.{arith, rules, inl, inr}
use Rattle.std.proofs.lemmas.Result.{err_from_is_err_and}
use Rattle.judge.proofs.BodyLaws.{going, body-fault, body_ends, body_stops, count_fits, items-fit, group_stops, group_further, group_goes, item_stops, item_further, item_goes}
use Rattle.judge.proofs.EntryLaws.{kind-small, kind_fits, header_falls, header-level, header_at}
use Rattle.judge.proofs.ChildLaws.{see_header_upto, group_fails, group_answers}
use Rattle.judge.proofs.walk.+walk_body_walk_group.Goals as goal
use Rattle.judge.proofs.walk.+walk_body_walk_group.Goals.{walk_group-then-agreed, walk_group-else-agreed}

pub walk_body-loop-next-init : goal.walk_body-loop-next-init
walk_body-loop-next-init t c = search going

pub walk_body-returns-in_err-entry : goal.walk_body-returns-in_err-entry
walk_body-returns-in_err-entry t c =
    let p = err_from_is_err_and c.from_residual.result c.from_residual.ensures.1 in
    rw (p.1, p.2) (body-fault _ _ _ _ _ _ _ _ _ c.loop-next.invariant _ c.loop-next-test.true c.in_err-entry.ensures)

pub walk_body-offset_bounds-tally-entry : goal.walk_body-offset_bounds-tally-entry
walk_body-offset_bounds-tally-entry t c = kind_fits _ _ _ _ c.requires.0 c.loop-next-test.true _ c.in_ok-entry.ensures

pub walk_body-bounds-tally-entry : goal.walk_body-bounds-tally-entry
walk_body-bounds-tally-entry t c = kind-small _ _ _ _ c.requires.0 c.loop-next-test.true _ c.in_ok-entry.ensures

pub walk_body-overflow_add-tally : goal.walk_body-overflow_add-tally
walk_body-overflow_add-tally t c = search count_fits

pub walk_body-bounds-tally-entry-in-loop-next : goal.walk_body-bounds-tally-entry-in-loop-next
walk_body-bounds-tally-entry-in-loop-next t c = kind-small _ _ _ _ c.requires.0 c.loop-next-test.true _ c.in_ok-entry.ensures

pub walk_body-walk_group-requires : goal.walk_body-walk_group-requires
walk_body-walk_group-requires t c =
    let here = c.loop-next-test.true in
    let deep = c.if-entry-open_level.false in
    let header = c.if-entry-eq0.true in
    (header_falls _ _ _ _ c.requires.0 here _ c.in_ok-entry.ensures deep header _ c.decreases, (search rules, search rules, header-level _ _ _ _ c.requires.0 here _ c.in_ok-entry.ensures deep header, header_at _ _ _ _ c.requires.0 here _ c.in_ok-entry.ensures deep header, search rules))

pub walk_body-returns-in_err-group : goal.walk_body-returns-in_err-group
walk_body-returns-in_err-group t c =
    let p = err_from_is_err_and c.from_residual-in_err-group.result c.from_residual-in_err-group.ensures.1 in
    rw (p.1, p.2) (group_stops _ _ _ _ _ _ _ _ _ c.loop-next.invariant _ c.in_err-group.ensures)

pub walk_body-loop-next-smaller-then-entry-eq0 : goal.walk_body-loop-next-smaller-then-entry-eq0
walk_body-loop-next-smaller-then-entry-eq0 t c = group_further _ _ _ _ _ _ _ _ _ c.loop-next.invariant _ c.in_ok-group.ensures

pub walk_body-loop-next-preserved-then-entry-eq0 : goal.walk_body-loop-next-preserved-then-entry-eq0
walk_body-loop-next-preserved-then-entry-eq0 t c = group_goes _ _ _ _ _ _ _ _ _ c.loop-next.invariant _ c.loop-next-test.true c.in_ok-entry.ensures _ c.in_ok-group.ensures _ c.or-low.ensures

pub walk_body-returns-in_err-behind : goal.walk_body-returns-in_err-behind
walk_body-returns-in_err-behind t c =
    let p = err_from_is_err_and c.from_residual-in_err-behind.result c.from_residual-in_err-behind.ensures.1 in
    rw (p.1, p.2) (item_stops _ _ _ _ _ _ _ _ _ c.loop-next.invariant _ c.loop-next-test.true c.in_ok-entry.ensures c.if-entry-open_level.false c.if-entry-eq0.false _ c.in_err-behind.ensures)

pub walk_body-overflow_add-seen : goal.walk_body-overflow_add-seen
walk_body-overflow_add-seen t c = search items-fit

pub walk_body-loop-next-smaller : goal.walk_body-loop-next-smaller
walk_body-loop-next-smaller t c = item_further _ _ _ _ _ _ _ _ _ c.loop-next.invariant _ c.loop-next-test.true c.in_ok-entry.ensures c.if-entry-open_level.false c.if-entry-eq0.false _ c.in_ok-behind.ensures

pub walk_body-loop-next-preserved : goal.walk_body-loop-next-preserved
walk_body-loop-next-preserved t c = item_goes _ _ _ _ _ _ _ _ _ c.loop-next.invariant _ c.loop-next-test.true c.in_ok-entry.ensures c.if-entry-open_level.false c.if-entry-eq0.false _ c.in_ok-behind.ensures _ c.last_before.ensures

pub walk_body-returns-after-loop-next : goal.walk_body-returns-after-loop-next
walk_body-returns-after-loop-next t c = search body_ends

pub walk_body-returns-then-entry-open_level : goal.walk_body-returns-then-entry-open_level
walk_body-returns-then-entry-open_level t c = body_stops _ _ _ _ _ _ _ _ _ c.loop-next.invariant _ c.loop-next-test.true c.in_ok-entry.ensures c.if-entry-open_level.true

pub walk_group-walk_body-requires : goal.walk_group-walk_body-requires
walk_group-walk_body-requires t c =
    let p = c.requires in
    (omega (arith, p.2), (p.0, omega (arith, p.1), omega (arith, p.2), see_header_upto _ _ _ _ _ p.4 c.see_header-with_header.ensures))

pub walk_group-returns-in_err-body : goal.walk_group-returns-in_err-body
walk_group-returns-in_err-body t c =
    let p = err_from_is_err_and c.from_residual.result c.from_residual.ensures.1 in
    rw (p.1, p.2) (group_fails _ _ c.requires.0 _ c.requires.1 _ c.requires.3 _ c.requires.4 _ c.see_header-with_header.ensures _ c.in_err-body.ensures)

pub walk_group-returns : goal.walk_group-returns
walk_group-returns t c =
    group_answers _ _ c.requires.0 _ c.requires.1 _ c.requires.3 _ c.requires.4 _ c.see_header-with_header.ensures _ c.in_ok-body.ensures _ c.counts_agree_at-agreed.ensures _
    (elim c.if-agreed.branch [ walk_group-then-agreed w ↦ inl (w.if-agreed.true, w.result-is) | walk_group-else-agreed w ↦ inr (w.if-agreed.false, w.result-is) ])
