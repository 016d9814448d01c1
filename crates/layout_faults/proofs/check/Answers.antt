-- `layout_faults::check` meets its contract: told at once, or by the table and the lists of its layout. Assumes nothing.
use mathlib.Core.Bool.{true, false}
use Rattle.layout_faults.proofs.Tables.{no_record, malformed, well_formed}
use Rattle.layout_faults.proofs.check.Goals as goal

pub returns-in_default : goal.returns-in_default
returns-in_default g c = no_record _ c.args.record.now c.in_default.ensures.1

pub returns-in_default-all_inside : goal.returns-in_default-all_inside
returns-in_default-all_inside g c =
    let w = c.in-Ok.ensures.1 in
    malformed _ c.args.record.now w.long _ c.table.ensures g.met.L.Layout.lie _ w.same c.in_default-all_inside.ensures

pub returns-then-inside-are_listed : goal.returns-then-inside-are_listed
returns-then-inside-are_listed g c =
    let w = c.in-Ok.ensures.1 in
    well_formed _ c.args.record.now w.long _ c.table.ensures g.met.L.Layout.lie _ w.same _ _ true c.in-Some.ensures c.are_listed.ensures c.if-inside-are_listed.true

pub returns-else-inside-are_listed : goal.returns-else-inside-are_listed
returns-else-inside-are_listed g c =
    let w = c.in-Ok.ensures.1 in
    well_formed _ c.args.record.now w.long _ c.table.ensures g.met.L.Layout.lie _ w.same _ _ false c.in-Some.ensures c.are_listed.ensures c.if-inside-are_listed.false
