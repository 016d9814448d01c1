-- `at_place` reads the last header or item before the place, where there is one. Assumes nothing.
use mathlib.Core.Path.{refl}
use borrow.Author.Rules.{rules}
use Rattle.judge.proofs.PlaceLaws.{none-stands, is_entry_lem, level-some, end_fits, some-stands}
use Rattle.judge.proofs.opening.at_place.Goals as goal

pub returns-then-seen-part : goal.returns-then-seen-part
returns-then-seen-part c = search none-stands

pub unreachable-requires : goal.unreachable-requires
unreachable-requires c =
    let p = c.requires in
    is_entry_lem _ _ p.0 _ p.1 _ p.2 c.if-seen-part.false _ c.in_default.ensures _ refl

pub overflow_add-seen : goal.overflow_add-seen
overflow_add-seen c =
    let p = c.requires in
    record { fits = end_fits _ _ p.0 _ p.1 _ p.2 c.if-seen-part.false _ c.in-Ok.ensures _ c.due_of.ensures (search rules) }

pub open_of-requires : goal.open_of-requires
open_of-requires c =
    let p = c.requires in
    level-some _ _ p.0 _ p.1 _ p.2 c.if-seen-part.false _ c.in-Ok.ensures

pub returns : goal.returns
returns c =
    let p = c.requires in
    some-stands _ _ p.0 _ p.1 _ p.2 c.if-seen-part.false _ c.in-Ok.ensures _ _ _ _ c.due_of.ensures c.due_beyond-due.ensures c.open_of.ensures c.accepted-2.ensures
