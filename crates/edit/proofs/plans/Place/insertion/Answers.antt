-- `insertion` refuses by 11 to 15 in their order, or raises the counts. Assumes nothing.
use mathlib.Core.Path.{refl, sym}
use native.Mathlib.Omega.{arith}
use borrow.Author.Rules.{rules}
use Rattle.std.proofs.lemmas.Result.{err_from_is_err_and}
use Rattle.edit.proofs.OpenedAt.{level_there}
use Rattle.edit.proofs.Insertion.{free-there, no_place, place_some, no_item, level-some, wrong-level, nested, above_there, full, stored, items_few, part_inside, place_few}
use Rattle.edit.proofs.plans.Place.insertion.Goals as goal

pub returns-in_err-check_place : goal.returns-in_err-check_place
returns-in_err-check_place c =
    let p = err_from_is_err_and c.from_residual.result c.from_residual.ensures.1 in
    rw (p.1, p.2) (no_place _ _ _ _ c.args.self.now.opened _ _ c.in_err-check_place.ensures)

pub returns-in_err-item : goal.returns-in_err-item
returns-in_err-item c =
    let p = err_from_is_err_and c.from_residual-in_err-item.result c.from_residual-in_err-item.ensures.1 in
    rw (p.1, p.2) (no_item _ _ _ _ c.args.self.now.opened _ c.in_ok-check_place.ensures _ c.read_block.ensures _ c.in_err-item.ensures.ok_part c.in_err-item.ensures.value)

pub entry-requires : goal.entry-requires
entry-requires c = place_some _ _ _ _ c.args.self.now.opened c.args.block.now c.in_ok-check_place.ensures

pub check_level-requires : goal.check_level-requires
check_level-requires c = level-some _ _ _ _ c.args.self.now.opened _ c.in_ok-check_place.ensures _ c.read_block.ensures _ c.in_ok-item.ensures.ok_part

pub returns-in_err-check_level : goal.returns-in_err-check_level
returns-in_err-check_level c =
    let p = err_from_is_err_and c.from_residual-in_err-check_level.result c.from_residual-in_err-check_level.ensures.1 in
    rw (p.1, p.2) (wrong-level _ _ _ _ c.args.self.now.opened _ c.in_ok-check_place.ensures _ c.read_block.ensures _ c.in_ok-item.ensures.ok_part _ (level_there c.entry.result _ _ _ c.entry.ensures c.map_or-next.ensures (λ e p. search (rules, p))) _ c.in_err-check_level.ensures)

pub header_above-above-requires : goal.header_above-above-requires
header_above-above-requires c = above_there _ _ _ _ _ _ _ (nested _ _ _ _ c.args.self.now.opened _ c.in_ok-check_place.ensures _ c.read_block.ensures _ c.in_ok-item.ensures.ok_part _ (level_there c.entry.result _ _ _ c.entry.ensures c.map_or-next.ensures (λ e p. search (rules, p))) c.in_ok-check_level.ensures)

pub returns-in_err-check_room : goal.returns-in_err-check_room
returns-in_err-check_room c =
    let p = err_from_is_err_and c.from_residual-in_err-check_room.result c.from_residual-in_err-check_room.ensures.1 in
    rw (p.1, p.2) (full _ _ _ _ _ _ _ (nested _ _ _ _ c.args.self.now.opened _ c.in_ok-check_place.ensures _ c.read_block.ensures _ c.in_ok-item.ensures.ok_part _ (level_there c.entry.result _ _ _ c.entry.ensures c.map_or-next.ensures (λ e p. search (rules, p))) c.in_ok-check_level.ensures) _ c.header_above-above.ensures _ refl _ (sym c.in_err-check_room.ensures))

pub returns : goal.returns
returns c = stored _ _ _ _ _ _ _ (nested _ _ _ _ c.args.self.now.opened _ c.in_ok-check_place.ensures _ c.read_block.ensures _ c.in_ok-item.ensures.ok_part _ (level_there c.entry.result _ _ _ c.entry.ensures c.map_or-next.ensures (λ e p. search (rules, p))) c.in_ok-check_level.ensures) _ c.header_above-above.ensures _ refl (sym c.in_ok-check_room.ensures)

pub overflow_add-result-3 : goal.overflow_add-result-3
overflow_add-result-3 c = let few = items_few _ _ _ _ c.args.self.now.opened c.args.block.now in omega arith

pub overflow_sub-result : goal.overflow_sub-result
overflow_sub-result c = let part = part_inside _ _ _ _ c.args.self.now.opened c.args.block.now in omega arith

pub overflow_sub-result-2 : goal.overflow_sub-result-2
overflow_sub-result-2 c = place_some _ _ _ _ c.args.self.now.opened c.args.block.now c.in_ok-check_place.ensures

pub overflow_mul-result : goal.overflow_mul-result
overflow_mul-result c = let few = place_few _ _ _ _ c.args.self.now.opened c.args.block.now c.in_ok-check_place.ensures in omega arith

pub overflow_sub-free : goal.overflow_sub-free
overflow_sub-free c = free-there _ _ _ _ c.args.self.now.opened c.args.block.now
