-- `removal` refuses by 11, or lowers the counts. Assumes nothing.
use native.Mathlib.Omega.{arith}
use borrow.Author.Rules.{rules}
use Rattle.std.proofs.lemmas.Result.{err_from_is_err_and}
use Rattle.edit.proofs.Removal.{no_place, place_some, no_item, said_there, kept_item, removable, above_there, part-inside, place_few, data_few, records_few, stored}
use Rattle.edit.proofs.plans.Place.removal.Goals as goal

pub returns-in_err-check_place : goal.returns-in_err-check_place
returns-in_err-check_place c =
    let p = err_from_is_err_and c.from_residual.result c.from_residual.ensures.1 in
    rw (p.1, p.2) (no_place _ _ _ _ c.args.self.now.opened _ c.in_err-check_place.ensures)

pub entry-requires : goal.entry-requires
entry-requires c = place_some _ _ _ _ c.args.self.now.opened c.in_ok-check_place.ensures

pub returns-in_err-item : goal.returns-in_err-item
returns-in_err-item c =
    let p = err_from_is_err_and c.from_residual-in_err-item.result c.from_residual-in_err-item.ensures.1 in
    rw (p.1, p.2) (no_item _ _ _ _ c.args.self.now.opened c.in_ok-check_place.ensures _ c.entry.ensures _ _ c.filter.ensures (λ e b p. search (rules, p.1)) _ c.in_err-item.ensures.ok_part c.in_err-item.ensures.value)

pub header_above-above-requires : goal.header_above-above-requires
header_above-above-requires c = above_there _ _ _ _ _ (let k = kept_item c.entry.result _ _ c.filter.ensures (λ e b p. search (rules, p.1)) c.in_ok-item.item c.in_ok-item.ensures.ok_part in removable _ _ _ _ c.args.self.now.opened c.in_ok-check_place.ensures _ (said_there _ _ _ _ c.args.self.now.opened c.in_ok-check_place.ensures _ c.entry.ensures _ k.0) k.1)

pub overflow_add-gone : goal.overflow_add-gone
overflow_add-gone c =
    let r = (let k = kept_item c.entry.result _ _ c.filter.ensures (λ e b p. search (rules, p.1)) c.in_ok-item.item c.in_ok-item.ensures.ok_part in removable _ _ _ _ c.args.self.now.opened c.in_ok-check_place.ensures _ (said_there _ _ _ _ c.args.self.now.opened c.in_ok-check_place.ensures _ c.entry.ensures _ k.0) k.1) in
    let few = data_few _ _ _ _ _ r in
    let most = records_few _ _ _ _ _ r in
    omega arith

pub overflow_sub-result : goal.overflow_sub-result
overflow_sub-result c = part-inside _ _ _ _ _ (let k = kept_item c.entry.result _ _ c.filter.ensures (λ e b p. search (rules, p.1)) c.in_ok-item.item c.in_ok-item.ensures.ok_part in removable _ _ _ _ c.args.self.now.opened c.in_ok-check_place.ensures _ (said_there _ _ _ _ c.args.self.now.opened c.in_ok-check_place.ensures _ c.entry.ensures _ k.0) k.1)

pub overflow_sub-result-2 : goal.overflow_sub-result-2
overflow_sub-result-2 c = data_few _ _ _ _ _ (let k = kept_item c.entry.result _ _ c.filter.ensures (λ e b p. search (rules, p.1)) c.in_ok-item.item c.in_ok-item.ensures.ok_part in removable _ _ _ _ c.args.self.now.opened c.in_ok-check_place.ensures _ (said_there _ _ _ _ c.args.self.now.opened c.in_ok-check_place.ensures _ c.entry.ensures _ k.0) k.1)

pub overflow_sub-result-3 : goal.overflow_sub-result-3
overflow_sub-result-3 c = place_some _ _ _ _ c.args.self.now.opened c.in_ok-check_place.ensures

pub overflow_mul-result : goal.overflow_mul-result
overflow_mul-result c = let few = place_few _ _ _ _ _ (let k = kept_item c.entry.result _ _ c.filter.ensures (λ e b p. search (rules, p.1)) c.in_ok-item.item c.in_ok-item.ensures.ok_part in removable _ _ _ _ c.args.self.now.opened c.in_ok-check_place.ensures _ (said_there _ _ _ _ c.args.self.now.opened c.in_ok-check_place.ensures _ c.entry.ensures _ k.0) k.1) in omega arith

pub overflow_mul-result-2 : goal.overflow_mul-result-2
overflow_mul-result-2 c =
    let r = (let k = kept_item c.entry.result _ _ c.filter.ensures (λ e b p. search (rules, p.1)) c.in_ok-item.item c.in_ok-item.ensures.ok_part in removable _ _ _ _ c.args.self.now.opened c.in_ok-check_place.ensures _ (said_there _ _ _ _ c.args.self.now.opened c.in_ok-check_place.ensures _ c.entry.ensures _ k.0) k.1) in
    let few = data_few _ _ _ _ _ r in
    let most = records_few _ _ _ _ _ r in
    omega arith

pub returns : goal.returns
returns c = stored _ _ _ _ _ (let k = kept_item c.entry.result _ _ c.filter.ensures (λ e b p. search (rules, p.1)) c.in_ok-item.item c.in_ok-item.ensures.ok_part in removable _ _ _ _ c.args.self.now.opened c.in_ok-check_place.ensures _ (said_there _ _ _ _ c.args.self.now.opened c.in_ok-check_place.ensures _ c.entry.ensures _ k.0) k.1) _ c.header_above-above.ensures _ _ _ c.saturating_sub.ensures c.saturating_sub-2.ensures c.saturating_sub-3.ensures
