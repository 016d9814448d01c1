-- `way_up` answers what opening refuses, or 17, or the last header one level less than the header or item that the record is, or is data of. A level is 1 to 9,
-- so it is an index of the headers by level, and fits the count. Assumes nothing.
use mathlib.Core.Path.{refl}
use Prim.Native.Nat.{◌≤◌}
use native.Mathlib.Omega.{arith}
use Rattle.std.proofs.lemmas.Result.{err_from_is_err_and}
use Rattle.way_up.proofs.Laws.{way-refused, used-length, in_part, past_end, own-some, level-least, level-most, reads, layer-header, header_above_lem}
use Rattle.way_up.proofs.way_up.Goals as goal
use Rattle.way_up.proofs.way_up.Goals.{then-number-sheet-via-then-number-sheet, then-number-sheet-via-else-number-sheet+then-used-number}

pub returns-in_err-sheet : goal.returns-in_err-sheet
returns-in_err-sheet c = let p = err_from_is_err_and c.from_residual.result c.from_residual.ensures.1 in rw (p.1, p.2) (way-refused _ _ _ c.in_err-sheet.field-0.0 c.in_err-sheet.ensures)

pub returns-then-number-sheet : goal.returns-then-number-sheet
returns-then-number-sheet c =
    rw c.at.ensures (elim c.then-number-sheet.branch [
      | then-number-sheet-via-then-number-sheet w ↦ in_part _ _ _ _ refl c.in_ok-sheet.ensures w.if-number-sheet.true
      | then-number-sheet-via-else-number-sheet+then-used-number w ↦ past_end _ _ _ _ refl c.in_ok-sheet.ensures w.if-number-sheet.false w.if-used-number.true
    ])

pub slice_bounds-record_at-end : goal.slice_bounds-record_at-end
slice_bounds-record_at-end c = search (used-length, c.in_ok-sheet.ensures)

pub overflow_sub-sheet : goal.overflow_sub-sheet
overflow_sub-sheet c = own-some _ _ _ _ refl c.in_ok-sheet.ensures c.if-number-sheet.false c.if-used-number.false

pub unwrap-level-requires : goal.unwrap-level-requires
unwrap-level-requires c = search (reads, c.in_ok-sheet.ensures)

pub overflow_sub-above : goal.overflow_sub-above
overflow_sub-above c = search (level-least, c.in_ok-sheet.ensures)

pub returns-then-above-eq0 : goal.returns-then-above-eq0
returns-then-above-eq0 c = search (layer-header, c.in_ok-sheet.ensures)

pub offset_bounds-sheet-above : goal.offset_bounds-sheet-above
offset_bounds-sheet-above c = let h : c.unwrap-level.result.level ≤ 9 = search (level-most, c.in_ok-sheet.ensures) in omega arith

pub bounds-sheet-above : goal.bounds-sheet-above
bounds-sheet-above c = let h : c.unwrap-level.result.level ≤ 9 = search (level-most, c.in_ok-sheet.ensures) in omega arith

pub overflow_cast-result : goal.overflow_cast-result
overflow_cast-result c = let h : c.unwrap-level.result.level ≤ 9 = search (level-most, c.in_ok-sheet.ensures) in omega arith

pub returns : goal.returns
returns c = header_above_lem _ _ _ _ refl c.in_ok-sheet.ensures c.if-number-sheet.false c.if-used-number.false _ c.record_at-own.ensures _ c.entry.ensures _ c.unwrap-level.ensures c.if-above-eq0.false
