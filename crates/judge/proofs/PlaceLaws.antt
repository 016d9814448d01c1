-- What stands before the place, by the last header or item there. Assumes nothing.
use mathlib.Core.Path.{◌≡◌, refl, sym, ap, ◌∙◌}
use mathlib.Core.Bool.{Bool, true, false, cond}
use mathlib.Core.List.{List, [], ◌∷◌, ◌++◌, append_assoc}
use Prim.Native.Nat.{ℕ, zero, suc, pred, ◌+◌, ◌-◌, ◌^◌, ◌≤◌, ◌<◌}
use native.Mathlib.Omega.{arith}
use borrow.Author.Tests.{ltb-true, ltb-false, le-leb, ne_eqb}
use lib.Dec.{eqb, ltb}
use lib.ListN.{length, drop, get_or, length-append, length-drop, length-map, take-append-drop}
use lib.Seq.{length-take-le, take_all, get_or-drop, get_or-append_seam}
use Rattle.format.specs.Record.{Kind, head, item, neither, View, view, count_index}
use Rattle.format.specs.Judge.{due_of, open_of, due_after}
use Rattle.format.specs.Edit.{absent, due_behind, open_behind}
use Rattle.format.specs.Above.{last_start}
use Rattle.format.proofs.Lists.{get_or_views}
use Rattle.format.proofs.JudgeWalks.{Good, due_behind-append, open_behind-append}
use Rattle.format.proofs.JudgeAccepted.{accepted_ok}
use Rattle.format.proofs.AboveWayUp.{Owner, owner, r_good}
use Rattle.files.specs.Records.{records_of}
use Rattle.records.specs.Entry.{Entry}
use Rattle.records.specs.Entry.{view_fault, refused_entry, entry_of}
use Rattle.format.specs.Reasons.{refusal_number}
use Rattle.format.specs.declared.Reason.{Reason}
use Rattle.format.proofs.Reasons.{not_zero}
use Rattle.records.proofs.Laws.{entry-fault, entry-kind, entry-level, entry_data_records, view_data_records_most}
use Rattle.part_and_index.specs.Result.{SheetPart}
use Rattle.judge.specs.declared.body_records.Extent.{Extent}
use Rattle.judge.specs.declared.walk.Seen.{Seen}
use Rattle.judge.specs.Sheet.{Sheet}
use Rattle.judge.specs.Walks.{ExtentOf, record_at, views_from, body_of, due_of_entry, open_of_entry, place_in, sheet_with, Stands, standing_sheet}
use Rattle.judge.specs.Sheet.{body_before}
use Rattle.judge.proofs.Steps.{wide_at}
use Rattle.judge.proofs.Ends.{from_one}

-- ---- data records only: so many less are due, and the same level is open
due_data_lem : (due : ℕ) (rs : List View) → length rs ≤ due → due_behind due rs ≡ due - length rs
due_data_lem due [] h = omega arith
due_data_lem zero (r ∷ rs) h = absurd (omega arith)
due_data_lem (suc due) (r ∷ rs) h = due_data_lem due rs (omega arith) ∙ omega arith

open_data : (opened due : ℕ) (rs : List View) → length rs ≤ due → open_behind opened due rs ≡ opened
open_data opened due [] h = refl
open_data opened zero (r ∷ rs) h = absurd (omega arith)
open_data opened (suc due) (r ∷ rs) h = open_data opened due rs (omega arith)

-- behind the last header or item of a list stands nothing but its data
module _ (front : List View) (w : Owner 0 front) where
  due_behind_lem : due_behind 0 front ≡ due_after 0 w.it - length w.back
  due_behind_lem =
      ap (due_behind 0) w.whole
      ∙ due_behind-append 0 w.front (w.it ∷ w.back)
      ∙ ap (λ (n : ℕ). due_behind n (w.it ∷ w.back)) w.closed
      ∙ due_data_lem (due_after 0 w.it) w.back w.few

  open_behind_lem : open_behind 0 0 front ≡ open_of w.it.kind w.it.level
  open_behind_lem =
      ap (open_behind 0 0) w.whole
      ∙ open_behind-append 0 0 w.front (w.it ∷ w.back)
      ∙ ap (λ (n : ℕ). open_behind (open_behind 0 0 w.front) n (w.it ∷ w.back)) w.closed
      ∙ open_data (open_of w.it.kind w.it.level) (due_after 0 w.it) w.back w.few

  front_length : length front ≡ length w.front + suc (length w.back)
  front_length = simp length-append at (ap length w.whole)

none_before : (front : List View) → last_start 0 1 0 front ≡ 0 → front ≡ []
none_before [] e = refl
none_before (r ∷ rs) e = let w = owner (r ∷ rs) (omega arith) in absurd (omega (arith, w.found 1 0))

some-before : (front : List View) → 0 < last_start 0 1 0 front → 0 < length front
some-before [] h = absurd (omega arith)
some-before (r ∷ rs) h = omega arith

-- ---- a header or an item that passes has no fault of its own
pub good_reads : (opened : ℕ) (v : View) → Good opened v → view_fault v ≡ 0
unfolding view_fault
good_reads opened v well = rw (le-leb (count_index v.kind) 9 well.known, well.sound)

-- ---- a header's and an item's data records and open level, by the kind
due_by : (k : Kind) (n : ℕ) → cond (eqb (count_index k) 0) 0 n ≡ due_of k n
due_by head n = refl
due_by (item k) n = rw (ne_eqb (suc k) 0 (λ e. omega arith))
due_by neither n = refl

open_by : (k : Kind) (level : ℕ) → cond (eqb (count_index k) 0) level (level - 1) ≡ open_of k level
open_by head level = refl
open_by (item k) level = rw (ne_eqb (suc k) 0 (λ e. omega arith)) (let e : level - 1 ≡ pred level = omega arith in e)
open_by neither level = let e : level - 1 ≡ pred level = omega arith in e

-- ---- the views of a file's records
module _ (file : List ℕ) (x : Extent) (extent_of : ExtentOf file x) (k : ℕ) where
  pub length_views : length (views_from file x k) ≡ x.records - k
  unfolding views_from
  length_views = length-map (drop k (records_of x.stride file)) view ∙ length-drop k (records_of x.stride file) ∙ rw (← extent_of.counted)

  views_at : (i : ℕ) → k + i < x.records → get_or (views_from file x k) i absent ≡ view (record_at file x (k + i))
  unfolding views_from
  views_at i h = get_or_views (drop k (records_of x.stride file)) i (rw (length-drop k (records_of x.stride file), ← extent_of.counted) (omega arith)) ∙ ap view (get_or-drop k (records_of x.stride file) i [])

-- ---- an accepted sheet
module _ (file : List ℕ) (x : Extent) (extent_of : ExtentOf file x) (part : SheetPart) (inside : part.length ≤ x.records) (s : Seen) (st : Stands file x part s) where
  abbrev body : List View
  body = views_from file x part.length

  abbrev front : List View
  front = body_before (body_of file x part) x.before

  same-sheet : (due opened : ℕ) → due ≡ due_behind 0 front → opened ≡ open_behind 0 0 front → sheet_with part due opened s ≡ standing_sheet file x part s
  same-sheet due opened d o = λ i. record { fault = 0; at = 0; items = s.items; part = part.length; unit = part.unit; corners = part.corners; due = d i; open_level = o i; start = st.start_is i; headers = st.headers_are i }

  pub none-stands : (r : Sheet) → s.start ≤ part.length → r ≡ sheet_with part 0 0 s → r ≡ standing_sheet file x part s
  none-stands r h e = e ∙ same-sheet 0 0 (sym (ap (due_behind 0) nothing-there)) (sym (ap (open_behind 0 0) nothing-there))
    where
      nothing-there : front ≡ []
      nothing-there = none_before front (omega (arith, st.start_is))

  module _ (some : part.length < s.start) where
    w : Owner 0 front
    w = owner front (some-before front (omega (arith, st.start_is)))

    start-at : s.start ≡ part.length + suc (length w.front)
    start-at = omega (arith, st.start_is, w.found 1 0)

    front-to : part.length + length front ≡ place_in x
    unfolding place_in
    front-to = go (ltb x.before x.records) refl
      where
        go : (t : Bool) → ltb x.before x.records ≡ t → part.length + length front ≡ cond t x.before x.records
        go true e = omega (arith, length-take-le (x.before - part.length) body (omega (arith, length_views file x extent_of part.length, ltb-true x.before x.records e)), front_length front w)
        go false e = omega (arith, ap length (take_all (x.before - part.length) body (omega (arith, length_views file x extent_of part.length, ltb-false x.before x.records e))), length_views file x extent_of part.length)

    body_is : body ≡ w.front ++ w.it ∷ (w.back ++ drop (x.before - part.length) body)
    body_is = sym (take-append-drop (x.before - part.length) body) ∙ ap (λ (l : List View). l ++ drop (x.before - part.length) body) w.whole ∙ append_assoc w.front (w.it ∷ w.back) (drop (x.before - part.length) body)

    it-inside : part.length + length w.front < x.records
    it-inside = omega (arith, length_views file x extent_of part.length, simp length-append at (ap length body_is))

    well : Good (open_behind 0 0 w.front) w.it
    well = r_good body (accepted_ok (body_of file x part) x.records s.items st.judged).walks.0 w.front w.it (w.back ++ drop (x.before - part.length) body) body_is w.closed

    module _ (e : Entry) (is : e ≡ entry_of (record_at file x (s.start - 1))) where
      abbrev own : List ℕ
      own = record_at file x (part.length + length w.front)

      own_is : e ≡ entry_of own
      own_is = is ∙ ap (λ (k : ℕ). entry_of (record_at file x k)) (let q : s.start - 1 ≡ part.length + length w.front = omega (arith, start-at) in q)

      wide : length own ≡ 84
      wide = wide_at file x extent_of (part.length + length w.front) it-inside

      view_is : view own ≡ w.it
      view_is = sym (views_at file x extent_of part.length (length w.front) it-inside) ∙ ap (λ (l : List View). get_or l (length w.front) absent) body_is ∙ get_or-append_seam w.front w.it (w.back ++ drop (x.before - part.length) body) absent

      reads : (entry_of own).fault ≡ 0
      reads = entry-fault own wide ∙ ap view_fault view_is ∙ good_reads (open_behind 0 0 w.front) w.it well

      -- so it is a header or an item
      pub is_entry_lem : (reason : Reason) → e ≡ refused_entry (refusal_number reason) → ⊥
      is_entry_lem reason q = not_zero reason (ap (λ (p : Entry). p.fault) (sym q ∙ own_is) ∙ reads)

      kind_is : e.kind ≡ count_index w.it.kind
      kind_is = ap (λ (q : Entry). q.kind) own_is ∙ entry-kind own wide reads ∙ ap (λ (v : View). count_index v.kind) view_is

      level_is : e.level ≡ w.it.level
      level_is = ap (λ (q : Entry). q.level) own_is ∙ entry-level own wide reads ∙ ap (λ (v : View). v.level) view_is

      data_is : e.data_records ≡ w.it.data_records
      data_is = ap (λ (q : Entry). q.data_records) own_is ∙ entry_data_records own wide reads ∙ ap (λ (v : View). v.data_records) view_is

      due_is : due_of_entry e ≡ due_after 0 w.it
      unfolding due_of_entry
      due_is = rw (kind_is, data_is) (due_by w.it.kind w.it.data_records)

      open_is : open_of_entry e ≡ open_of w.it.kind w.it.level
      unfolding open_of_entry
      open_is = rw (kind_is, level_is) (open_by w.it.kind w.it.level)

      few : due_after 0 w.it ≤ 999999
      few = at_most w.it.kind w.it.data_records (rw view_is at (view_data_records_most own wide))
        where
          at_most : (k : Kind) (n : ℕ) → n ≤ 999999 → due_of k n ≤ 999999
          at_most head n h = let q : 0 ≤ 999999 = omega arith in q
          at_most (item k) n h = h
          at_most neither n h = h

      pub level-some : 1 ≤ e.level
      level-some = omega (arith, level_is, well.low, from_one w.it.kind)

      pub end_fits : (due : ℕ) → due ≡ due_of_entry e → length file < 2 ^ 64 → s.start + due < 2 ^ 64
      end_fits due of long = omega (arith, of, due_is, few, start-at, it-inside, extent_of.few)

      pub some-stands : (r : Sheet) (due beyond opened : ℕ) → due ≡ due_of_entry e → beyond ≡ s.start + due - place_in x → opened ≡ open_of_entry e → r ≡ sheet_with part beyond opened s → r ≡ standing_sheet file x part s
      some-stands r due beyond opened of to op q = q ∙ same-sheet beyond opened (sym (due_behind_lem front w ∙ beyond_is)) (op ∙ open_is ∙ sym (open_behind_lem front w))
        where
          beyond_is : due_after 0 w.it - length w.back ≡ beyond
          beyond_is = omega (arith, of, to, due_is, start-at, front-to, front_length front w)
