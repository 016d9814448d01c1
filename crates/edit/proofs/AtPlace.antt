-- A place of an accepted sheet: the record there, and the header above an item there. Assumes nothing.
use mathlib.Core.Path.{◌≡◌, refl, ap, sym, ◌∙◌}
use mathlib.Core.Bool.{Bool, true, false}
use mathlib.Core.List.{List, [], ◌∷◌}
use Prim.Native.Nat.{ℕ, suc, pred, ◌+◌, ◌-◌, ◌/◌, ◌≤◌, ◌<◌}
use native.Mathlib.Omega.{arith}
use borrow.Author.Tests.{le-leb, ltb-true, ltb-false}
use lib.Dec.{leb, ltb}
use lib.ListN.{length, drop, get_or, length-append, drop_of_length-le, get_or-eq_default}
use lib.Seq.{length-take-le, get_or-take, drop-cons}
use Rattle.format.specs.Basics.{chunks}
use Rattle.format.specs.Record.{is_head, count_index, nothing, View, view, count_in}
use Rattle.format.specs.Layout.{number_at, header}
use Rattle.format.specs.Sheet.{part_length}
use Rattle.format.specs.Judge.{File, sheet_in, AcceptedSheet}
use Rattle.format.specs.Edit.{absent, above_in, last_header, due_behind, open_behind, not_below, before, after, body_place}
use Rattle.format.proofs.Above.{Split, find_in, last_header-split}
use Rattle.format.proofs.AcceptedSheet.{length-records, length-body, record_wide, body-view, passed, behind}
use Rattle.format.proofs.EditInsert.{above_is}
use Rattle.format.proofs.JudgeWalks.{Passes, Good, good, sort}
use Rattle.records.specs.Entry.{view_fault, entry_of}
use Rattle.records.proofs.Laws.{entry-fault, entry-level, header-total, header-count}

module _ {used : ℕ} {l : List ℕ} (a : AcceptedSheet used l) (place : ℕ) where
  abbrev rs : List (List ℕ)
  rs = chunks (used / 84) l

  abbrev file : File
  file = sheet_in used l

  abbrev pre : List View
  pre = before (sheet_in used l) place

  abbrev q : ℕ
  q = body_place (sheet_in used l) place

  -- ---- the header or item at the place
  module _ (follows : part_length (chunks (used / 84) l) < place) (closed : due_behind 0 (before (sheet_in used l) place) ≡ 0) where
    index_is : part_length rs + q ≡ place - 1
    index_is = omega arith

    pub record Start : Type 0 where
      pub wide : length (get_or (chunks (used / 84) l) (place - 1) []) ≡ 84
      pub seen : get_or file.body q absent ≡ view (get_or (chunks (used / 84) l) (place - 1) [])
      pub sound : (entry_of (get_or (chunks (used / 84) l) (place - 1) [])).fault ≡ 0
      pub good_here : Good (open_behind 0 0 pre) (get_or file.body q absent)

    pub starts : q < length file.body → Start
    unfolding view_fault
    starts h = record { wide = w; seen = v; sound = entry-fault (get_or rs (place - 1) []) w ∙ rw (← v, le-leb (count_index (get_or file.body q absent).kind) 9 g.known, g.sound); good_here = g }
      where
        w : length (get_or rs (place - 1) []) ≡ 84
        w = record_wide a (place - 1) (omega (arith, h, length-body a))

        v : get_or file.body q absent ≡ view (get_or rs (place - 1) [])
        v = rw (← index_is) (body-view a q h)

        p : Passes (open_behind 0 0 pre) 0 (sort 0 nothing pre) (get_or file.body q absent ∷ drop (suc q) file.body)
        p = rw (closed, drop-cons file.body q absent h) at (behind a place)

        g : Good (open_behind 0 0 pre) (get_or file.body q absent)
        g = good _ (sort 0 nothing pre) _ p.0

    -- 13: "below the level of the record now there"
    pub not-below : (level : ℕ) → not_below level (after (sheet_in used l) place) ≡ leb (entry_of (get_or (chunks (used / 84) l) (place - 1) [])).level level
    unfolding entry_of
    not-below level = go (ltb q (length file.body)) refl
      where
        go : (t : Bool) → ltb q (length file.body) ≡ t → not_below level (drop q file.body) ≡ leb (entry_of (get_or rs (place - 1) [])).level level
        go true e =
            let s = starts (ltb-true q (length file.body) e) in
            rw (drop-cons file.body q absent (ltb-true q (length file.body) e), s.seen, entry-level (get_or rs (place - 1) []) s.wide s.sound)
        go false e =
            let none : get_or rs (place - 1) [] ≡ [] = get_or-eq_default rs [] (omega (arith, ltb-false q (length file.body) e, length-body a, length-records a)) in
            rw (drop_of_length-le file.body (ltb-false q (length file.body) e), none) (sym (le-leb 0 level (omega arith)))

  -- ---- the header above
  module _ (level : ℕ) (k : body_place (sheet_in used l) place ≤ length (sheet_in used l).body) (low : 2 ≤ level) (near : pred level ≤ open_behind 0 0 (before (sheet_in used l) place)) where
    split : Split (pred level) 0 pre
    split = find_in (pred level) nothing pre (passed a place) (omega arith) near

    number_is : above_in level pre ≡ suc (length split.front)
    number_is = ap (last_header (pred level) 0 1 0) split.whole ∙ last_header-split (pred level) 0 1 0 split.front split.it split.back split.closed split.is_head_lem split.is_level split.clear ∙ omega arith

    length_pre : length pre ≡ q
    length_pre = length-take-le q file.body k

    pub above_low : 1 ≤ above_in level (before (sheet_in used l) place)
    above_low = omega (arith, number_is)

    pub above_high : above_in level (before (sheet_in used l) place) ≤ body_place (sheet_in used l) place
    above_high = omega (arith, number_is, length_pre, simp length-append at (ap length split.whole))

    abbrev above_record : List ℕ
    above_record = get_or (chunks (used / 84) l) (part_length (chunks (used / 84) l) + pred (above_in level (before (sheet_in used l) place))) []

    pub above_wide : length above_record ≡ 84
    above_wide = record_wide a (part_length rs + pred (above_in level pre)) (omega (arith, above_low, above_high, length-body a))

    above_view : get_or pre (pred (above_in level pre)) absent ≡ view above_record
    above_view = get_or-take q file.body (pred (above_in level pre)) absent (omega (arith, above_low, above_high)) ∙ body-view a (pred (above_in level pre)) (omega (arith, above_low, above_high))

    above_head : is_head (view above_record).kind ≡ true
    above_head = rw (sym above_view ∙ above_is level pre split) split.is_head_lem

    pub above_total : (get_or (before (sheet_in used l) place) (pred (above_in level (before (sheet_in used l) place))) absent).total ≡ number_at header "total" above_record
    above_total = ap (λ (v : View). v.total) above_view ∙ header-total above_record above_head

    pub above_count : (kind : ℕ) → (get_or (before (sheet_in used l) place) (pred (above_in level (before (sheet_in used l) place))) absent).count kind ≡ count_in above_record kind
    above_count kind = ap (λ (v : View). v.count kind) above_view ∙ header-count above_record above_head kind
