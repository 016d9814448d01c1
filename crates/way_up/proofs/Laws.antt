-- The way up in the code's own words, from an opened sheet. Assumes nothing.
use Rattle.format.proofs.Reasons.{not_zero}
use mathlib.Core.Path.{◌≡◌, refl, ap, sym, ◌∙◌}
use mathlib.Core.List.{List, []}
use Prim.Native.Nat.{ℕ, pred, ◌+◌, ◌-◌, ◌/◌, ◌≤◌, ◌<◌}
use native.Mathlib.Omega.{arith}
use mathlib.Core.Bool.{cond}
use Rattle.std.specs.Prelude.{Result, Ok, Err, Some, None, IsOk}
use lib.Dec.{eqb}
use borrow.Author.Tests.{le-ltb, lt-ltb, lt-leb, le-leb, ne_eqb}
use lib.ListN.{length, take, get_or}
use Rattle.format.specs.Basics.{Answer, given, chunks}
use Rattle.format.specs.Record.{View, view, nothing}
use Rattle.format.specs.Judge.{Counts, File, sheet_in}
use Rattle.format.specs.Edit.{absent, last_header}
use Rattle.format.specs.Above.{own, level_at, above_at, no_header, to_header, after_judging, up_from, up}
use Rattle.format.specs.Answers.{way_up_answer}
use Rattle.format.specs.Reasons.{refusal_number, refusal_for}
use Rattle.format.specs.declared.Reason.{Reason}
use Rattle.format.specs.declared.Refusal.{Refusal}
use Rattle.format.proofs.JudgeWalks.{Passes}
use Rattle.format.proofs.AboveWayUp.{Climbs, climbs}
use Rattle.format.proofs.AcceptedSheet as Accepted
use Rattle.format.proofs.AcceptedSheet.{accepted-list, all-records, record_wide, body-view}
use Rattle.files.specs.declared.Stride.TheVariants.{Plain}
use Rattle.files.specs.Records.{records_of}
use Rattle.files.proofs.Records.{front-records}
use Rattle.records.specs.Entry.{Entry, view_fault, entry_of, entry_said}
use Rattle.records.specs.declared.items.Entry as Declared
use Rattle.records.proofs.Laws.{entry-fault, entry-level}
use Rattle.judge.specs.Sheet.{Sheet, opened_in, refused_sheet}
use Rattle.judge.proofs.Opened.{Opened, opened-sheet, sheet_refused_is}
use Rattle.way_up.proofs.Own.{OwnRecord, own_record}

-- an entry without a fault is one
is_ok_said : (a : Result Declared.Entry Reason) → (entry_said a).fault ≡ 0 → IsOk a
is_ok_said (Ok e) z = refl
is_ok_said (Err reason) z = absurd (not_zero reason z)

module _ (used : ℕ) (buffer : List ℕ) (number : ℕ) where
  -- a refusal of judging is the answer
  pub way-refused : (r : Refusal) → refused_sheet (refusal_number r.reason) r.at ≡ opened_in used buffer number → way_up_answer (Err r) ≡ up used buffer number
  unfolding way_up_answer up
  way-refused r is = rw (sheet_refused_is used buffer number (refused_sheet (refusal_number r.reason) r.at) is (not_zero r.reason))

  module _ (s : Sheet) (accepted : s.fault ≡ 0) (is : s ≡ opened_in used buffer number) where
    o : Opened used buffer number s
    o = opened-sheet used buffer number s is accepted

    pub used-length : used ≡ length (take used buffer)
    used-length = Accepted.used-length o.accepted

    abbrev sheet : File
    sheet = sheet_in used buffer

    abbrev part : ℕ
    part = (sheet_in used buffer).part_length

    abbrev body : List View
    body = (sheet_in used buffer).body

    passes : Passes 0 0 nothing body
    passes = (accepted-list o.accepted).ok.walks.0

    -- ---- 17
    way_is : up used buffer number ≡ up_from sheet number
    unfolding up
    way_is = ap (λ (answer : Answer Counts). after_judging answer (up_from sheet number)) o.accepted.judged

    pub in_part : number ≤ s.part → way_up_answer (Err (refusal_for Reason.RecordNumber 0)) ≡ up used buffer number
    unfolding way_up_answer
    in_part h = sym (way_is ∙ rw (le-ltb part number (omega (arith, o.part_is))))

    pub past_end : s.part < number → used / 84 < number → way_up_answer (Err (refusal_for Reason.RecordNumber 0)) ≡ up used buffer number
    unfolding way_up_answer
    past_end l h = sym (way_is ∙ rw (lt-ltb part number (omega (arith, o.part_is)), lt-leb number (part + length body) (omega (arith, o.part_is, all-records o.accepted))))

    -- ---- a record behind the sheet part
    module _ (behind : s.part < number) (inside : number ≤ used / 84) where
      abbrev at : ℕ
      at = number - (sheet_in used buffer).part_length

      low : 0 < at
      low = omega (arith, o.part_is)

      high : at ≤ length body
      high = omega (arith, o.part_is, all-records o.accepted)

      answer : up used buffer number ≡ given (cond (eqb (above_at body at) 0) no_header (to_header (part + above_at body at) (level_at body at - 1)))
      answer = way_is ∙ rw (lt-ltb part number (omega (arith, o.part_is)), le-leb number (part + length body) (omega (arith, high, low)), c.passed number (omega (arith, c.within)))
        where
          c : Climbs body at
          c = climbs body passes at low high

      w : OwnRecord body at
      w = own_record body passes at low high

      start_is : s.start ≡ part + own body at
      start_is = o.start_is

      pub own-some : 1 ≤ s.start
      own-some = omega (arith, start_is, w.some)

      module _ (r : List ℕ) (read : r ≡ get_or (records_of Plain (take used buffer)) (s.start - 1) []) (entry : Result Declared.Entry Reason) (of : entry_said entry ≡ entry_of r) where
        index_is : s.start - 1 ≡ part + pred (own body at)
        index_is = omega (arith, start_is, w.some)

        index-inside : s.start - 1 < used / 84
        index-inside = omega (arith, start_is, w.some, w.inside, o.part_is)

        read_is : r ≡ get_or (chunks (used / 84) buffer) (s.start - 1) []
        read_is = read ∙ ap (λ (rs : List (List ℕ)). get_or rs (s.start - 1) []) (front-records used buffer (Accepted.inside o.accepted))

        view_is : get_or body (pred (own body at)) absent ≡ view r
        view_is = body-view o.accepted (pred (own body at)) (omega (arith, w.some, w.inside, high)) ∙ ap view (sym (read_is ∙ ap (λ (i : ℕ). get_or (chunks (used / 84) buffer) i []) index_is))

        wide : length r ≡ 84
        wide = ap length read_is ∙ record_wide o.accepted (s.start - 1) index-inside

        sound : (entry_of r).fault ≡ 0
        sound = entry-fault r wide ∙ ap view_fault (sym view_is) ∙ w.reads

        pub reads : IsOk entry
        reads = is_ok_said entry (ap (λ (q : Entry). q.fault) of ∙ sound)

        module _ (e : Declared.Entry) (said : entry ≡ Ok e) where
          level_is : e.level ≡ level_at body at
          level_is = ap (λ (a : Result Declared.Entry Reason). (entry_said a).level) (sym said) ∙ ap (λ (q : Entry). q.level) of ∙ entry-level r wide sound ∙ ap (λ (v : View). v.level) (sym view_is)

          pub level-least : 1 ≤ e.level
          level-least = omega (arith, level_is, w.least)

          pub level-most : e.level ≤ 9
          level-most = omega (arith, level_is, w.most)

          pub layer-header : e.level - 1 ≡ 0 → way_up_answer (Ok None) ≡ up used buffer number
          unfolding way_up_answer
          layer-header z = sym (answer ∙ rw (w.none_above (omega (arith, level_is, w.least))))

          header_is : get_or s.headers (e.level - 1) 0 ≡ part + above_at body at
          header_is = o.header_is (e.level - 1) (omega (arith, level-most)) ∙ ap (λ (level : ℕ). part + last_header level 0 1 0 (take at body)) less ∙ ap (λ (n : ℕ). part + n) (sym w.above)
            where
              less : e.level - 1 ≡ pred (level_at body at)
              less = omega (arith, level_is)

          pub header_above_lem : (e.level - 1 ≡ 0 → ⊥) → way_up_answer (Ok (Some (record { header = get_or s.headers (e.level - 1) 0; passed = e.level - 1 }))) ≡ up used buffer number
          unfolding way_up_answer
          header_above_lem some = sym (answer ∙ rw (ne_eqb (above_at body at) 0 (λ z. omega (arith, z, w.one_above (omega (arith, level_is)))), ← header_is, ← level_is))
