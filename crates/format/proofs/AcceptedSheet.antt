-- What an accepted sheet has: its bytes are its records and a rest, its sheet part is in order, the counts of record 2 are its own, and the records before
-- and behind each place pass. Assumes nothing.
use mathlib.Core.Path.{◌≡◌, ap, ap₂, sym, ◌∙◌}
use mathlib.Core.Bool.{Bool, true}
use mathlib.Core.List.{List, [], ◌++◌}
use Prim.Native.Nat.{ℕ, ◌+◌, ◌-◌, ◌*◌, ◌/◌, ◌≤◌, ◌<◌}
use native.Mathlib.Omega.{arith}
use lib.ListN.{length, take, drop, get_or, length-append, length-drop, length-map, take-append-drop}
use lib.Seq.{length-take-le, drop_at, get_or-drop}
use Rattle.format.specs.Basics.{Answer, given, refused, Fault, none, chunks, flat, stage_one_ok}
use Rattle.format.specs.Record.{nothing, view}
use Rattle.format.specs.Sheet.{part_length, sheet_fault, stated_elements, stated_records}
use Rattle.format.specs.Judge.{Counts, accepted, file_of, judge, judge_records, judge_sheet, after_part, after_stage_one, sheet_in, AcceptedSheet}
use Rattle.format.specs.Edit.{RecordList, absent, due_behind, open_behind, before, after, body_place}
use Rattle.format.specs.Calls.{Edit, plain}
use Rattle.format.specs.Run.{buffer_of, list_of, call}
use Rattle.format.proofs.JudgeWalks.{Passes, sort, passes-split}
use Rattle.format.proofs.JudgeAccepted.{accepted_ok, ok_accepted}
use Rattle.format.proofs.JudgeStages.{Whole, whole_ok, stage_one_lem, stage_given, part-given}
use Rattle.format.proofs.Lists.{Wide, wide_chunks, wide_get, get_or_views, chunks-flat, flat-chunks, length-flat, length-chunks}
use Rattle.format.proofs.EditInsert.{fine-none}
use Rattle.format.proofs.EditRecords.{AcceptedList, items-few}
use Rattle.format.proofs.SheetCounts.{the_laws}

-- ---- a verdict that accepts; `verdict_is` leads back
abbrev pub accepted_by : {used : ℕ} {l : List ℕ} {n m : ℕ} → judge_sheet used l ≡ accepted n m → AcceptedSheet used l
accepted_by {n = n} {m = m} e = record { counts = record { records = n; items = m }; judged = e }

abbrev records_in : Answer Counts → ℕ
records_in (given counts) = counts.records
records_in (refused number at) = 0

abbrev items_in : Answer Counts → ℕ
items_in (given counts) = counts.items
items_in (refused number at) = 0

module _ {used : ℕ} {l : List ℕ} (a : AcceptedSheet used l) where
  -- ---- the three stages
  stage : (stage_one_ok used l ≡ true) × (judge_records (chunks (used / 84) l) ≡ given a.counts)
  unfolding judge_sheet
  stage = stage_given (stage_one_ok used l) (judge_records (chunks (used / 84) l)) a.counts a.judged

  pub whole-records : Whole used l
  whole-records = stage_one_lem used l stage.0

  parts : (sheet_fault (chunks (used / 84) l) ≡ none) × (judge (sheet_in used l) ≡ given a.counts)
  unfolding judge_records
  parts = part-given (sheet_fault (chunks (used / 84) l)) (judge (sheet_in used l)) a.counts stage.1

  pub no_fault : sheet_fault (chunks (used / 84) l) ≡ none
  no_fault = parts.0

  pub body-judged : judge (sheet_in used l) ≡ given a.counts
  body-judged = parts.1

  -- ---- its bytes and records
  pub inside : used ≤ length l
  inside = whole-records.inside

  pub few : used / 84 ≤ 200000
  few = omega (arith, whole-records.few)

  pub used-length : used ≡ length (take used l)
  used-length = sym (length-take-le used l inside)

  pub length-records : length (chunks (used / 84) l) ≡ used / 84
  length-records = length-chunks (used / 84) l

  pub whole : used ≡ 84 * length (chunks (used / 84) l)
  whole = omega (arith, length-records, whole-records.even)

  pub bytes_are : flat (chunks (used / 84) l) ++ drop used l ≡ l
  bytes_are = ap (λ (n : ℕ). flat (chunks (used / 84) l) ++ drop n l) (let n : used ≡ 84 * (used / 84) = omega (arith, whole-records.even) in n) ∙ flat-chunks (used / 84) l (omega (arith, inside))

  pub same : buffer_of (list_of (record { bytes = l; used = used })) ≡ record { bytes = l; used = used }
  same = λ i. record { bytes = bytes_are i; used = sym whole i }

  pub accepted-list : AcceptedList (list_of (record { bytes = l; used = used }))
  accepted-list = record {
    wide = wide_chunks (used / 84) l (omega (arith, inside));
    few = omega (arith, length-records, few);
    sheet = rw no_fault;
    ok = accepted_ok (sheet_in used l) a.counts.records a.counts.items body-judged;
  }

  -- an edit is that of the plain record list
  pub call_is : (e : Edit) → call e (record { bytes = l; used = used }) ≡ record { reply = (plain e (list_of (record { bytes = l; used = used }))).reply; buffer = buffer_of (plain e (list_of (record { bytes = l; used = used }))).list }
  unfolding call
  call_is e = rw a.judged

  -- ---- the sheet part and the body
  pub sheet_two : 2 ≤ part_length (chunks (used / 84) l)
  sheet_two = the_laws.two (chunks (used / 84) l) accepted-list.sheet

  pub sheet-inside : part_length (chunks (used / 84) l) ≤ length (chunks (used / 84) l)
  sheet-inside = the_laws.inside (chunks (used / 84) l) accepted-list.sheet

  pub length-body : length (sheet_in used l).body ≡ used / 84 - part_length (chunks (used / 84) l)
  length-body = length-map (drop (part_length (chunks (used / 84) l)) (chunks (used / 84) l)) view ∙ length-drop (part_length (chunks (used / 84) l)) (chunks (used / 84) l) ∙ rw length-records

  pub all-records : (sheet_in used l).part_length + length (sheet_in used l).body ≡ used / 84
  all-records = omega (arith, length-body, sheet-inside, length-records)

  pub record_wide : (k : ℕ) → k < used / 84 → length (get_or (chunks (used / 84) l) k []) ≡ 84
  record_wide k h = wide_get k (chunks (used / 84) l) accepted-list.wide (rw length-records h)

  pub body-view : (i : ℕ) → i < length (sheet_in used l).body → get_or (sheet_in used l).body i absent ≡ view (get_or (chunks (used / 84) l) (part_length (chunks (used / 84) l) + i) [])
  body-view i h =
      let part = part_length (chunks (used / 84) l) in
      get_or_views (drop part (chunks (used / 84) l)) i (omega (arith, length-body, length-drop part (chunks (used / 84) l), length-records)) ∙ ap view (get_or-drop part (chunks (used / 84) l) i [])

  -- ---- the two counts of record 2, and the verdict
  pub records_are : stated_records (get_or (chunks (used / 84) l) 1 []) ≡ used / 84 - part_length (chunks (used / 84) l)
  records_are = accepted-list.ok.stated_records ∙ length-body

  pub elements_few : stated_elements (get_or (chunks (used / 84) l) 1 []) ≤ 200000
  elements_few = omega (arith, accepted-list.ok.stated_elements, items-few 0 (sheet_in used l).body, length-body, length-records, accepted-list.few)

  pub verdict_is : judge_sheet used l ≡ accepted (used / 84) (stated_elements (get_or (chunks (used / 84) l) 1 []))
  verdict_is = a.judged ∙ sym body-judged ∙ ok_accepted (sheet_in used l) accepted-list.ok ∙ ap₂ accepted all-records (sym accepted-list.ok.stated_elements)

  pub counted_are : used / 84 ≡ a.counts.records
  counted_are = ap records_in (sym verdict_is ∙ a.judged)

  pub elements_are : stated_elements (get_or (chunks (used / 84) l) 1 []) ≡ a.counts.items
  elements_are = ap items_in (sym verdict_is ∙ a.judged)

  -- ---- a place
  module _ (place : ℕ) where
    split : Passes 0 0 nothing (before (sheet_in used l) place) × Passes (open_behind 0 0 (before (sheet_in used l) place)) (due_behind 0 (before (sheet_in used l) place)) (sort 0 nothing (before (sheet_in used l) place)) (after (sheet_in used l) place)
    split = passes-split 0 0 nothing (before (sheet_in used l) place) (after (sheet_in used l) place) (rw (take-append-drop (body_place (sheet_in used l) place) (sheet_in used l).body) accepted-list.ok.walks.0)

    pub passed : Passes 0 0 nothing (before (sheet_in used l) place)
    passed = split.0

    pub behind : Passes (open_behind 0 0 (before (sheet_in used l) place)) (due_behind 0 (before (sheet_in used l) place)) (sort 0 nothing (before (sheet_in used l) place)) (after (sheet_in used l) place)
    behind = split.1

-- ---- a record list in a buffer
pub open_buffer_of : (g : RecordList) → Wide g.records → list_of (buffer_of g) ≡ g
open_buffer_of g w = list_path (rw count (chunks-flat g.records g.tail w)) (drop_at (flat g.records) g.tail _ (length-flat g.records w))
  where
    count : 84 * length g.records / 84 ≡ length g.records
    count = omega arith

    list_path : (list_of (buffer_of g)).records ≡ g.records → (list_of (buffer_of g)).tail ≡ g.tail → list_of (buffer_of g) ≡ g
    list_path p q = λ i. record { records = p i; tail = q i }

-- that of an accepted sheet makes one
pub list-accepted : (g : RecordList) → AcceptedList g → AcceptedSheet (buffer_of g).used (buffer_of g).bytes
unfolding judge_sheet judge_records
list-accepted g k =
    accepted_by
    (ap (λ (t : Bool). after_stage_one t (judge_records (list_of (buffer_of g)).records)) stage_ok
    ∙ ap (λ (x : RecordList). judge_records x.records) (open_buffer_of g k.wide)
    ∙ ap (λ (t : Fault). after_part t (judge (file_of g.records))) (fine-none (sheet_fault g.records) k.sheet)
    ∙ ok_accepted (file_of g.records) k.ok)
  where
    inside-flat : 84 * length g.records ≤ length (flat g.records ++ g.tail)
    inside-flat = rw (length-append (flat g.records) g.tail) (omega (arith, length-flat g.records k.wide))

    stage_ok : stage_one_ok (buffer_of g).used (buffer_of g).bytes ≡ true
    stage_ok = whole_ok 84 (84 * length g.records) (flat g.records ++ g.tail) (record { some = omega (arith, the_laws.two g.records k.sheet, the_laws.inside g.records k.sheet); inside = inside-flat; even = omega arith; few = omega (arith, k.few) })
