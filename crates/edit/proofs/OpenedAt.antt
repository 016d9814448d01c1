-- An opened sheet at a place: how it is opened, what its numbers say of 11, and which header stands above an item. Assumes nothing.
use Rattle.format.proofs.Reasons.{not_zero}
use mathlib.Core.Path.{◌≡◌, refl, ap, sym, ◌∙◌}
use mathlib.Core.Bool.{Bool, true, false, not, ◌&&◌}
use mathlib.Core.List.{List, []}
use Prim.Native.Nat.{ℕ, suc, pred, ◌+◌, ◌-◌, ◌*◌, ◌/◌, ◌≤◌, ◌<◌}
use native.Mathlib.Omega.{arith}
use borrow.Author.Tests.{leb-true, ltb-true, ltb-false, le-leb, lt-leb, eqb-true}
use lib.Dec.{leb, ltb, eqb}
use lib.ListN.{length, take, get_or}
use Rattle.format.specs.Basics.{unless, chunks, refused}
use Rattle.format.specs.Layout.{number_at, header}
use Rattle.format.specs.Record.{View, is_head, count_in}
use Rattle.format.specs.Sheet.{part_length}
use Rattle.format.specs.Judge.{sheet_in, judge_sheet, AcceptedSheet}
use Rattle.format.specs.Calls.{insert, remove}
use Rattle.format.specs.Edit.{absent, above_in, last_header, due_behind, open_behind, insert11, remove11, before, body_place}
use Rattle.format.proofs.Basics.{and-true, and_same, leb_same}
use Rattle.format.proofs.AcceptedSheet.{inside, few, used-length, all-records, elements_few}
use Rattle.files.specs.Records as Files
use Rattle.files.specs.declared.Stride.TheVariants.{Plain}
use Rattle.files.proofs.Records.{front-records, plain-records, count-plain, record_wide}
use Rattle.std.specs.Prelude.{Ok, Option, Some, None, MatchOption}
use Rattle.format.specs.Reasons.{refusal_number}
use Rattle.format.specs.declared.Reason.{Reason}
use Rattle.format.specs.declared.Refusal.{Refusal}
use Rattle.records.specs.Entry.{entry_of, entry_said}
use Rattle.records.specs.Entry as Read
use Rattle.records.specs.declared.items.Entry.{Entry}
use Rattle.judge.specs.declared.Sheet.{Sheet}
use Rattle.judge.specs.Sheet.{body_before, opened_in, sheet_said, refused_sheet}
use Rattle.judge.proofs.Opened.{Opened, sheet_refused_is, opened-sheet, before_place_lem}
use Rattle.edit.specs.Plans.{Refuse, InsertionPlanned, RemovalPlanned, EntryFound, is_place, HasAbove, header_record, AboveRead}
use Rattle.edit.proofs.Refused.{not-accepted}
use Rattle.edit.proofs.AtPlace.{above_low, above_high}

-- an opened sheet has those of an accepted one at a place
pub record OpenedAt (bytes : List ℕ) (used place : ℕ) (sheet : Sheet) : Type 0 where
  pub accepted : AcceptedSheet used bytes
  pub part_is : sheet.part ≡ (sheet_in used bytes).part_length
  pub items_are : sheet.items ≡ (sheet_in used bytes).stated_elements
  pub due_is : sheet.due ≡ due_behind 0 (before (sheet_in used bytes) place)
  pub open_level_is : sheet.open_level ≡ open_behind 0 0 (before (sheet_in used bytes) place)
  pub header_is : (level : ℕ) → 1 ≤ level → level ≤ 9 → get_or sheet.headers (level - 1) 0 ≡ (sheet_in used bytes).part_length + above_in level (before (sheet_in used bytes) place)
  -- no sum of them is too large
  pub inside : used ≤ length bytes
  pub few : used / 84 ≤ 200000
  pub part-inside : sheet.part ≤ used / 84
  pub items-few : sheet.items ≤ 200000

-- ---- the sheet as it was opened, at the place behind so many records
module _ (l : List ℕ) (used place : ℕ) where
  module _ (r : Refusal) (is : refused_sheet (refusal_number r.reason) r.at ≡ opened_in used l (place - 1)) where
    judged : judge_sheet used l ≡ refused (refusal_number r.reason) r.at
    judged = sheet_refused_is used l (place - 1) (refused_sheet (refusal_number r.reason) r.at) is (not_zero r.reason)

    pub insertion_refused : (block : List ℕ) → InsertionPlanned l used place block (Refuse (refusal_number r.reason) r.at)
    unfolding InsertionPlanned
    insertion_refused block = not-accepted (insert place block) l used (refusal_number r.reason) r.at judged

    pub removal_refused : RemovalPlanned l used place (Refuse (refusal_number r.reason) r.at)
    unfolding RemovalPlanned
    removal_refused = not-accepted (remove place) l used (refusal_number r.reason) r.at judged

  module _ (sheet : Sheet) (is : sheet_said (Ok sheet) ≡ opened_in used l (place - 1)) where
    o : Opened used l (place - 1) (sheet_said (Ok sheet))
    o = opened-sheet used l (place - 1) (sheet_said (Ok sheet)) is refl

    before_is : body_before (sheet_in used l) (place - 1) ≡ before (sheet_in used l) place
    before_is = before_place_lem (sheet_in used l) place

    pub opens_at : OpenedAt l used place sheet
    opens_at = record {
      accepted = o.accepted;
      part_is = o.part_is;
      items_are = o.items_are;
      due_is = o.due_is ∙ ap (due_behind 0) before_is;
      open_level_is = o.open_level_is ∙ ap (open_behind 0 0) before_is;
      header_is = λ level low high. o.header_is (level - 1) (omega arith) ∙ ap (λ (rs : List View). (sheet_in used l).part_length + last_header (level - 1) 0 1 0 rs) before_is ∙ ap (λ (n : ℕ). (sheet_in used l).part_length + last_header n 0 1 0 (before (sheet_in used l) place)) (let e : level - 1 ≡ pred level = omega arith in e);
      inside = inside o.accepted;
      few = few o.accepted;
      part-inside = omega (arith, o.part_is, all-records o.accepted);
      items-few = omega (arith, o.items_are, elements_few o.accepted);
    }

    pub used-there : used ≡ length (take used l)
    used-there = used-length o.accepted

ltb_leb : (a b : ℕ) → ltb a b ≡ leb (suc a) b
ltb_leb a b = go (ltb a b) refl
  where
    go : (t : Bool) → ltb a b ≡ t → ltb a b ≡ leb (suc a) b
    go true e = e ∙ sym (le-leb (suc a) b (omega (arith, ltb-true a b e)))
    go false e = e ∙ sym (lt-leb (suc a) b (omega (arith, ltb-false a b e)))

-- ---- at a place
module _ (l : List ℕ) (used place : ℕ) (sheet : Sheet) (s : OpenedAt l used place sheet) where
  -- 11, by the numbers
  pub insert_place : insert11 (sheet_in used l) place ≡ unless (is_place sheet.part (used / 84 + 1) sheet.due place) 11
  unfolding is_place
  insert_place = rw (s.part_is, s.due_is) (ap (λ (t : Bool). unless (t && eqb (due_behind 0 (before (sheet_in used l) place)) 0) 11) (and_same (ltb (sheet_in used l).part_length place) _ _ same))
    where
      same : ltb (sheet_in used l).part_length place ≡ true → leb (body_place (sheet_in used l) place) (length (sheet_in used l).body) ≡ leb place (used / 84 + 1)
      same e = leb_same (body_place (sheet_in used l) place) (length (sheet_in used l).body) place (used / 84 + 1) (λ h. omega (arith, h, ltb-true (sheet_in used l).part_length place e, all-records s.accepted, s.part_is)) (λ h. omega (arith, h, ltb-true (sheet_in used l).part_length place e, all-records s.accepted, s.part_is))

  pub remove_place : remove11 (sheet_in used l) place ≡ unless (is_place sheet.part (used / 84) sheet.due place && not (is_head (get_or (sheet_in used l).body (body_place (sheet_in used l) place) absent).kind)) 11
  unfolding is_place
  remove_place = rw (s.part_is, s.due_is) (ap (λ (t : Bool). unless (t && eqb (due_behind 0 (before (sheet_in used l) place)) 0 && not (is_head (get_or (sheet_in used l).body (body_place (sheet_in used l) place) absent).kind)) 11) (and_same (ltb (sheet_in used l).part_length place) _ _ same))
    where
      same : ltb (sheet_in used l).part_length place ≡ true → ltb (body_place (sheet_in used l) place) (length (sheet_in used l).body) ≡ leb place (used / 84)
      same e = ltb_leb (body_place (sheet_in used l) place) (length (sheet_in used l).body) ∙ leb_same (suc (body_place (sheet_in used l) place)) (length (sheet_in used l).body) place (used / 84) (λ h. omega (arith, h, ltb-true (sheet_in used l).part_length place e, all-records s.accepted, s.part_is)) (λ h. omega (arith, h, ltb-true (sheet_in used l).part_length place e, all-records s.accepted, s.part_is))

  -- what a place has
  pub record AtStart (last : ℕ) : Type 0 where
    pub follows : sheet.part < place
    pub up_to : place ≤ last
    pub closed : due_behind 0 (before (sheet_in used l) place) ≡ 0

  pub at-start : (last : ℕ) → is_place sheet.part last sheet.due place ≡ true → AtStart last
  unfolding is_place
  at-start last e =
      let b = and-true (ltb sheet.part place && leb place last) (eqb sheet.due 0) e in
      let c = and-true (ltb sheet.part place) (leb place last) b.0 in
      record { follows = ltb-true _ _ c.0; up_to = leb-true _ _ c.1; closed = sym s.due_is ∙ eqb-true _ _ b.1 }

  -- the place's first byte, by the sheet part and the place in the body
  pub start_is : sheet.part < place → 84 * (place - 1) ≡ 84 * (part_length (chunks (used / 84) l) + body_place (sheet_in used l) place)
  start_is follows = ap (λ (i : ℕ). 84 * i) (let e : place - 1 ≡ part_length (chunks (used / 84) l) + body_place (sheet_in used l) place = omega (arith, follows, s.part_is) in e)

  -- ---- the header above an item there
  module _ (follows : sheet.part < place) (up_to : place ≤ used / 84 + 1) (level : ℕ) (low : 2 ≤ level) (high : level ≤ 9) (near : pred level ≤ open_behind 0 0 (before (sheet_in used l) place)) where
    pub at-inside : body_place (sheet_in used l) place ≤ length (sheet_in used l).body
    at-inside = omega (arith, all-records s.accepted, s.part_is)

    number : get_or sheet.headers (level - 1) 0 ≡ (sheet_in used l).part_length + above_in level (before (sheet_in used l) place)
    number = s.header_is level (omega arith) high

    number-low : 1 ≤ above_in level (before (sheet_in used l) place)
    number-low = above_low s.accepted place level at-inside low near

    number-high : above_in level (before (sheet_in used l) place) ≤ body_place (sheet_in used l) place
    number-high = above_high s.accepted place level at-inside low near

    pub has_above : (kind : ℕ) → kind ≤ 9 → HasAbove (take used l) sheet level kind
    has_above kind most = record { level-low = omega arith; level-high = omega arith; header-low = omega (arith, number, number-low); header-high = rw (← (used-length s.accepted)) (omega (arith, number, number-high, at-inside, all-records s.accepted)); kind-most = most }

    pub index_is : get_or sheet.headers (level - 1) 0 - 1 ≡ part_length (chunks (used / 84) l) + pred (above_in level (before (sheet_in used l) place))
    index_is = omega (arith, number, number-low, s.part_is)

    pub index-inside : get_or sheet.headers (level - 1) 0 - 1 < used / 84
    index-inside = omega (arith, number, number-low, number-high, at-inside, all-records s.accepted)

    pub record_is : header_record (take used l) sheet level ≡ get_or (chunks (used / 84) l) (part_length (chunks (used / 84) l) + pred (above_in level (before (sheet_in used l) place))) []
    record_is = ap (λ (rs : List (List ℕ)). get_or rs (get_or sheet.headers (level - 1) 0 - 1) []) (sym (plain-records (take used l)) ∙ front-records used l s.inside) ∙ rw index_is

-- ---- `header_above`
module _ (file : List ℕ) (sheet : Sheet) (level kind : ℕ) (h : HasAbove file sheet level kind) (r : List ℕ) (is : r ≡ get_or (Files.records_of Plain file) (get_or sheet.headers (level - 1) 0 - 1) []) where
  pub header_wide : length r ≡ 84
  header_wide = ap length is ∙ record_wide Plain file (get_or sheet.headers (level - 1) 0 - 1) (omega (arith, count-plain Plain file refl, h.header-low, h.header-high))

  read_is : r ≡ header_record file sheet level
  read_is = is ∙ ap (λ (rs : List (List ℕ)). get_or rs (get_or sheet.headers (level - 1) 0 - 1) []) (plain-records file)

  pub above_read : (total count : ℕ) → total ≡ number_at header "total" r → total < 100000 → count ≡ count_in r kind → count < 100000 → AboveRead file sheet level kind (record { header = get_or sheet.headers (level - 1) 0 - 1; total = total; count = count })
  above_read total count total_is total-small count_is count_small = record { index_is = refl; total_is = total_is ∙ ap (number_at header "total") read_is; count_is = count_is ∙ ap (λ (x : List ℕ). count_in x kind) read_is; total-small = total-small; count_small = count_small }

-- ---- the level of what stands at the place
pub level_there : (found : Option Entry) (read : Read.Entry) (level : ℕ) (P : Entry → Type 0) → EntryFound found read → MatchOption found (level ≡ 0) P → ((e : Entry) → P e → level ≡ e.level) → level ≡ read.level
level_there (Some e) read level P is same p = p e same ∙ ap (λ (r : Read.Entry). r.level) is
level_there None read level P none zero p = zero ∙ sym none.1
