-- A removal from an accepted sheet: its refusals in the code's own words, and the counts and moves of one that is accepted. Assumes nothing.
use mathlib.Core.Path.{◌≡◌, refl, ap, sym, ◌∙◌}
use mathlib.Core.Bool.{Bool, true, false, not, true≢false}
use mathlib.Core.List.{List, []}
use Prim.Native.Nat.{ℕ, suc, pred, ◌+◌, ◌-◌, ◌*◌, ◌/◌, ◌≤◌, ◌<◌}
use native.Mathlib.Omega.{arith}
use borrow.Author.Tests.{eq-eqb, ne_eqb, eqb-true, not-false}
use lib.Dec.{eqb}
use lib.ListN.{length, take, get_or, length-drop}
use Rattle.format.specs.Basics.{unless, chunks}
use Rattle.format.specs.Layout.{find, number_at, header, sheet_b}
use Rattle.format.specs.Record.{is_head, count_index, View, count_in}
use Rattle.format.specs.Sheet.{part_length}
use Rattle.format.specs.Judge.{File, sheet_in}
use Rattle.format.specs.Edit.{remove11, absent, above_in, open_behind, before, body_place}
use Rattle.format.proofs.AcceptedSheet.{accepted-list, sheet_two, all-records, records_are}
use Rattle.format.proofs.Basics.{unless_zero}
use Rattle.format.proofs.EditItems.{item-low}
use Rattle.format.proofs.EditRemove.{cuts, enough, b_good}
use Rattle.std.specs.Prelude.{Result, Ok, Err, Option, Some, None, MatchOption}
use Rattle.std.specs.Bool.{then_some}
use Rattle.std.specs.Option.{ok_or}
use Rattle.format.specs.Reasons.{refusal_number}
use Rattle.format.specs.declared.Reason.{Reason}
use Rattle.records.specs.Entry.{entry_of, entry_said}
use Rattle.records.specs.Entry as Read
use Rattle.records.specs.declared.items.Entry.{Entry}
use Rattle.records.proofs.Laws.{entry-kind, entry-level, entry_data_records, entry-head}
use Rattle.files.specs.Records as Files
use Rattle.files.specs.declared.Stride.TheVariants.{Plain}
use Rattle.files.proofs.Records.{front-records}
use Rattle.edit_block.proofs.Items.{item-high}
use Rattle.judge.specs.Sheet.{sheet_said, opened_in}
use Rattle.judge.specs.declared.Sheet.{Sheet}
use Rattle.edit.specs.declared.plans.Above.{Above}
use Rattle.edit.specs.Plans.{Refuse, Store, EntryFound, is_place, HasAbove, header_record, AboveRead, RemovalPlanned}
use Rattle.edit.proofs.Columns.{one_less_fits}
use Rattle.edit.proofs.Refused.{remove-refused}
use Rattle.edit.proofs.AtPlace.{Start, starts, above_wide}
use Rattle.edit.proofs.OpenedAt.{OpenedAt, opens_at, start_is, remove_place, AtStart, at-start, at-inside, has_above, index_is, index-inside, record_is}
use Rattle.format.proofs.Reasons.{not_zero}
use Rattle.edit.proofs.Removed.{remove_stored}

-- an item at the place, as it was read
pub record Removable (bytes : List ℕ) (used place : ℕ) (sheet : Sheet) (item : Entry) : Type 0 where
  pub opened-at : OpenedAt bytes used place sheet
  pub eleven : remove11 (sheet_in used bytes) place ≡ 0
  pub kind_is : item.kind ≡ count_index (get_or (sheet_in used bytes).body (body_place (sheet_in used bytes) place) absent).kind
  pub level_is : item.level ≡ (get_or (sheet_in used bytes).body (body_place (sheet_in used bytes) place) absent).level
  pub data_is : item.data_records ≡ (get_or (sheet_in used bytes).body (body_place (sheet_in used bytes) place) absent).data_records
  pub kind-most : item.kind ≤ 9
  pub level-low : 2 ≤ item.level
  pub level-high : item.level ≤ 9
  pub behind : sheet.part < place
  pub data_inside : place + item.data_records ≤ used / 84

-- ---- an item, of what stands at the place
module _ (found kept : Option Entry) (P : Entry → Bool → Type 0) (by : MatchOption found (kept ≡ None) (λ e. (b : Bool) × P e b × (kept ≡ then_some b e))) (tests : (e : Entry) (b : Bool) → P e b → b ≡ not (eqb e.kind 0)) where
  pub kept_item : (item : Entry) → kept ≡ Some item → (found ≡ Some item) × (item.kind ≡ 0 → ⊥)
  kept_item item k = go found refl by
    where
      go : (f : Option Entry) → found ≡ f → MatchOption f (kept ≡ None) (λ e. (b : Bool) × P e b × (kept ≡ then_some b e)) → (found ≡ Some item) × (item.kind ≡ 0 → ⊥)
      go None is none = let z : ◌≡◌ {A = Option Entry} (Some item) None = sym k ∙ none in cc
      go (Some e) is (true, p, same) = let z : ◌≡◌ {A = Option Entry} (Some item) (Some e) = sym k ∙ same in let t : item ≡ e = cc in (is ∙ sym z, λ none. true≢false (tests e true p ∙ ap (λ (n : ℕ). not (eqb n 0)) (ap (λ (q : Entry). q.kind) (sym t) ∙ none)))
      go (Some e) is (false, p, same) = let z : ◌≡◌ {A = Option Entry} (Some item) None = sym k ∙ same in cc

  pub kept_none : (Q : Type 0) → kept ≡ None → (found ≡ None → Q) → ((item : Entry) → found ≡ Some item → item.kind ≡ 0 → Q) → Q
  kept_none Q k nothing header = go found refl by
    where
      go : (f : Option Entry) → found ≡ f → MatchOption f (kept ≡ None) (λ e. (b : Bool) × P e b × (kept ≡ then_some b e)) → Q
      go None is none = nothing is
      go (Some e) is (true, p, same) = let z : ◌≡◌ {A = Option Entry} None (Some e) = sym k ∙ same in cc
      go (Some e) is (false, p, same) = header e is (eqb-true e.kind 0 (not-false (eqb e.kind 0) (sym (tests e false p))))

-- ---- 11
module _ (l : List ℕ) (used place : ℕ) (sheet : Sheet) (opened : sheet_said (Ok sheet) ≡ opened_in used l (place - 1)) where
  s : OpenedAt l used place sheet
  s = opens_at l used place sheet opened

  abbrev file : File
  file = sheet_in used l

  abbrev gone : View
  gone = get_or (sheet_in used l).body (body_place (sheet_in used l) place) absent

  refusal : remove11 (sheet_in used l) place ≡ 11 → RemovalPlanned l used place (Refuse 11 0)
  unfolding RemovalPlanned
  refusal e = remove-refused s.accepted place 10 e

  at_eleven : (number : ℕ) → number ≡ 11 → RemovalPlanned l used place (Refuse 11 0) → RemovalPlanned l used place (Refuse number 0)
  at_eleven number e planned = rw e planned

  pub no_place : (reason : Reason) → refusal_number reason ≡ unless (is_place sheet.part (used / 84) sheet.due place) 11 → RemovalPlanned l used place (Refuse (refusal_number reason) 0)
  no_place reason e = go (is_place sheet.part (used / 84) sheet.due place) refl e
    where
      go : (t : Bool) → is_place sheet.part (used / 84) sheet.due place ≡ t → refusal_number reason ≡ unless t 11 → RemovalPlanned l used place (Refuse (refusal_number reason) 0)
      go true t n = absurd (not_zero reason n)
      go false t n = at_eleven (refusal_number reason) n (refusal (rw (remove_place l used place sheet s, t)))

  module _ (free : 0 ≡ unless (is_place sheet.part (used / 84) sheet.due place) 11) where
    h : is_place sheet.part (used / 84) sheet.due place ≡ true
    h = unless_zero (is_place sheet.part (used / 84) sheet.due place) 10 (sym free)

    start : AtStart l used place sheet s (used / 84)
    start = at-start l used place sheet s (used / 84) h

    pub place_some : 1 ≤ place
    place_some = omega (arith, start.follows)

    inside : body_place file place < length file.body
    inside = omega (arith, start.follows, start.up_to, all-records s.accepted, s.part_is)

    follows : part_length (chunks (used / 84) l) < place
    follows = omega (arith, start.follows, s.part_is)

    abbrev here : List ℕ
    here = get_or (chunks (used / 84) l) (place - 1) []

    there : Start s.accepted place follows start.closed
    there = starts s.accepted place follows start.closed inside

    abbrev read : Read.Entry
    read = entry_of (get_or (Files.records_of Plain (take used l)) (place - 1) [])

    here_is : read ≡ entry_of here
    here_is = ap (λ (rs : List (List ℕ)). entry_of (get_or rs (place - 1) [])) (front-records used l s.inside)

    module _ (found : Option Entry) (found_is : EntryFound found (entry_of (get_or (Files.records_of Plain (take used l)) (place - 1) []))) where
      -- there is one
      pub nothing_there : found ≡ None → ⊥
      nothing_there e = let none : EntryFound None read = rw e at found_is in none.0 (ap (λ (q : Read.Entry). q.fault) here_is ∙ there.sound)

      pub said_there : (item : Entry) → found ≡ Some item → entry_said (Ok item) ≡ entry_of (get_or (Files.records_of Plain (take used l)) (place - 1) [])
      said_there item e = let some : EntryFound (Some item) read = rw e at found_is in some

    module _ (item : Entry) (item-is : entry_said (Ok item) ≡ entry_of (get_or (Files.records_of Plain (take used l)) (place - 1) [])) where
      is : entry_said (Ok item) ≡ entry_of here
      is = item-is ∙ here_is

      head_is : is_head gone.kind ≡ eqb item.kind 0
      head_is = ap (λ (v : View). is_head v.kind) there.seen ∙ entry-head here there.wide there.sound ∙ ap (λ (q : Read.Entry). eqb q.kind 0) (sym is)

      pub at-header : item.kind ≡ 0 → RemovalPlanned l used place (Refuse 11 0)
      at-header z = refusal (rw (remove_place l used place sheet s, h, head_is, eq-eqb item.kind 0 z))

      module _ (some : item.kind ≡ 0 → ⊥) where
        is_item_lem : is_head gone.kind ≡ false
        is_item_lem = head_is ∙ ne_eqb item.kind 0 some

        eleven : remove11 file place ≡ 0
        eleven = rw (remove_place l used place sheet s, h, is_item_lem)

        kind_is : item.kind ≡ count_index gone.kind
        kind_is = ap (λ (q : Read.Entry). q.kind) is ∙ entry-kind here there.wide there.sound ∙ ap (λ (v : View). count_index v.kind) (sym there.seen)

        level_is : item.level ≡ gone.level
        level_is = ap (λ (q : Read.Entry). q.level) is ∙ entry-level here there.wide there.sound ∙ ap (λ (v : View). v.level) (sym there.seen)

        data_is : item.data_records ≡ gone.data_records
        data_is = ap (λ (q : Read.Entry). q.data_records) is ∙ entry_data_records here there.wide there.sound ∙ ap (λ (v : View). v.data_records) (sym there.seen)

        low : 2 ≤ gone.level
        low = rw (item-low gone is_item_lem) at there.good_here.low

        high : gone.level ≤ 9
        high = rw (item-high gone.kind is_item_lem) at there.good_here.high

        pub removable : Removable l used place sheet item
        removable = record {
          opened-at = s;
          eleven = eleven;
          kind_is = kind_is;
          level_is = level_is;
          data_is = data_is;
          kind-most = omega (arith, kind_is, there.good_here.known);
          level-low = omega (arith, level_is, low);
          level-high = omega (arith, level_is, high);
          behind = start.follows;
          data_inside = omega (arith, data_is, enough file place (accepted-list s.accepted).ok (cuts file place eleven), length-drop (body_place file place) file.body, all-records s.accepted, s.part_is, start.follows);
        }

    pub no_item : (found : Option Entry) → EntryFound found (entry_of (get_or (Files.records_of Plain (take used l)) (place - 1) [])) → (kept : Option Entry) (P : Entry → Bool → Type 0) → MatchOption found (kept ≡ None) (λ e. (b : Bool) × P e b × (kept ≡ then_some b e)) → ((e : Entry) (b : Bool) → P e b → b ≡ not (eqb e.kind 0)) → (reason : Reason) → kept ≡ None → ◌≡◌ {A = Result Entry Reason} (Err reason) (ok_or kept Reason.Place) → RemovalPlanned l used place (Refuse (refusal_number reason) 0)
    no_item found found_is kept P by tests reason none value =
        let error : ◌≡◌ {A = Result Entry Reason} (Err reason) (Err Reason.Place) = value ∙ ap (λ (o : Option Entry). ok_or o Reason.Place) none in
        let is : reason ≡ Reason.Place = cc in
        rw is (kept_none found kept P by tests (RemovalPlanned l used place (Refuse 11 0)) none (λ e. absurd (nothing_there found found_is e)) (λ item e z. at-header item (said_there found found_is item e) z))

-- ---- the counts
module _ (l : List ℕ) (used place : ℕ) (sheet : Sheet) (item : Entry) (m : Removable l used place sheet item) where
  pub part-inside : sheet.part ≤ used / 84
  part-inside = m.opened-at.part-inside

  pub place_few : place ≤ 200000
  place_few = omega (arith, m.data_inside, m.opened-at.few)

  pub data_few : item.data_records + 1 ≤ used / 84 - sheet.part
  data_few = omega (arith, m.data_inside, m.behind)

  pub records_few : used / 84 ≤ 200000
  records_few = m.opened-at.few

  abbrev lost : View
  lost = get_or (sheet_in used l).body (body_place (sheet_in used l) place) absent

  abbrev pre : List View
  pre = before (sheet_in used l) place

  near : pred item.level ≤ open_behind 0 0 pre
  near = omega (arith, m.level_is, (b_good (sheet_in used l) place (accepted-list m.opened-at.accepted).ok (cuts (sheet_in used l) place m.eleven)).near)

  up_to : place ≤ used / 84 + 1
  up_to = omega (arith, m.data_inside)

  pub above_there : HasAbove (take used l) sheet item.level item.kind
  above_there = has_above l used place sheet m.opened-at m.behind up_to item.level m.level-low m.level-high near item.kind m.kind-most

  module _ (above : Above) (read : AboveRead (take used l) sheet item.level item.kind above) where
    abbrev index : ℕ
    index = part_length (chunks (used / 84) l) + pred (above_in lost.level pre)

    header_is : above.header ≡ index
    header_is = rw (← m.level_is) (read.index_is ∙ index_is l used place sheet m.opened-at m.behind up_to item.level m.level-low m.level-high near)

    record_there : header_record (take used l) sheet item.level ≡ get_or (chunks (used / 84) l) index []
    record_there = rw (← m.level_is) (record_is l used place sheet m.opened-at m.behind up_to item.level m.level-low m.level-high near)

    inside-there : body_place (sheet_in used l) place ≤ length (sheet_in used l).body
    inside-there = at-inside l used place sheet m.opened-at m.behind up_to item.level m.level-low m.level-high near

    wide : length (header_record (take used l) sheet item.level) ≡ 84
    wide = ap length (record_is l used place sheet m.opened-at m.behind up_to item.level m.level-low m.level-high near) ∙ above_wide m.opened-at.accepted place item.level inside-there m.level-low near

    out_is : 84 * (item.data_records + 1) ≡ 84 * suc lost.data_records
    out_is = omega (arith, m.data_is)

    pub stored : (total count elements : ℕ) → total ≡ above.total - 1 → count ≡ above.count - 1 → elements ≡ sheet.items - 1 → RemovalPlanned l used place (Store (record { header = above.header; kind = item.kind; total = total; count = count; stated_elements = elements; stated_records = used / 84 - sheet.part - (item.data_records + 1); start = 84 * (place - 1); length = 84 * (item.data_records + 1) }))
    unfolding RemovalPlanned find header sheet_b
    stored total count elements total_is count_is elements_is = record {
      can = record {
        inside = omega (arith, m.data_inside, m.behind);
        room = m.opened-at.inside;
        fitting = record {
          header_in_lem = omega (arith, read.index_is, index-inside l used place sheet m.opened-at m.behind up_to item.level m.level-low m.level-high near, m.opened-at.inside);
          two_in = omega (arith, sheet_two m.opened-at.accepted, m.opened-at.part_is, m.opened-at.part-inside, m.opened-at.inside);
          kind-most = m.kind-most;
          total-fits = omega (arith, total_is, read.total-small);
          count_fits = rw (count_is ∙ ap (λ (n : ℕ). n - 1) read.count_is) (one_less_fits (header_record (take used l) sheet item.level) item.kind wide m.kind-most);
          elements_fit = omega (arith, elements_is, m.opened-at.items-few);
          records-fit = omega (arith, m.opened-at.few);
        };
      };
      outcome = remove_stored l used place m.opened-at.accepted _ m.eleven (omega (arith, m.data_inside, m.data_is, m.behind, all-records m.opened-at.accepted, m.opened-at.part_is)) (omega (arith, m.level-low, m.level_is)) (omega (arith, near, m.level_is)) (omega (arith, m.kind-most, m.kind_is)) header_is m.kind_is (total_is ∙ ap (λ (n : ℕ). n - 1) (read.total_is ∙ ap (number_at header "total") record_there)) (count_is ∙ ap (λ (n : ℕ). n - 1) (read.count_is ∙ ap (λ (r : List ℕ). count_in r item.kind) record_there ∙ ap (count_in (get_or (chunks (used / 84) l) index [])) m.kind_is)) (elements_is ∙ ap (λ (n : ℕ). n - 1) m.opened-at.items_are) (omega (arith, records_are m.opened-at.accepted, m.opened-at.part_is, m.data_is)) (start_is l used place sheet m.opened-at m.behind) out_is;
    }
