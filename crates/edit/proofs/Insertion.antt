-- An insertion into an accepted sheet: each refusal in the code's own words, and the counts and moves of one that is accepted. Assumes nothing.
use mathlib.Core.Path.{◌≡◌, refl, ap, sym, ◌∙◌}
use mathlib.Core.Bool.{Bool, true, false, cond, not, ◌&&◌, ◌||◌}
use mathlib.Core.List.{List, [], ◌∷◌, ◌++◌, map}
use Prim.Native.Nat.{ℕ, zero, suc, pred, ◌+◌, ◌-◌, ◌*◌, ◌/◌, ◌%◌, ◌≤◌, ◌<◌}
use native.Mathlib.Omega.{arith}
use borrow.Author.Tests.{leb-true, eq-eqb, eqb-true}
use lib.Dec.{leb, eqb}
use lib.ListN.{length, take, drop, get_or, length-drop, length-map}
use lib.Seq.{drop-length}
use Rattle.format.specs.Basics.{first, unless, chunks, flat}
use Rattle.format.specs.Layout.{find, number_at, header, sheet_b}
use Rattle.format.specs.Record.{count_index, View, view, count_in}
use Rattle.format.specs.Sheet.{part_length, stated_records}
use Rattle.format.specs.Judge.{sheet_in}
use Rattle.format.specs.Edit.{has_room, block_item, insert_fault, insert11, fault12, insert13, insert14, insert15, above_block, block_of, absent, above_in, due_behind, open_behind, not_below, before, after, body_place}
use Rattle.std.specs.Prelude.{Option, Some, None, Result, Ok, Err}
use Rattle.std.specs.Option.{ok_or}
use Rattle.format.specs.Reasons.{refusal_number}
use Rattle.format.specs.declared.Reason.{Reason}
use Rattle.format.specs.declared.BlockItem.{BlockItem}
use Rattle.format.specs.Answers.{block_answer}
use Rattle.format.proofs.AcceptedSheet.{used-length, records_are, sheet_two, all-records}
use Rattle.format.proofs.Basics.{and-true, first_zero, unless_zero}
use Rattle.format.proofs.Lists.{length-chunks, flat-chunks}
use Rattle.records.specs.Entry.{entry_of}
use Rattle.files.specs.Records as Files
use Rattle.files.specs.declared.Stride.TheVariants.{Plain}
use Rattle.files.proofs.Records.{front-records}
use Rattle.edit_block.proofs.Laws.{read_item, read_none}
use Rattle.judge.specs.Sheet.{sheet_said, opened_in}
use Rattle.judge.specs.declared.Sheet.{Sheet}
use Rattle.edit.specs.declared.plans.Above.{Above}
use Rattle.edit.specs.Plans.{Refuse, Store, is_place, nests_in, room_fault, HasAbove, header_record, AboveRead, InsertionPlanned}
use Rattle.edit.proofs.Columns.{one_more_fits}
use Rattle.edit.proofs.Inserted.{count_of_total, insert_stored}
use Rattle.edit.proofs.Refused.{insert-refused}
use Rattle.edit.proofs.AtPlace.{not-below, above_total, above_count}
use Rattle.edit.proofs.OpenedAt.{OpenedAt, opens_at, start_is, AtStart, insert_place, at-start, at-inside, has_above, index_is, index-inside, record_is}
use Rattle.format.proofs.Reasons.{not_zero}

-- ---- a block that is an item is whole records
module _ (block : List ℕ) (no_fault : fault12 (map view (block_of block)) ≡ 0) where
  whole_block : length block % 84 ≡ 0
  whole_block = go (eqb (length block % 84) 0) refl no_fault
    where
      go : (t : Bool) → eqb (length block % 84) 0 ≡ t → fault12 (map view (cond t (chunks (length block / 84) block) [])) ≡ 0 → length block % 84 ≡ 0
      go true e f = eqb-true (length block % 84) 0 e
      go false e f = absurd (omega arith)

  block_is : block_of block ≡ chunks (length block / 84) block
  block_is = rw (eq-eqb (length block % 84) 0 whole_block)

  pub length_block : length (block_of block) ≡ length block / 84
  length_block = ap length block_is ∙ length-chunks (length block / 84) block

  pub long_block : 84 * length (block_of block) ≡ length block
  long_block = omega (arith, length_block, whole_block)

  pub bytes_block : flat (block_of block) ≡ block
  bytes_block = ap flat block_is ∙ sym (append-none (flat (chunks (length block / 84) block))) ∙ ap (λ (x : List ℕ). flat (chunks (length block / 84) block) ++ x) (sym rest) ∙ flat-chunks (length block / 84) block (omega (arith, whole_block))
    where
      append-none : (x : List ℕ) → x ++ [] ≡ x
      append-none [] = refl
      append-none (b ∷ x) = ap (λ (y : List ℕ). b ∷ y) (append-none x)

      all : 84 * (length block / 84) ≡ length block
      all = omega (arith, whole_block)

      rest : drop (84 * (length block / 84)) block ≡ []
      rest = rw all (drop-length block)

-- ---- a place of an opened sheet
-- a block that neither 11 nor 12 refuses there: an item of this kind and level
pub record ForPlace (bytes : List ℕ) (used place : ℕ) (block : List ℕ) (sheet : Sheet) (kind level : ℕ) : Type 0 where
  pub opened-at : OpenedAt bytes used place sheet
  pub eleven : insert11 (sheet_in used bytes) place ≡ 0
  pub twelve : fault12 (map view (block_of block)) ≡ 0
  pub closed : due_behind 0 (before (sheet_in used bytes) place) ≡ 0
  pub kind_is : kind ≡ count_index (get_or (map view (block_of block)) 0 absent).kind
  pub level_is : level ≡ (get_or (map view (block_of block)) 0 absent).level
  pub kind-most : kind ≤ 9
  pub level-low : 2 ≤ level
  pub level-high : level ≤ 9
  pub behind : sheet.part < place
  pub place_high : place ≤ used / 84 + 1

-- and not 13 either
pub record Nested (bytes : List ℕ) (used place : ℕ) (block : List ℕ) (sheet : Sheet) (kind level : ℕ) : Type 0 where
  pub for_place : ForPlace bytes used place block sheet kind level
  pub thirteen : insert13 (sheet_in used bytes) place (map view (block_of block)) ≡ 0

first_some : (n b : ℕ) → (n ≡ 0 → ⊥) → first n b ≡ n
first_some zero b some = absurd (some refl)
first_some (suc n) b some = refl

module _ (l : List ℕ) (used place : ℕ) (sheet : Sheet) (block : List ℕ) (s : OpenedAt l used place sheet) where
  -- a refusal, by the fault that is found
  refusal : (reason : Reason) → insert_fault (sheet_in used l) place (drop used l) (map view (block_of block)) 200000 ≡ refusal_number reason → InsertionPlanned l used place block (Refuse (refusal_number reason) 0)
  unfolding InsertionPlanned
  refusal reason e = go (refusal_number reason) e (not_zero reason)
    where
      go : (f : ℕ) → insert_fault (sheet_in used l) place (drop used l) (map view (block_of block)) 200000 ≡ f → (f ≡ 0 → ⊥) → InsertionPlanned l used place block (Refuse f 0)
      go zero e some = absurd (some refl)
      go (suc n) e some = insert-refused s.accepted place n block e

module _ (l : List ℕ) (used place : ℕ) (sheet : Sheet) (opened : sheet_said (Ok sheet) ≡ opened_in used l (place - 1)) (block : List ℕ) where
  s : OpenedAt l used place sheet
  s = opens_at l used place sheet opened

  pub free-there : used ≤ length l
  free-there = s.inside

  pub items_few : sheet.items ≤ 200000
  items_few = s.items-few

  pub part_inside : sheet.part ≤ used / 84
  part_inside = s.part-inside

  -- ---- 11
  pub no_place : (reason : Reason) → refusal_number reason ≡ unless (is_place sheet.part (used / 84 + 1) sheet.due place) 11 → InsertionPlanned l used place block (Refuse (refusal_number reason) 0)
  no_place reason e = refusal l used place sheet block s reason (rw (insert_place l used place sheet s, ← e) (first_some (refusal_number reason) _ (not_zero reason)))

  module _ (free : 0 ≡ unless (is_place sheet.part (used / 84 + 1) sheet.due place) 11) where
    eleven : insert11 (sheet_in used l) place ≡ 0
    eleven = insert_place l used place sheet s ∙ sym free

    start : AtStart l used place sheet s (used / 84 + 1)
    start = at-start l used place sheet s (used / 84 + 1) (unless_zero (is_place sheet.part (used / 84 + 1) sheet.due place) 10 (sym free))

    pub place_some : 1 ≤ place
    place_some = omega (arith, start.follows)

    pub place_few : place ≤ 200001
    place_few = omega (arith, start.up_to, s.few)

    -- ---- 12
    module _ (answer : Option BlockItem) (answer_is : block_answer answer ≡ block_item block) where
      pub no_item : (reason : Reason) → answer ≡ None → Err reason ≡ ok_or answer Reason.Block → InsertionPlanned l used place block (Refuse (refusal_number reason) 0)
      no_item reason none value =
          let error : ◌≡◌ {A = Result BlockItem Reason} (Err reason) (Err Reason.Block) = value ∙ ap (λ (o : Option BlockItem). ok_or o Reason.Block) none in
          let is : reason ≡ Reason.Block = cc in
          rw is (refusal l used place sheet block s Reason.Block (rw (eleven, read_none block answer answer_is none)))

      module _ (item : BlockItem) (item-is : answer ≡ Some item) where
        p : ForPlace l used place block sheet item.kind item.level
        p = let one = read_item block answer answer_is item item-is in
            record { opened-at = s; eleven = eleven; twelve = one.no_fault; closed = start.closed; kind_is = one.kind_is; level_is = one.level_is; kind-most = one.kind-most; level-low = one.low; level-high = one.high; behind = start.follows; place_high = start.up_to }

        pub level-some : 1 ≤ item.level
        level-some = omega (arith, p.level-low)

        -- ---- 13
        module _ (next : ℕ) (next-is : next ≡ (entry_of (get_or (Files.records_of Plain (take used l)) (place - 1) [])).level) where
          thirteen : insert13 (sheet_in used l) place (map view (block_of block)) ≡ unless (nests_in sheet.open_level item.level next) 13
          unfolding nests_in
          thirteen = rw (← p.level_is, not-below s.accepted place (omega (arith, p.behind, s.part_is)) p.closed item.level, ← s.open_level_is, next-is, front-records used l s.inside)

          pub wrong-level : (reason : Reason) → refusal_number reason ≡ unless (nests_in sheet.open_level item.level next) 13 → InsertionPlanned l used place block (Refuse (refusal_number reason) 0)
          wrong-level reason e = refusal l used place sheet block s reason (rw (eleven, p.twelve, thirteen, ← e) (first_some (refusal_number reason) _ (not_zero reason)))

          pub nested : 0 ≡ unless (nests_in sheet.open_level item.level next) 13 → Nested l used place block sheet item.kind item.level
          nested n = record { for_place = p; thirteen = thirteen ∙ sym n }

-- ---- 14 and 15, and the counts
module _ (l : List ℕ) (used place : ℕ) (block : List ℕ) (sheet : Sheet) (kind level : ℕ) (n : Nested l used place block sheet kind level) where
  abbrev item_views : List View
  item_views = map view (block_of block)

  abbrev there : List View
  there = before (sheet_in used l) place

  near : pred level ≤ open_behind 0 0 there
  near = omega (arith, n.for_place.level_is, leb-true (get_or item_views 0 absent).level (suc (open_behind 0 0 there)) (and-true _ (not_below (get_or item_views 0 absent).level (after (sheet_in used l) place)) (unless_zero _ 12 n.thirteen)).0)

  pub nested_there : used ≡ length (take used l)
  nested_there = used-length n.for_place.opened-at.accepted

  pub above_there : HasAbove (take used l) sheet level kind
  above_there = has_above l used place sheet n.for_place.opened-at n.for_place.behind n.for_place.place_high level n.for_place.level-low n.for_place.level-high near kind n.for_place.kind-most

  module _ (above : Above) (read : AboveRead (take used l) sheet level kind above) where
    abbrev index : ℕ
    index = part_length (chunks (used / 84) l) + pred (above_in level there)

    record_there : header_record (take used l) sheet level ≡ get_or (chunks (used / 84) l) index []
    record_there = record_is l used place sheet n.for_place.opened-at n.for_place.behind n.for_place.place_high level n.for_place.level-low n.for_place.level-high near

    inside-there : body_place (sheet_in used l) place ≤ length (sheet_in used l).body
    inside-there = at-inside l used place sheet n.for_place.opened-at n.for_place.behind n.for_place.place_high level n.for_place.level-low n.for_place.level-high near

    total_seen : (above_block (sheet_in used l) place item_views).total ≡ above.total
    total_seen = rw (← n.for_place.level_is) (above_total n.for_place.opened-at.accepted place level inside-there n.for_place.level-low near ∙ sym (read.total_is ∙ ap (number_at header "total") record_there))

    count_seen : (above_block (sheet_in used l) place item_views).count (count_index (get_or item_views 0 absent).kind) ≡ above.count
    count_seen = rw (← n.for_place.level_is, ← n.for_place.kind_is) (above_count n.for_place.opened-at.accepted place level inside-there n.for_place.level-low near kind ∙ sym (read.count_is ∙ ap (λ (r : List ℕ). count_in r kind) record_there))

    long : length item_views ≡ length block / 84
    long = length-map (block_of block) view ∙ length_block block n.for_place.twelve

    body-there : (sheet_in used l).part_length + length (sheet_in used l).body ≡ used / 84
    body-there = omega (arith, n.for_place.opened-at.part_is, all-records n.for_place.opened-at.accepted)

    fourteen : insert14 (sheet_in used l) place item_views 200000 ≡ unless (has_room above.total kind above.count (used / 84 + length block / 84) 200000) 14
    fourteen = rw (total_seen, count_seen, ← n.for_place.kind_is, body-there, long)

    fifteen : insert15 (drop used l) item_views ≡ unless (leb (length block) (length l - used)) 15
    fifteen = rw (length-map (block_of block) view, long_block block n.for_place.twelve, length-drop used l)

    module _ (fault : ℕ) (fault_is : fault ≡ room_fault above kind (used / 84 + length block / 84) 200000 (length l - used) (length block)) where
      faults : insert_fault (sheet_in used l) place (drop used l) item_views 200000 ≡ fault
      unfolding room_fault
      faults = rw (n.for_place.eleven, n.for_place.twelve, n.thirteen, fourteen, fifteen) (sym fault_is)

      pub full : (reason : Reason) → fault ≡ refusal_number reason → InsertionPlanned l used place block (Refuse (refusal_number reason) 0)
      full reason is = refusal l used place sheet block n.for_place.opened-at reason (faults ∙ is)

      module _ (none : fault ≡ 0) where
        tests : (has_room above.total kind above.count (used / 84 + length block / 84) 200000 ≡ true) × (leb (length block) (length l - used) ≡ true)
        unfolding room_fault
        tests = let p = first_zero (unless (has_room above.total kind above.count (used / 84 + length block / 84) 200000) 14) (unless (leb (length block) (length l - used)) 15) (sym fault_is ∙ none) in (unless_zero _ 13 p.0, unless_zero _ 14 p.1)

        roomy : (leb (above.total + 1) 99999 && (not (eqb kind 9) || leb (above.count + 1) 9) ≡ true) × (leb (used / 84 + length block / 84) 200000 ≡ true)
        roomy = and-true _ _ tests.0

        counted : (leb (above.total + 1) 99999 ≡ true) × (not (eqb kind 9) || leb (above.count + 1) 9 ≡ true)
        counted = and-true _ _ roomy.0

        total-most : above.total + 1 ≤ 99999
        total-most = leb-true (above.total + 1) 99999 counted.0

        few_then : used / 84 + length block / 84 ≤ 200000
        few_then = leb-true (used / 84 + length block / 84) 200000 roomy.1

        fits : length block ≤ length l - used
        fits = leb-true (length block) (length l - used) tests.1

        accepted-fault : insert_fault (sheet_in used l) place (drop used l) item_views 200000 ≡ 0
        accepted-fault = faults ∙ none

        header_is : above.header ≡ part_length (chunks (used / 84) l) + pred (above_in (get_or item_views 0 absent).level there)
        header_is = rw (← n.for_place.level_is) (read.index_is ∙ index_is l used place sheet n.for_place.opened-at n.for_place.behind n.for_place.place_high level n.for_place.level-low n.for_place.level-high near)

        total_is : above.total + 1 ≡ number_at header "total" (get_or (chunks (used / 84) l) (part_length (chunks (used / 84) l) + pred (above_in (get_or item_views 0 absent).level there)) []) + 1
        total_is = rw (← n.for_place.level_is) (ap (λ (z : ℕ). z + 1) (read.total_is ∙ ap (number_at header "total") record_there))

        count_is : above.count + 1 ≡ count_in (get_or (chunks (used / 84) l) (part_length (chunks (used / 84) l) + pred (above_in (get_or item_views 0 absent).level there)) []) (count_index (get_or item_views 0 absent).kind) + 1
        count_is = rw (← n.for_place.level_is, ← n.for_place.kind_is) (ap (λ (z : ℕ). z + 1) (read.count_is ∙ ap (λ (r : List ℕ). count_in r kind) record_there))

        records_is : used / 84 + length block / 84 - sheet.part ≡ stated_records (get_or (chunks (used / 84) l) 1 []) + length (block_of block)
        records_is = omega (arith, records_are n.for_place.opened-at.accepted, n.for_place.opened-at.part_is, n.for_place.opened-at.part-inside, length_block block n.for_place.twelve)

        pub stored : InsertionPlanned l used place block (Store (record { header = above.header; kind = kind; total = above.total + 1; count = above.count + 1; stated_elements = sheet.items + 1; stated_records = used / 84 + length block / 84 - sheet.part; start = 84 * (place - 1); length = length block }))
        unfolding InsertionPlanned find header sheet_b
        stored = record {
          can = record {
            inside = omega (arith, n.for_place.place_high);
            room = omega (arith, fits, n.for_place.opened-at.inside);
            fitting = record {
              header_in_lem = omega (arith, read.index_is, index-inside l used place sheet n.for_place.opened-at n.for_place.behind n.for_place.place_high level n.for_place.level-low n.for_place.level-high near, n.for_place.opened-at.inside);
              two_in = omega (arith, sheet_two n.for_place.opened-at.accepted, n.for_place.opened-at.part_is, n.for_place.opened-at.part-inside, n.for_place.opened-at.inside);
              kind-most = n.for_place.kind-most;
              total-fits = omega (arith, total-most);
              count_fits = one_more_fits kind above.count above.total n.for_place.kind-most (λ z. leb-true (above.count + 1) 9 (rw (eq-eqb kind 9 z) at counted.1)) (rw (count_seen, total_seen) at (count_of_total l used place n.for_place.opened-at.accepted item_views accepted-fault)) total-most;
              elements_fit = omega (arith, n.for_place.opened-at.items-few);
              records-fit = omega (arith, few_then);
            };
          };
          outcome = insert_stored l used place n.for_place.opened-at.accepted block (bytes_block block n.for_place.twelve) _ accepted-fault inside-there (rw (← n.for_place.level_is) n.for_place.level-low) (rw (← n.for_place.level_is) near) (rw (← n.for_place.kind_is) n.for_place.kind-most) header_is n.for_place.kind_is total_is count_is (ap (λ (z : ℕ). z + 1) n.for_place.opened-at.items_are) records_is (start_is l used place sheet n.for_place.opened-at n.for_place.behind) (long_block block n.for_place.twelve);
        }
