-- A block in the code's own words: it is an item where its first record is one and its data records are in order. Assumes nothing.
use Rattle.format.proofs.Reasons.{not_zero}
use mathlib.Core.Path.{◌≡◌, refl, ap, ap₂, sym, ◌∙◌}
use mathlib.Core.Bool.{Bool, true, false, cond, not, ◌&&◌, true≢false}
use mathlib.Core.List.{List, [], ◌∷◌, map}
use Prim.Native.Nat.{ℕ, ◌-◌, ◌/◌, ◌%◌, ◌≤◌, ◌<◌}
use native.Mathlib.Omega.{arith}
use borrow.Author.Tests.{eq-eqb, ne_eqb, eqb-true, le-leb, leb-true, not-true}
use lib.Dec.{eqb, leb}
use lib.ListN.{length, drop, get_or, length-drop, length-map}
use Rattle.format.specs.Basics.{Answer, given, refused, unless, fine}
use Rattle.format.specs.Record.{Kind, is_head, count_index, Data, nothing, View, view}
use Rattle.format.specs.Judge.{lowest_level, highest_level, open_after, fault_at, walk}
use Rattle.format.specs.Edit.{BlockItem, item_in, block_item, is_block, block_of}
use Rattle.format.proofs.Basics.{and-true}
use Rattle.format.proofs.JudgeSteps.{walk_step}
use Rattle.format.proofs.EditItems.{item-data_records}
use Rattle.format.proofs.EditInsert.{fine-none}
use Rattle.format.proofs.JudgeWalks.{Good, good, good_fault_at, walk-passes}
use Rattle.records.specs.Entry.{Entry}
use Rattle.records.specs.Entry.{to_data, view_fault, refused_entry, entry_of}
use Rattle.records.proofs.Laws.{entry-fault, entry-kind, entry-level, entry_data_records, entry_held, entry_rule, entry-head, entry_counted, entry_columns}
use Rattle.files.specs.declared.Stride.TheVariants.{Plain}
use Rattle.files.specs.Records.{records_of}
use Rattle.files.proofs.Records.{plain-records}
use Rattle.edit_block.proofs.Records.{block_long, block_wide}
use Rattle.std.specs.Prelude.{Option, None}
use Rattle.std.specs.Bool.{then_some}
use Rattle.format.specs.Reasons.{refusal_number}
use Rattle.format.specs.declared.Reason.{Reason}
use Rattle.format.specs.declared.BlockItem as Declared
use Rattle.format.specs.Answers.{block_answer}
use Rattle.edit_block.specs.Steps.{is_item, data_walk}

-- the bounds of an item's level
pub item-low : (k : Kind) → is_head k ≡ false → lowest_level k ≡ 2
item-low k e = rw e

pub item-high : (k : Kind) → is_head k ≡ false → highest_level k ≡ 9
item-high k e = rw e

-- what the test of the first record says
record FirstRecord (e : Entry) (behind : ℕ) : Type 0 where
  no_fault : e.fault ≡ 0
  no_head : eqb e.kind 0 ≡ false
  low : 2 ≤ e.level
  high : e.level ≤ 9
  ruled : e.rule_fault ≡ 0
  stated : e.data_records ≡ behind

tested : (e : Entry) (behind : ℕ) → is_item e behind ≡ true → FirstRecord e behind
unfolding is_item
tested e behind t =
    let a = and-true (eqb e.fault 0 && not (eqb e.kind 0) && leb 2 e.level && leb e.level 9 && eqb e.rule_fault 0) (eqb e.data_records behind) t in
    let b = and-true (eqb e.fault 0 && not (eqb e.kind 0) && leb 2 e.level && leb e.level 9) (eqb e.rule_fault 0) a.0 in
    let c = and-true (eqb e.fault 0 && not (eqb e.kind 0) && leb 2 e.level) (leb e.level 9) b.0 in
    let d = and-true (eqb e.fault 0 && not (eqb e.kind 0)) (leb 2 e.level) c.0 in
    let f = and-true (eqb e.fault 0) (not (eqb e.kind 0)) d.0 in
    record { no_fault = eqb-true e.fault 0 f.0; no_head = not-true (eqb e.kind 0) f.1; low = leb-true 2 e.level d.1; high = leb-true e.level 9 c.1; ruled = eqb-true e.rule_fault 0 b.1; stated = eqb-true e.data_records behind a.1 }

passed : (e : Entry) (behind : ℕ) → FirstRecord e behind → is_item e behind ≡ true
unfolding is_item
passed e behind f = rw (eq-eqb e.fault 0 f.no_fault, f.no_head, le-leb 2 e.level f.low, le-leb e.level 9 f.high, eq-eqb e.rule_fault 0 f.ruled, eq-eqb e.data_records behind f.stated)

decided : (header walks whole : Bool) → header ≡ false → whole ≡ true → not header && (walks && whole) ≡ walks
decided header true whole h w = rw (h, w)
decided header false whole h w = rw h

-- the first record l, and the data records behind it
module _ (l : List ℕ) (ds : List View) (whole : length l ≡ 84) where
  view-fault : Good 8 (view l) → (entry_of l).fault ≡ 0
  unfolding view_fault
  view-fault g = entry-fault l whole ∙ rw (le-leb (count_index (view l).kind) 9 g.known, g.sound)

  -- a block's first record passes the test
  block_first : is_block (view l) ds ≡ true → FirstRecord (entry_of l) (length ds)
  block_first t =
      let a = and-true (not (is_head (view l).kind)) _ t in
      let b = and-true (fine (walk 8 0 nothing 0 0 (view l ∷ ds))) _ a.1 in
      let g : Good 8 (view l) = good 8 nothing (view l) (walk-passes 8 0 nothing 0 0 (view l ∷ ds) (fine-none _ b.0)).0.0 in
      let z : (entry_of l).fault ≡ 0 = view-fault g in
      let is_item_lem : is_head (view l).kind ≡ false = not-true _ a.0 in
      record {
        no_fault = z;
        no_head = sym (entry-head l whole z) ∙ is_item_lem;
        low = rw (entry-level l whole z) (rw (item-low (view l).kind is_item_lem) at g.low);
        high = rw (entry-level l whole z) (rw (item-high (view l).kind is_item_lem) at g.high);
        ruled = entry_rule l whole z ∙ g.ruled;
        stated = entry_data_records l whole z ∙ sym (eqb-true (length ds) (view l).data_records b.1);
      }

  -- where it does, the data records decide
  first_block : FirstRecord (entry_of l) (length ds) → is_block (view l) ds ≡ fine (walk (open_after 8 0 (view l)) (length ds) (to_data (entry_of l).held) 0 1 ds)
  first_block f = decided (is_head (view l).kind) (fine (walk 8 0 nothing 0 0 (view l ∷ ds))) (eqb (length ds) (view l).data_records) is_item_lem (eq-eqb (length ds) (view l).data_records many) ∙ ap fine stepped
    where
      z : (entry_of l).fault ≡ 0
      z = f.no_fault

      is_item_lem : is_head (view l).kind ≡ false
      is_item_lem = entry-head l whole z ∙ f.no_head

      many : length ds ≡ (view l).data_records
      many = sym f.stated ∙ entry_data_records l whole z

      levels : (entry_of l).level ≡ (view l).level
      levels = entry-level l whole z

      passes : fault_at 8 0 nothing (view l) ≡ 0
      passes = good_fault_at 8 nothing (view l) (record {
        known = leb-true (count_index (view l).kind) 9 (entry_counted l whole z);
        sound = entry_columns l whole z;
        low = rw (item-low (view l).kind is_item_lem) (omega (arith, levels, f.low));
        high = rw (item-high (view l).kind is_item_lem) (omega (arith, levels, f.high));
        near = omega (arith, levels, f.high);
        ruled = sym (entry_rule l whole z) ∙ f.ruled;
      })

      stepped : walk 8 0 nothing 0 0 (view l ∷ ds) ≡ walk (open_after 8 0 (view l)) (length ds) (to_data (entry_of l).held) 0 1 ds
      stepped = walk_step 8 0 nothing 0 0 (view l) ds passes ∙ ap₂ (λ (due : ℕ) (held : Data). walk (open_after 8 0 (view l)) due held 0 1 ds) (item-data_records (view l) is_item_lem ∙ sym many) (sym (entry_held l whole z))

-- ---- `read_block`

module _ (block : List ℕ) where
  no_block : map view (block_of block) ≡ [] → block_answer None ≡ block_item block
  unfolding block_item block_answer
  no_block e = sym (ap item_in e)

  pub not-whole : (length block % 84 ≡ 0 → ⊥) → block_answer None ≡ block_item block
  not-whole h = no_block (rw (ne_eqb (length block % 84) 0 h))

  pub empty : length block ≡ 0 → block_answer None ≡ block_item block
  empty h = no_block (rw h)

  module _ (whole : length block % 84 ≡ 0) (bare : Bool) (bare_is : bare ≡ eqb (length block) 0) (some : bare ≡ false) (r : List ℕ) (read : r ≡ get_or (records_of Plain block) 0 []) where
    inside : 0 < length block / 84
    inside = let h : length block ≡ 0 → ⊥ = (λ z. true≢false (sym (bare_is ∙ eq-eqb (length block) 0 z) ∙ some)) in omega arith

    wide : length r ≡ 84
    wide = block_wide block r 0 read inside

    abbrev ds : List View
    ds = drop 1 (map view (records_of Plain block))

    views_are : map view (records_of Plain block) ≡ view r ∷ drop 1 (map view (records_of Plain block))
    views_are = go (records_of Plain block) (rw (block_long block) inside) read
      where
        go : (rs : List (List ℕ)) → 0 < length rs → r ≡ get_or rs 0 [] → map view rs ≡ view r ∷ drop 1 (map view rs)
        go [] h p = absurd (omega arith)
        go (x ∷ rs) h p = ap (λ (y : List ℕ). view y ∷ map view rs) (sym p)

    length_ds : length (drop 1 (map view (records_of Plain block))) ≡ length block / 84 - 1
    length_ds = length-drop 1 (map view (records_of Plain block)) ∙ rw (length-map (records_of Plain block) view, block_long block)

    block_records : block_item block ≡ item_in (map view (records_of Plain block))
    unfolding block_item
    block_records = rw (eq-eqb (length block % 84) 0 whole, plain-records block)

    picked : (t : Bool) (a b : Answer BlockItem) → cond (eqb (unless t 12) 0) a b ≡ cond t a b
    picked true a b = refl
    picked false a b = refl

    is_block_lem : block_item block ≡ cond (is_block (view r) (drop 1 (map view (records_of Plain block)))) (given (record { count_index = count_index (view r).kind; level = (view r).level })) (refused 12 0)
    is_block_lem = block_records ∙ ap item_in views_are ∙ picked (is_block (view r) (drop 1 (map view (records_of Plain block)))) (given (record { count_index = count_index (view r).kind; level = (view r).level })) (refused 12 0)

    refuse : is_block (view r) (drop 1 (map view (records_of Plain block))) ≡ false → block_answer None ≡ block_item block
    unfolding block_answer
    refuse f = sym (is_block_lem ∙ rw f)

    -- a first record that is refused
    pub refused-first : (reason : Reason) → refused_entry (refusal_number reason) ≡ entry_of r → block_answer None ≡ block_item block
    refused-first reason is = refuse (go (is_block (view r) (drop 1 (map view (records_of Plain block)))) refl)
      where
        go : (b : Bool) → is_block (view r) (drop 1 (map view (records_of Plain block))) ≡ b → b ≡ false
        go true t = absurd (not_zero reason (ap (λ (x : Entry). x.fault) is ∙ (block_first r (drop 1 (map view (records_of Plain block))) wide t).no_fault))
        go false t = refl

    module _ (e : Entry) (is : e ≡ entry_of r) (flag : Bool) (flag_is : flag ≡ is_item e (length block / 84 - 1)) where
      pub not-item : not flag ≡ true → block_answer None ≡ block_item block
      not-item t = refuse (go (is_block (view r) (drop 1 (map view (records_of Plain block)))) refl)
        where
          go : (b : Bool) → is_block (view r) (drop 1 (map view (records_of Plain block))) ≡ b → b ≡ false
          go true q = absurd (true≢false (sym (passed e (length block / 84 - 1) (rw (is, ← length_ds) (block_first r (drop 1 (map view (records_of Plain block))) wide q))) ∙ sym flag_is ∙ not-true flag t))
          go false q = refl

      module _ (t : flag ≡ true) (in_order : Bool) (o : (opened : ℕ) → in_order ≡ data_walk (map view (records_of Plain block)) (to_data e.held) opened 1) where
        one : FirstRecord (entry_of r) (length (drop 1 (map view (records_of Plain block))))
        one = rw (← is, length_ds) (tested e (length block / 84 - 1) (sym flag_is ∙ t))

        decides : is_block (view r) (drop 1 (map view (records_of Plain block))) ≡ in_order
        unfolding data_walk
        decides = first_block r (drop 1 (map view (records_of Plain block))) wide one ∙ sym (o (open_after 8 0 (view r)) ∙ rw (is, ← left))
          where
            left : length (drop 1 (map view (records_of Plain block))) ≡ length (map view (records_of Plain block)) - 1
            left = length-drop 1 (map view (records_of Plain block))

        -- the answer is the item or none, as the data records decide
        pub told : (answer : Option Declared.BlockItem) → answer ≡ then_some in_order (record { kind = e.kind; level = e.level }) → block_answer answer ≡ block_item block
        unfolding block_answer
        told answer q = go in_order refl (ap block_answer q)
          where
            go : (b : Bool) → in_order ≡ b → block_answer answer ≡ block_answer (then_some b (record { kind = e.kind; level = e.level })) → block_answer answer ≡ block_item block
            go true f p = p ∙ sym (is_block_lem ∙ rw (decides, f, is, entry-kind r wide one.no_fault, entry-level r wide one.no_fault))
            go false f p = p ∙ refuse (decides ∙ f)

pub ruleset block_laws = (not-whole, empty, not-item, told)
