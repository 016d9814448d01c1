-- One record where a header or an item is due: what each test of the code says of it. Assumes nothing.
use mathlib.Core.Path.{◌≡◌, refl, sym, ◌∙◌}
use mathlib.Core.Bool.{Bool, true, false, not}
use mathlib.Core.List.{List}
use Prim.Native.Nat.{ℕ, zero, suc, ◌+◌, ◌-◌, ◌*◌, ◌≤◌, ◌<◌}
use mir.Syntax.{w64}
use mir.Val.{Fits}
use native.Mathlib.Omega.{arith}
use native.Mathlib.Numerals.{add-one}
use borrow.Author.Tests.{not-true, not-false, ne_eqb}
use lib.ListN.{length}
use Rattle.format.specs.Basics.{first, unless}
use Rattle.std.specs.Prelude.{Ok, Err}
use Rattle.format.specs.Reasons.{refusal_number, refusal_for}
use Rattle.format.specs.declared.Refusal.{Refusal}
use Rattle.format.specs.declared.Reason.{Reason}
use Rattle.records.specs.declared.items.Entry as Items
use Rattle.records.specs.Entry.{Entry, entry_said, refused_entry}
use Rattle.format.specs.Record.{nothing, Kind, head, item, neither, is_head, count_index, view}
use Rattle.format.specs.Judge.{lowest_level, highest_level, level_ok, fault_at}
use Rattle.format.proofs.Basics.{first_zero, first_some}
use Rattle.format.proofs.JudgeWalks.{good}
use Rattle.records.proofs.Laws.{entry-kind, entry-level, entry_data_records, entry_held, entry_rule, fault-at}
use Rattle.records.specs.Entry.{to_data, entry_of}
use Rattle.judge.specs.declared.body_records.Extent.{Extent}
use Rattle.format.proofs.Reasons.{not_zero}
use Rattle.judge.proofs.Steps.{wide_at}
use Rattle.judge.specs.Walks.{ExtentOf, record_at, lowest_of, highest_of, level_fits, entry_fault, EntryDue, HeaderAt}

-- ---- the first fault of an entry that has none of its own
module _ (e : Items.Entry) (opened : ℕ) (fits : Bool) (of : fits ≡ level_fits e.kind e.level opened) where
  pub entry-level_wrong : fits ≡ false → 7 ≡ entry_fault (entry_said (Ok e)) opened
  unfolding entry_fault
  entry-level_wrong h = rw (← of, h)

  module _ (near : fits ≡ true) where
    pub entry-rule_broken : not e.rule_kept ≡ true → 8 ≡ entry_fault (entry_said (Ok e)) opened
    unfolding entry_fault
    entry-rule_broken h = rw (← of, near, not-true e.rule_kept h)

    pub entry-passes : not e.rule_kept ≡ false → 0 ≡ entry_fault (entry_said (Ok e)) opened
    unfolding entry_fault
    entry-passes h = rw (← of, near, not-false e.rule_kept h)

-- ---- `entry_due`: a fault of its own comes first
pub due-own : (l : List ℕ) (k opened : ℕ) (r : Refusal) (reason : Reason) → r ≡ refusal_for reason (k + 1) → refused_entry (refusal_number reason) ≡ entry_of l → (refusal_number r.reason ≡ entry_fault (entry_of l) opened) × (r.at ≡ k + 1)
unfolding entry_fault
due-own l k opened r reason of is = rw (of, ← is) (first_some (refusal_number reason) _ (not_zero reason), refl)

-- ---- what an entry says of a record
lowest_is : (k : Kind) → lowest_of (count_index k) ≡ lowest_level k
unfolding lowest_of
lowest_is head = refl
lowest_is (item k) = rw (ne_eqb (suc k) 0 (λ e. omega arith))
lowest_is neither = refl

highest_is : (k : Kind) → highest_of (count_index k) ≡ highest_level k
unfolding highest_of
highest_is head = refl
highest_is (item k) = rw (ne_eqb (suc k) 0 (λ e. omega arith))
highest_is neither = refl

first-same : (a b c : ℕ) → (a ≡ 0 → b ≡ c) → first a b ≡ first a c
first-same zero b c e = e refl
first-same (suc a) b c e = refl

head_first : (k : Kind) → count_index k ≡ 0 → is_head k ≡ true
head_first head e = refl
head_first (item k) e = absurd (omega arith)
head_first neither e = absurd (omega arith)

item_later : (k : Kind) → (count_index k ≡ 0 → ⊥) → is_head k ≡ false
item_later head ne = absurd (ne refl)
item_later (item k) ne = refl
item_later neither ne = refl

header_to_8 : (k : Kind) → count_index k ≡ 0 → highest_level k ≡ 8
header_to_8 head e = refl
header_to_8 (item k) e = absurd (omega arith)
header_to_8 neither e = absurd (omega arith)

module _ (l : List ℕ) (whole : length l ≡ 84) (opened : ℕ) where
  level_tested : (entry_of l).fault ≡ 0 → level_fits (entry_of l).kind (entry_of l).level opened ≡ level_ok opened (view l)
  unfolding level_fits
  level_tested z = rw (entry-kind l whole z, entry-level l whole z, lowest_is (view l).kind, highest_is (view l).kind, add-one opened)

  entry-faults : entry_fault (entry_of l) opened ≡ fault_at opened 0 nothing (view l)
  unfolding entry_fault
  entry-faults =
      first-same (entry_of l).fault _ (first (unless (level_ok opened (view l)) 7) (view l).rule_fault) (λ z. rw (level_tested z, entry_rule l whole z))
      ∙ sym (fault-at l whole opened nothing)

-- ---- the same of a record of a file, whose entry and fault are what the code has
-- a header or an item that passes
pub record Sound (file : List ℕ) (x : Extent) (k opened : ℕ) (e : Entry) : Type 0 where
  pub well : fault_at opened 0 nothing (view (record_at file x k)) ≡ 0
  pub kind_is : e.kind ≡ count_index (view (record_at file x k)).kind
  pub kind-small : e.kind ≤ 9
  pub level_is : (view (record_at file x k)).level ≡ e.level
  pub near : e.level ≤ suc opened
  pub header : e.kind ≡ 0 → is_head (view (record_at file x k)).kind ≡ true
  pub header-high : e.kind ≡ 0 → e.level ≤ 8
  pub no_header : (e.kind ≡ 0 → ⊥) → is_head (view (record_at file x k)).kind ≡ false
  pub records_are : e.data_records ≡ (view (record_at file x k)).data_records
  pub held_is : to_data e.held ≡ (view (record_at file x k)).data_held

module _ (file : List ℕ) (x : Extent) (k opened : ℕ) (e : Entry) (fault : ℕ) (extent_of : ExtentOf file x) (here : k < x.records) (is : e ≡ entry_of (record_at file x k)) (of : fault ≡ entry_fault e opened) where
  abbrev one : List ℕ
  one = record_at file x k

  whole : length one ≡ 84
  whole = wide_at file x extent_of k here

  pub fault_is : fault ≡ fault_at opened 0 nothing (view one)
  fault_is = of ∙ rw is (entry-faults one whole opened)

  pub sound : fault ≡ 0 → Sound file x k opened e
  sound z =
      let v = view one in
      let well : fault_at opened 0 nothing v ≡ 0 = sym fault_is ∙ z in
      let g = good opened nothing v well in
      let fine : (entry_of one).fault ≡ 0 = (first_zero _ _ (sym (fault-at one whole opened nothing) ∙ well)).0 in
      let kind : e.kind ≡ count_index v.kind = rw is (entry-kind one whole fine) in
      let level : e.level ≡ v.level = rw is (entry-level one whole fine) in
      record {
        well = well;
        kind_is = kind;
        kind-small = omega (arith, g.known);
        level_is = sym level;
        near = omega (arith, g.near);
        header = λ q. head_first v.kind (sym kind ∙ q);
        header-high = λ q. omega (arith, g.high, header_to_8 v.kind (sym kind ∙ q));
        no_header = λ q. item_later v.kind (λ x. q (kind ∙ x));
        records_are = rw is (entry_data_records one whole fine);
        held_is = rw is (entry_held one whole fine);
      }

-- what `entry_due` answers, at a record of the file
module _ (file : List ℕ) (x : Extent) (k opened : ℕ) (extent_of : ExtentOf file x) (here : k < x.records) where
  pub due-wrong : (r : Refusal) → EntryDue file x k opened (Err r) → refusal_number r.reason ≡ fault_at opened 0 nothing (view (record_at file x k))
  due-wrong r due = fault_is file x k opened (entry_of (record_at file x k)) (refusal_number r.reason) extent_of here refl due.0

  module _ (e : Items.Entry) (due : EntryDue file x k opened (Ok e)) where
    pub due-sound : Sound file x k opened (entry_said (Ok e))
    due-sound = sound file x k opened (entry_said (Ok e)) (entry_fault (entry_said (Ok e)) opened) extent_of here due.0 refl due.1

    -- its kind has a place in a tally
    pub kind-small : e.kind < 10
    kind-small = omega (arith, due-sound.kind-small)

    pub kind_fits : Fits w64 (e.kind * 8)
    kind_fits = omega (arith, kind-small)

    -- a header one level below the open one: by the measures of the walks fewer levels are left to its group
    module _ (deep : opened < e.level) (no_item : e.kind ≡ 0) where
      pub header-level : opened < 8
      header-level = omega (arith, due-sound.header-high no_item)

      pub header_falls : (t : ℕ) → 2 * (9 - opened) ≡ t → 2 * (8 - opened) + 1 < t
      header_falls t p = omega (arith, header-level)

      pub header_at : HeaderAt file x k opened
      header_at = record { well = due-sound.well; header = due-sound.header no_item; deep = omega (arith, due-sound.level_is, due-sound.near) }
