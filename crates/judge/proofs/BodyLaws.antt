-- The loop of `walk_body`: its invariant, and what it ensures at each way out. Assumes nothing.
use Rattle.std.specs.Prelude.{Option, Some, None, Ok, Err}
use Rattle.std.specs.Option.{option_or}
use mathlib.Core.Path.{◌≡◌, refl, sym, ap, ◌∙◌}
use mathlib.Core.Bool.{Bool, true, false, cond}
use mathlib.Core.List.{List}
use Prim.Native.Nat.{ℕ, zero, suc, ◌+◌, ◌-◌, ◌^◌, ◌≤◌, ◌<◌}
use mir.Syntax.{w64}
use mir.Val.{Fits}
use native.Mathlib.Omega.{arith}
use native.Mathlib.Nat.{zero-add}
use native.Mathlib.Numerals.{add-one}
use borrow.Author.Tests.{eqb-true, eqb-false}
use lib.Dec.{eqb}
use lib.ListN.{length, get_or, set, replicate, length-set}
use lib.Seq.{get_or-set_same, get_or-set_other}
use Rattle.format.specs.Basics.{none, fault}
use Rattle.format.specs.Reasons.{refusal_number}
use Rattle.format.specs.declared.Refusal.{Refusal}
use Rattle.format.specs.Record.{view}
use Rattle.format.specs.Judge.{count_under}
use Rattle.records.specs.declared.items.Entry as Items
use Rattle.records.specs.Entry.{to_data, entry_said}
use Rattle.judge.specs.declared.body_records.Extent.{Extent}
use Rattle.judge.specs.declared.walk.Seen.{Seen}
use Rattle.judge.specs.declared.walk.WalkedGroup as Walk
use Rattle.judge.specs.Walks.{record_at, views_from, fault_from, entries, ExtentOf, EntryDue, last_before, with_item, JoinsTo, SeesTo, SeenUpTo, Walked, WalkedGroup, Item, Child, Body, passed_body_of, group_said, body_said, walked_said, item_as_group}
use Rattle.judge.proofs.Steps.{views_more, views_end, fault-here}
use Rattle.format.proofs.Reasons.{not_zero}
use Rattle.judge.proofs.EntryLaws.{Sound, due-sound, due-wrong}
use Rattle.judge.proofs.Ends.{ends_same, ends_uncounted}
use Rattle.judge.proofs.ChildLaws.{item_child}
use Rattle.judge.proofs.Joined.{joins-none, joins-more, sees_none, sees_more}

-- the walk of a body that began at record k has come to record `at`
pub record Going (file : List ℕ) (x : Extent) (k opened : ℕ) (s : Seen) (at : ℕ) (tally : List ℕ) (low : Option ℕ) (s' : Seen) : Type 0 where
  pub extent_of : ExtentOf file x
  pub start : k ≤ at
  pub within : at ≤ x.records
  pub young : (kind : ℕ) → k + get_or tally kind 0 ≤ at
  pub ten : length tally ≡ 10
  pub joins : JoinsTo file x k opened at opened low
  pub sees : SeesTo file x k s at s'
  pub seen_then : SeenUpTo at s'
  pub counts : (kind : ℕ) → count_under opened kind (entries (views_from file x k)) ≡ get_or tally kind 0 + count_under opened kind (entries (views_from file x at))

zeros : (m j : ℕ) → ◌≡◌ {A = ℕ} (get_or (replicate m 0) j 0) 0
zeros zero j = refl
zeros (suc m) zero = refl
zeros (suc m) (suc j) = zeros m j

pub going : (file : List ℕ) (x : Extent) (k opened : ℕ) (s : Seen) → ExtentOf file x → k ≤ x.records → SeenUpTo k s → Going file x k opened s k (replicate 10 0) None s
going file x k opened s extent_of h u = record {
  extent_of = extent_of;
  start = omega arith;
  within = h;
  young = λ kind. rw (zeros 10 kind) (omega arith);
  ten = refl;
  joins = joins-none opened (suc k) (views_from file x k);
  sees = sees_none x.before (suc k) (views_from file x k) s;
  seen_then = u;
  counts = λ kind. rw (zeros 10 kind) (sym (zero-add _));
}

at_most : (t : Bool) → cond t 1 0 ≤ 1
at_most true = omega arith
at_most false = omega arith

-- one more of a kind
one_more : (tally : List ℕ) (kind j : ℕ) → kind < length tally → get_or (set tally kind (get_or tally kind 0 + 1)) j 0 ≡ cond (eqb kind j) 1 0 + get_or tally j 0
one_more tally kind j h = go (eqb kind j) refl
  where
    go : (t : Bool) → eqb kind j ≡ t → get_or (set tally kind (get_or tally kind 0 + 1)) j 0 ≡ cond (eqb kind j) 1 0 + get_or tally j 0
    go true e = rw (e, ← eqb-true kind j e, get_or-set_same tally kind (get_or tally kind 0 + 1) 0 h) (omega arith)
    go false e = rw (e, get_or-set_other tally kind j (get_or tally kind 0 + 1) 0 (λ q. eqb-false kind j e (sym q))) (sym (zero-add _))

module _ (file : List ℕ) (x : Extent) (k opened : ℕ) (s : Seen) (at : ℕ) (tally : List ℕ) (low : Option ℕ) (s' : Seen) (g : Going file x k opened s at tally low s') where
  extent_of : ExtentOf file x
  extent_of = g.extent_of

  fails-at : (r : Refusal) → fault_from opened (suc at) (views_from file x at) ≡ fault (refusal_number r.reason) r.at → Body file x k opened s (body_said (Err r))
  fails-at r e = record {
    fails = λ h. g.joins.same ∙ e;
    passes = λ z. absurd (not_zero r.reason z);
    sees = λ z. absurd (not_zero r.reason z);
    seen_then = λ z. absurd (not_zero r.reason z);
    onward = λ z. absurd (not_zero r.reason z);
    within = λ z. absurd (not_zero r.reason z);
    counts = λ z. absurd (not_zero r.reason z);
  }

  -- the record at hand has a fault
  pub body-fault : (r : Refusal) → at < x.records → EntryDue file x at opened (Err r) → Body file x k opened s (body_said (Err r))
  body-fault r h due = fails-at r (ap (fault_from opened (suc at)) (views_more file x extent_of at h) ∙ fault-here opened (suc at) (view (record_at file x at)) (views_from file x (at + 1)) (refusal_number r.reason) (due-wrong file x at opened extent_of h r due) (not_zero r.reason) ∙ rw (due.1, add-one at))

  stopped : fault_from opened (suc at) (views_from file x at) ≡ fault_from (opened - 1) (suc at) (views_from file x at) → (fault_from (opened - 1) (suc at) (views_from file x at) ≡ none → (kind : ℕ) → count_under opened kind (entries (views_from file x at)) ≡ 0) → Body file x k opened s (passed_body_of at low tally s')
  stopped same silent = record {
    fails = λ h. absurd (h refl);
    passes = λ z. record { same = g.joins.same ∙ same; wrong = λ e. g.joins.wrong (same ∙ e); deeper = g.joins.deeper; layers = g.joins.layers };
    sees = λ z. g.sees;
    seen_then = λ z. g.seen_then;
    onward = λ z. g.start;
    within = λ z. g.within;
    counts = λ z e kind. omega (arith, g.counts kind, silent e kind);
  }

  pub body_ends : x.records ≤ at → Body file x k opened s (passed_body_of at low tally s')
  body_ends h = stopped (rw (views_end file x extent_of at h)) (λ q kind. rw (views_end file x extent_of at h))

  -- there is room for one more of a kind in the tally, and for one more item
  module _ (here : at < x.records) (wide : length file < 2 ^ 64) where
    pub count_fits : (kind : ℕ) → Fits w64 (get_or tally kind 0 + 1)
    count_fits kind = omega (arith, g.young kind, extent_of.few)

    pub items-fit : Fits w64 (s'.items + 1)
    items-fit = omega (arith, g.seen_then.few, extent_of.few)

  -- the header or item at hand, with all that belongs to it
  module _ (c : WalkedGroup) (child : Child file x at opened s' c) where
    child_stops : (r : Refusal) → c.number ≡ refusal_number r.reason → c.at ≡ r.at → Body file x k opened s (body_said (Err r))
    child_stops r p q = fails-at r (child.fails (λ z. not_zero r.reason (sym p ∙ z)) ∙ rw (p, q))

    child_further : c.number ≡ 0 → x.records - c.next < x.records - at
    child_further z = omega (arith, child.further z, child.within z)

  pub group_stops : (r : Refusal) → Child file x at opened s' (group_said (Err r)) → Body file x k opened s (body_said (Err r))
  group_stops r child = child_stops (group_said (Err r)) child r refl refl

  pub group_further : (c : Walk.WalkedGroup) → Child file x at opened s' (group_said (Ok c)) → x.records - c.next < x.records - at
  group_further c child = child_further (group_said (Ok c)) child refl

  -- ---- the record at hand passes
  module _ (e : Items.Entry) (here : at < x.records) (due : EntryDue file x at opened (Ok e)) where
    d : Sound file x at opened (entry_said (Ok e))
    d = due-sound file x at opened extent_of here e due

    pub body_stops : e.level ≤ opened → Body file x k opened s (passed_body_of at low tally s')
    body_stops le =
        let rest = views_from file x (at + 1) in
        let r = view (record_at file x at) in
        let shallow : r.level ≤ opened = omega (arith, d.level_is) in
        stopped (rw (views_more file x extent_of at here) (ends_same opened (suc at) r rest d.well shallow))
        (λ q kind. rw (views_more file x extent_of at here) (ends_uncounted opened (suc at) r rest d.well shallow (rw (views_more file x extent_of at here) at q) kind))

    -- one more of its kind
    child_goes : (c : WalkedGroup) → Child file x at opened s' c → c.number ≡ 0 → Going file x k opened s c.next (set tally e.kind (get_or tally e.kind 0 + 1)) (option_or low c.low) c.seen
    child_goes c child z =
        let f = child.further z in
        let in-it : e.kind < length tally = omega (arith, g.ten, d.kind-small) in
        record {
          extent_of = extent_of;
          start = omega (arith, g.start);
          within = child.within z;
          young = λ j. omega (arith, g.young j, one_more tally e.kind j in-it, at_most (eqb e.kind j));
          ten = length-set tally e.kind _ ∙ g.ten;
          joins = joins-more opened (suc k) _ (suc at) _ opened _ _ _ _ g.joins (child.passes z);
          sees = sees_more x.before (suc k) _ s (suc at) _ s' _ _ _ g.sees (child.sees z);
          seen_then = child.seen_then z;
          counts = λ j. omega (arith, g.counts j, one_more tally e.kind j in-it, rw (← d.kind_is) at (child.counts z j));
        }

    pub group_goes : (c : Walk.WalkedGroup) → Child file x at opened s' (group_said (Ok c)) → (low' : Option ℕ) → low' ≡ option_or low c.low → Going file x k opened s c.next (set tally e.kind (get_or tally e.kind 0 + 1)) low' c.seen
    group_goes c child low' first_is = rw first_is (child_goes (group_said (Ok c)) child refl)

    -- an item one level below the open one
    module _ (deep : opened < e.level) (no : e.kind ≡ 0 → ⊥) where
      own : (i : Walked) → Item file x at e.data_records (to_data e.held) i → Child file x at opened s' (item_as_group i (with_item s' at x.before))
      own i item = item_child file x extent_of at here opened (entry_said (Ok e)) d deep no s' g.seen_then i item

      pub item_stops : (r : Refusal) → Item file x at e.data_records (to_data e.held) (walked_said (Err r)) → Body file x k opened s (body_said (Err r))
      item_stops r item = child_stops _ (own (walked_said (Err r)) item) r refl refl

      module _ (behind : ℕ) (item : Item file x at e.data_records (to_data e.held) (walked_said (Ok behind))) where
        pub item_further : x.records - behind < x.records - at
        item_further = child_further _ (own (walked_said (Ok behind)) item) refl

        pub item_goes : (start : ℕ) → start ≡ last_before at x.before s'.start → Going file x k opened s behind (set tally e.kind (get_or tally e.kind 0 + 1)) low (record { items = s'.items + 1; start = start; headers = s'.headers })
        item_goes start of-start = rw (of-start, ← no_more low) (child_goes _ (own (walked_said (Ok behind)) item) refl)
          where
            no_more : (low : Option ℕ) → option_or low None ≡ low
            no_more None = refl
            no_more (Some n) = refl
