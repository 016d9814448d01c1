-- A header or an item, one level below the open one, with all that belongs to it. Assumes nothing.
use Rattle.std.specs.Prelude.{Option, Some, Ok, Err}
use mathlib.Core.Path.{◌≡◌, refl, sym, ap, subst, ◌∙◌}
use mathlib.Core.Logic.{◌⊎◌, inl, inr}
use mathlib.Core.Bool.{Bool, true, false}
use mathlib.Core.List.{List, ◌∷◌}
use Prim.Native.Nat.{ℕ, suc, pred, ◌+◌, ◌-◌, ◌≤◌, ◌<◌}
use native.Mathlib.Omega.{arith}
use native.Mathlib.Numerals.{add-one}
use lib.ListN.{get_or, length-set}
use Rattle.format.specs.Basics.{none}
use Rattle.format.specs.Reasons.{refusal_number}
use Rattle.format.specs.declared.Refusal.{Refusal}
use Rattle.format.specs.Record.{Kind, head, item, neither, is_head, count_index, nothing, View, view}
use Rattle.format.specs.Judge.{lowest_level, count_under, counts_agree}
use Rattle.judge.specs.declared.body_records.Extent.{Extent}
use Rattle.judge.specs.declared.walk.Seen.{Seen}
use Rattle.judge.specs.declared.walk.WalkedBody as Walk
use Rattle.judge.specs.Walks.{ExtentOf, record_at, views_from, fault_from, entries, with_item, with_header, SeenUpTo, Joins, Sees, Walked, WalkedBody, Item, HeaderAt, Child, Body, passed_group_of, group_said, body_said, item_as_group}
use Rattle.format.proofs.Reasons.{not_zero}
use Rattle.format.proofs.JudgeWalks.{good}
use Rattle.records.specs.Entry.{to_data, states_counts}
use Rattle.records.specs.Entry.{Entry}
use Rattle.records.proofs.Laws.{counts_agree_at}
use Rattle.judge.proofs.Steps.{views_more, wide_at}
use Rattle.judge.proofs.EntryLaws.{Sound}
use Rattle.judge.proofs.Joined.{sees_item, sees_header, step-item, joins-item, item_counted, step-header, joins_agreed, joins_differing, header-layers, header_counted}

item_of_lem : (k : Kind) → is_head k ≡ false → count_index k ≤ 9 → k ≡ item (pred (count_index k))
item_of_lem head e l = cc
item_of_lem (item k) e l = refl
item_of_lem neither e l = absurd (omega arith)

head_of : (k : Kind) → is_head k ≡ true → k ≡ head
head_of head e = refl
head_of (item k) e = cc
head_of neither e = cc

-- with a header, too, no more items are seen than records
pub see_header_upto : (s r : Seen) (k before level : ℕ) → SeenUpTo k s → r ≡ with_header s k before level → SeenUpTo (k + 1) r
see_header_upto s r k before level u e = rw e (record { few = omega (arith, u.few); nine = length-set s.headers level _ ∙ u.nine })

module _ (file : List ℕ) (x : Extent) (extent_of : ExtentOf file x) (k : ℕ) (here : k < x.records) where
  abbrev one : View
  one = view (record_at file x k)

  abbrev rest : List View
  rest = views_from file x (k + 1)

  more : views_from file x k ≡ one ∷ rest
  more = views_more file x extent_of k here

  -- an item, by its entry
  module _ (opened : ℕ) (e : Entry) (s : Sound file x k opened e) (deep : opened < e.level) (is : e.kind ≡ 0 → ⊥) (seen : Seen) (upto : SeenUpTo k seen) (w : Walked) (d : Item file x k e.data_records (to_data e.held) w) where
    kind_is : one.kind ≡ item (pred (count_index one.kind))
    kind_is = item_of_lem one.kind (s.no_header is) (good opened nothing one s.well).known

    level_is : one.level ≡ suc opened
    level_is = omega (arith, s.level_is, s.near)

    no_item_there : opened ≡ 0 → ⊥
    no_item_there q = let l : 2 ≤ one.level = subst (λ (j : Kind). lowest_level j ≤ one.level) kind_is (good opened nothing one s.well).low in omega (arith, level_is)

    own : Item file x k one.data_records one.data_held w
    own = rw (← s.records_are, ← s.held_is) d

    pub item_child : Child file x k opened seen (item_as_group w (with_item seen k x.before))
    item_child = record {
      fails = λ ne. ap (fault_from opened (suc k)) more ∙ step-item opened (suc k) one rest s.well level_is _ kind_is ∙ own.fails ne opened;
      passes = λ z. rw more (joins-item opened (suc k) one rest s.well level_is _ kind_is _ _ (own.passes z));
      sees = λ z. rw more (sees_item x.before k one rest seen _ _ _ kind_is (own.passes z));
      seen_then = λ z. record { few = omega (arith, own.start z, upto.few); nine = upto.nine };
      further = λ z. own.start z;
      within = λ z. own.within z;
      counts = λ z kind. rw more (item_counted opened (suc k) one rest s.well level_is _ kind_is _ _ (own.passes z) kind);
      layers = λ z q. absurd (no_item_there q);
    }

  -- a header, by the walk of its body
  module _ (opened : ℕ) (s : HeaderAt file x k opened) (seen : Seen) (upto : SeenUpTo k seen) (seen' : Seen) (of-seen : seen' ≡ with_header seen k x.before (opened + 1)) (w : WalkedBody) (walked : Body file x (k + 1) (opened + 1) seen' w) where
    b : Body file x (k + 1) (opened + 1) (with_header seen k x.before (opened + 1)) w
    b = subst (λ (s : Seen). Body file x (k + 1) (opened + 1) s w) of-seen walked

    header_is : one.kind ≡ head
    header_is = head_of one.kind s.header

    header-step : fault_from opened (suc k) (views_from file x k) ≡ fault_from (opened + 1) (suc (k + 1)) rest
    header-step = ap (fault_from opened (suc k)) more ∙ step-header opened (suc k) one rest s.well s.deep header_is ∙ rw (add-one k, add-one opened)

    module _ (z : w.number ≡ 0) where
      back : opened + 1 - 1 ≡ opened
      back = omega arith

      inner : Joins (suc opened) (suc (suc k)) rest opened (suc w.next) (views_from file x w.next) w.low
      inner = rw (← add-one k, ← add-one opened) (rw back at (b.passes z))

      inside : Sees x.before (suc (suc k)) rest (with_header seen k x.before (opened + 1)) (suc w.next) (views_from file x w.next) w.seen
      inside = ap_number (b.sees z)
        where
          ap_number : Sees x.before (suc (k + 1)) rest (with_header seen k x.before (opened + 1)) (suc w.next) (views_from file x w.next) w.seen → Sees x.before (suc (suc k)) rest (with_header seen k x.before (opened + 1)) (suc w.next) (views_from file x w.next) w.seen
          ap_number = subst (λ (n : ℕ). Sees x.before (suc n) rest (with_header seen k x.before (opened + 1)) (suc w.next) (views_from file x w.next) w.seen) (add-one k)

      passes_on : (low : Option ℕ) → Joins opened (suc k) (one ∷ rest) opened (suc w.next) (views_from file x w.next) low → Child file x k opened seen (passed_group_of w.next low w.seen)
      passes_on low j =
          record {
            fails = λ h. absurd (h refl);
            passes = λ q. rw more j;
            sees = λ q. rw more (sees_header x.before k one rest seen _ _ (opened + 1) w.seen header_is (s.deep ∙ sym (add-one opened)) upto.nine inside);
            seen_then = λ q. b.seen_then z;
            further = λ q. omega (arith, b.onward z);
            within = λ q. b.within z;
            counts = λ q kind. rw more (header_counted opened (suc k) one rest s.well s.deep header_is _ _ _ inner kind);
            layers = λ q o. rw more (header-layers opened (suc k) one rest s.well s.deep header_is _ _ _ inner o);
          }

      -- what the header is asked, by the tally of its body
      counted : fault_from opened (suc w.next) (views_from file x w.next) ≡ none → (kind : ℕ) → count_under one.level kind (entries rest) ≡ get_or w.tally kind 0
      counted e kind = rw s.deep (rw (add-one opened) at (b.counts z (rw back e) kind))

      module _ (agreed : Bool) (of : agreed ≡ states_counts (record_at file x k) w.tally) where
        by_header : fault_from opened (suc w.next) (views_from file x w.next) ≡ none → counts_agree one (entries rest) ≡ agreed
        by_header q = sym (of ∙ counts_agree_at (record_at file x k) s.header w.tally (entries rest) (wide_at file x extent_of k here) (λ kind h. sym (counted q kind)))

        pub group_agrees : agreed ≡ true → Child file x k opened seen (passed_group_of w.next w.low w.seen)
        group_agrees t = passes_on w.low (joins_agreed opened (suc k) one rest s.well s.deep header_is _ _ _ inner (λ q. by_header q ∙ t))

        pub group_differs : agreed ≡ false → Child file x k opened seen (passed_group_of w.next (Some (k + 1)) w.seen)
        group_differs t = rw (add-one k) (passes_on (Some (suc k)) (joins_differing opened (suc k) one rest s.well s.deep header_is _ _ _ inner (λ q. by_header q ∙ t)))

  -- as the code has it
  module _ (opened : ℕ) (s : HeaderAt file x k opened) (seen : Seen) (upto : SeenUpTo k seen) (seen' : Seen) (of-seen : seen' ≡ with_header seen k x.before (opened + 1)) where
    pub group_fails : (r : Refusal) → Body file x (k + 1) (opened + 1) seen' (body_said (Err r)) → Child file x k opened seen (group_said (Err r))
    group_fails r walked =
        let nz : refusal_number r.reason ≡ 0 → ⊥ = not_zero r.reason in
        record {
          fails = λ h. header-step opened s seen upto seen' of-seen (body_said (Err r)) walked ∙ (b opened s seen upto seen' of-seen (body_said (Err r)) walked).fails nz;
          passes = λ z. absurd (nz z);
          sees = λ z. absurd (nz z);
          seen_then = λ z. absurd (nz z);
          further = λ z. absurd (nz z);
          within = λ z. absurd (nz z);
          counts = λ z. absurd (nz z);
          layers = λ z. absurd (nz z);
        }

    -- its own number where it states other counts, else the first below it
    pub group_answers : (w : Walk.WalkedBody) → Body file x (k + 1) (opened + 1) seen' (body_said (Ok w)) → (agreed : Bool) → agreed ≡ states_counts (record_at file x k) w.tally → (low : Option ℕ) → ((agreed ≡ true) × (low ≡ w.low)) ⊎ ((agreed ≡ false) × (low ≡ Some (k + 1))) → Child file x k opened seen (passed_group_of w.next low w.seen)
    group_answers w walked agreed of low (inl p) = rw p.1 (group_agrees opened s seen upto seen' of-seen (body_said (Ok w)) walked refl agreed of p.0)
    group_answers w walked agreed of low (inr p) = rw p.1 (group_differs opened s seen upto seen' of-seen (body_said (Ok w)) walked refl agreed of p.0)
