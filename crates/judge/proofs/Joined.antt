-- How the parts of a walk join. Assumes nothing.
use Rattle.std.specs.Prelude.{Option, Some, None}
use Rattle.std.specs.Option.{option_or}
use mathlib.Core.Path.{◌≡◌, refl, ap, ◌∙◌}
use mathlib.Core.Bool.{Bool, true, false, cond}
use mathlib.Core.List.{List, ◌∷◌}
use Prim.Native.Nat.{ℕ, suc, pred, ◌+◌, ◌<◌}
use native.Mathlib.Omega.{arith}
use native.Mathlib.Nat.{zero-add}
use borrow.Author.Tests.{eq-eqb, ne_eqb}
use lib.Dec.{eqb}
use lib.ListN.{length, get_or}
use Rattle.format.specs.Basics.{Fault, none, or_else, to_fault, unless}
use Rattle.format.specs.Record.{nothing, head, item, is_head, count_index, View}
use Rattle.format.specs.Judge.{walk, fault_at, headers_and_items, items, count_under, counts_agree, count_fault, open_after, due_after}
use Rattle.format.proofs.JudgeSteps.{walk_step}
use Rattle.format_directory.specs.Directory.{Layer, layer_body, layers_from}
use Rattle.judge.specs.declared.walk.Seen.{Seen}
use Rattle.judge.specs.Walks.{fault_from, entries, wrong_at, last_before, with_item, with_header, Through, Joins, Sees}
use Rattle.judge.proofs.Steps.{any_owner}
use Rattle.judge.proofs.SeenLaws.{start-step, header-step, header-set}

pub joins-none : (opened i : ℕ) (rs : List View) → Joins opened i rs opened i rs None
joins-none opened i rs = record { same = refl; wrong = λ h. refl; deeper = λ level kind h. refl; layers = λ h. refl }

-- the first of two wrong counts
pub wrong_first : (a b : Option ℕ) (f : Fault) → or_else (wrong_at a) (or_else (wrong_at b) f) ≡ or_else (wrong_at (option_or a b)) f
wrong_first None b f = refl
wrong_first (Some a) b f = refl

pub joins-more : (opened i : ℕ) (rs : List View) (j : ℕ) (ss : List View) (after k : ℕ) (ts : List View) (low low' : Option ℕ) → Joins opened i rs opened j ss low → Joins opened j ss after k ts low' → Joins opened i rs after k ts (option_or low low')
joins-more opened i rs j ss after k ts low low' f g = record {
  same = f.same ∙ g.same;
  wrong = λ h. f.wrong (g.same ∙ h) ∙ ap (or_else (wrong_at low)) (g.wrong h) ∙ wrong_first low low' _;
  deeper = λ level kind h. f.deeper level kind h ∙ g.deeper level kind h;
  layers = λ h. f.layers h ∙ g.layers h;
}

-- ---- what is seen
pub sees_none : (before i : ℕ) (rs : List View) (s : Seen) → Sees before i rs s i rs s
sees_none before i rs s = record { all = refl; no_fewer = omega arith; last = refl; above = λ level h. refl }

pub sees_more : (before i : ℕ) (rs : List View) (s : Seen) (j : ℕ) (ss : List View) (s' : Seen) (k : ℕ) (ts : List View) (s'' : Seen) → Sees before i rs s j ss s' → Sees before j ss s' k ts s'' → Sees before i rs s k ts s''
sees_more before i rs s j ss s' k ts s'' f g = record { all = f.all ∙ g.all; no_fewer = omega (arith, f.no_fewer, g.no_fewer); last = f.last ∙ g.last; above = λ level h. f.above level h ∙ g.above level h }

-- an item at record k, and its data records; a header there, and what stands behind it
module _ (before k : ℕ) (r : View) (rs : List View) (s : Seen) (i' : ℕ) (rs' : List View) where
  pub sees_item : (j : ℕ) → r.kind ≡ item j → Through r.data_held (suc k) r.data_records (suc (suc k)) rs 0 i' rs' → Sees before (suc k) (r ∷ rs) s i' rs' (with_item s k before)
  sees_item j is t = record {
    all = omega (arith, one);
    no_fewer = omega arith;
    last = start-step before k r rs s.start ∙ rw is (t.start before (last_before k before s.start));
    above = λ level h. header-step before k r rs level (get_or s.headers level 0) ∙ rw is (t.header before level (get_or s.headers level 0));
  }
    where
      one : items (entries (r ∷ rs)) ≡ 1 + items (entries rs')
      one = rw (is, t.behind)

  pub sees_header : (own : ℕ) (s' : Seen) → r.kind ≡ head → r.level ≡ own → length s.headers ≡ 9 → Sees before (suc (suc k)) rs (with_header s k before own) i' rs' s' → Sees before (suc k) (r ∷ rs) s i' rs' s'
  sees_header own s' is deep nine b = record {
    all = omega (arith, none_more, b.all);
    no_fewer = b.no_fewer;
    last = start-step before k r rs s.start ∙ rw is b.last;
    above = λ level h. header-step before k r rs level (get_or s.headers level 0) ∙ rw (is, deep) (rw (header-set s.headers own level (last_before k before) nine h) at (b.above level h));
  }
    where
      none_more : items (entries (r ∷ rs)) ≡ items (entries rs)
      none_more = rw is (zero-add _)

-- a record that passes, one level below the open one
module _ (opened i : ℕ) (r : View) (rs : List View) (well : fault_at opened 0 nothing r ≡ 0) (deep : r.level ≡ suc opened) where
  pub one_deeper : (level kind : ℕ) → level < opened → count_under level kind (entries (r ∷ rs)) ≡ count_under level kind (headers_and_items (due_after 0 r) rs)
  one_deeper level kind h = go (is_head r.kind) refl
    where
      go : (t : Bool) → is_head r.kind ≡ t → count_under level kind (entries (r ∷ rs)) ≡ count_under level kind (headers_and_items (due_after 0 r) rs)
      go true q = rw (q, deep, ne_eqb (suc opened) level (λ e. omega arith), ne_eqb (suc opened) (suc level) (λ e. omega arith)) (zero-add _)
      go false q = rw (q, deep, ne_eqb (suc opened) (suc level) (λ e. omega arith)) (zero-add _)

  pub one_counted : (kind : ℕ) → count_under opened kind (entries (r ∷ rs)) ≡ cond (eqb (count_index r.kind) kind) 1 0 + count_under opened kind (headers_and_items (due_after 0 r) rs)
  one_counted kind = go (is_head r.kind) refl
    where
      go : (t : Bool) → is_head r.kind ≡ t → count_under opened kind (entries (r ∷ rs)) ≡ cond (eqb (count_index r.kind) kind) 1 0 + count_under opened kind (headers_and_items (due_after 0 r) rs)
      go true q = rw (q, deep, ne_eqb (suc opened) opened (λ e. omega arith), eq-eqb (suc opened) (suc opened) refl)
      go false q = rw (q, deep, eq-eqb (suc opened) (suc opened) refl)

  step : fault_from opened i (r ∷ rs) ≡ walk (open_after opened 0 r) (due_after 0 r) r.data_held i (suc i) rs
  step = walk_step opened 0 nothing 0 i r rs well

  -- an item, and its data records
  module _ (k : ℕ) (is : r.kind ≡ item k) where
    opened-item : open_after opened 0 r ≡ opened
    opened-item = rw is (ap pred deep)

    due_item : due_after 0 r ≡ r.data_records
    due_item = rw is

    pub step-item : fault_from opened i (r ∷ rs) ≡ walk opened r.data_records r.data_held i (suc i) rs
    step-item =
        step
        ∙ ap (λ (x : ℕ). walk x (due_after 0 r) r.data_held i (suc i) rs) opened-item
        ∙ ap (λ (x : ℕ). walk opened x r.data_held i (suc i) rs) due_item

    module _ (i' : ℕ) (rs' : List View) (t : Through r.data_held i r.data_records (suc i) rs 0 i' rs') where
      behind-item : headers_and_items (due_after 0 r) rs ≡ entries rs'
      behind-item = ap (λ (x : ℕ). headers_and_items x rs) due_item ∙ t.behind

      pub joins-item : Joins opened i (r ∷ rs) opened i' rs' None
      joins-item = record {
        same = step-item ∙ t.same opened ∙ any_owner opened r.data_held nothing i 0 i' rs';
        wrong = λ h. rw is t.wrong;
        deeper = λ level kind h. one_deeper level kind h ∙ ap (count_under level kind) behind-item;
        layers = λ h. rw is t.layers;
      }

      pub item_counted : (kind : ℕ) → count_under opened kind (entries (r ∷ rs)) ≡ cond (eqb (count_index r.kind) kind) 1 0 + count_under opened kind (entries rs')
      item_counted kind = one_counted kind ∙ ap (λ (l : List View). cond (eqb (count_index r.kind) kind) 1 0 + count_under opened kind l) behind-item

  -- a header, and the body below it
  module _ (is : r.kind ≡ head) where
    pub step-header : fault_from opened i (r ∷ rs) ≡ fault_from (suc opened) (suc i) rs
    step-header = step ∙ rw (is, deep) (any_owner (suc opened) r.data_held nothing i 0 (suc i) rs)

    behind-header : headers_and_items (due_after 0 r) rs ≡ entries rs
    behind-header = rw is

    counts-header : count_fault 0 i (r ∷ rs) ≡ or_else (to_fault (unless (counts_agree r (entries rs)) 10) i) (count_fault 0 (suc i) rs)
    counts-header = rw is

    module _ (i' : ℕ) (rs' : List View) (low : Option ℕ) (b : Joins (suc opened) (suc i) rs opened i' rs' low) where
      joined : (low' : Option ℕ) → (fault_from opened i' rs' ≡ none → count_fault 0 i (r ∷ rs) ≡ or_else (wrong_at low') (count_fault 0 i' rs')) → Joins opened i (r ∷ rs) opened i' rs' low'
      joined low' wrong = record {
        same = step-header ∙ b.same;
        wrong = wrong;
        deeper = λ level kind h. one_deeper level kind h ∙ ap (count_under level kind) behind-header ∙ b.deeper level kind (omega arith);
        layers = λ h. rw (is, deep, ne_eqb (suc opened) 1 (λ e. omega arith)) (b.layers (omega arith));
      }

      pub joins_agreed : (fault_from opened i' rs' ≡ none → counts_agree r (entries rs) ≡ true) → Joins opened i (r ∷ rs) opened i' rs' low
      joins_agreed agree = joined low (λ h. counts-header ∙ rw (agree h) (b.wrong h))

      pub joins_differing : (fault_from opened i' rs' ≡ none → counts_agree r (entries rs) ≡ false) → Joins opened i (r ∷ rs) opened i' rs' (Some i)
      joins_differing differ = joined (Some i) (λ h. counts-header ∙ rw (differ h))

      -- at open level 0 it is the header of a layer
      pub header-layers : opened ≡ 0 → layers_from 0 i (r ∷ rs) ≡ record { header = i; body = layer_body 0 rs } ∷ layers_from 0 i' rs'
      header-layers z = rw (is, deep, z) (ap (λ (ls : List Layer). record { header = i; body = layer_body 0 rs } ∷ ls) (b.layers (omega arith)))

      pub header_counted : (kind : ℕ) → count_under opened kind (entries (r ∷ rs)) ≡ cond (eqb (count_index r.kind) kind) 1 0 + count_under opened kind (entries rs')
      header_counted kind = one_counted kind ∙ ap (λ (x : ℕ). cond (eqb (count_index r.kind) kind) 1 0 + x) (ap (count_under opened kind) behind-header ∙ b.deeper opened kind (omega arith))
