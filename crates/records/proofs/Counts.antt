-- The ten counts of a header and their total, in the code's own words. Assumes nothing.
use mathlib.Core.Path.{◌≡◌, refl, ap, sym, ◌∙◌}
use mathlib.Core.Bool.{Bool, true, false, ◌&&◌, and_comm}
use mathlib.Core.List.{List}
use Prim.Native.Nat.{ℕ, zero, suc, ◌+◌, ◌*◌, ◌≤◌, ◌<◌}
use native.Mathlib.Nat.{add_comm, pow-le-pow_right}
use native.Mathlib.Numerals.{add-one}
use native.Mathlib.Omega.{arith}
use borrow.Author.Tests.{eq-eqb, ne_eqb, ltb-true, ltb-false}
use lib.Dec.{eqb, ltb}
use lib.ListN.{length, get_or}
use mir.Syntax.{w64}
use mir.Val.{Fits}
use Rattle.format.specs.Column.{number_of}
use Rattle.format.specs.Layout.{find, number_at, header}
use Rattle.format.specs.Record.{count_name, count_in}
use Rattle.format.specs.Judge.{sum, all}
use Rattle.columns.specs.InRecord.{number_in}
use Rattle.records.specs.Entry.{count_start, count_width, stated_count, states_count, states_counts}
use Rattle.columns.proofs.Laws.{column-at-inside}
use Rattle.columns.proofs.NumberIn.{number_in_below}
use Rattle.records.proofs.Numbers.{stated}

-- ---- where the ten counts stand

nine : (kind : ℕ) → kind < 9 → (23 + kind * 5 ≡ count_start kind) × (5 ≡ count_width kind)
unfolding count_start count_width count_name find header
nine zero h = (refl, refl)
nine (suc zero) h = (refl, refl)
nine (suc (suc zero)) h = (refl, refl)
nine (suc (suc (suc zero))) h = (refl, refl)
nine (suc (suc (suc (suc zero)))) h = (refl, refl)
nine (suc (suc (suc (suc (suc zero))))) h = (refl, refl)
nine (suc (suc (suc (suc (suc (suc zero)))))) h = (refl, refl)
nine (suc (suc (suc (suc (suc (suc (suc zero))))))) h = (refl, refl)
nine (suc (suc (suc (suc (suc (suc (suc (suc zero)))))))) h = (refl, refl)
nine (suc (suc (suc (suc (suc (suc (suc (suc (suc k))))))))) h = absurd (omega arith)

tenth : (kind : ℕ) → 9 ≤ kind → kind ≤ 9 → (68 ≡ count_start kind) × (1 ≡ count_width kind)
unfolding count_start count_width count_name find header
tenth kind h k = let n : kind ≡ 9 = omega arith in rw n (refl, refl)

beyond : (kind : ℕ) → 10 ≤ kind → (0 ≡ count_start kind) × (0 ≡ count_width kind)
unfolding count_start count_width count_name find header
beyond zero h = absurd (omega arith)
beyond (suc zero) h = absurd (omega arith)
beyond (suc (suc zero)) h = absurd (omega arith)
beyond (suc (suc (suc zero))) h = absurd (omega arith)
beyond (suc (suc (suc (suc zero)))) h = absurd (omega arith)
beyond (suc (suc (suc (suc (suc zero))))) h = absurd (omega arith)
beyond (suc (suc (suc (suc (suc (suc zero)))))) h = absurd (omega arith)
beyond (suc (suc (suc (suc (suc (suc (suc zero))))))) h = absurd (omega arith)
beyond (suc (suc (suc (suc (suc (suc (suc (suc zero)))))))) h = absurd (omega arith)
beyond (suc (suc (suc (suc (suc (suc (suc (suc (suc zero))))))))) h = absurd (omega arith)
beyond (suc (suc (suc (suc (suc (suc (suc (suc (suc (suc k)))))))))) h = (refl, refl)

module _ (kind : ℕ) where
  pub nine_start : kind < 9 → 23 + kind * 5 ≡ count_start kind
  nine_start h = (nine kind h).0

  pub nine_width : kind < 9 → 5 ≡ count_width kind
  nine_width h = (nine kind h).1

  pub grid-start : 9 ≤ kind → kind ≤ 9 → 68 ≡ count_start kind
  grid-start h k = (tenth kind h k).0

  pub grid-width : 9 ≤ kind → kind ≤ 9 → 1 ≡ count_width kind
  grid-width h k = (tenth kind h k).1

  pub own-start : kind ≡ 9 → 68 ≡ count_start kind
  own-start e = grid-start (omega arith) (omega arith)

  pub own-width : kind ≡ 9 → 1 ≡ count_width kind
  own-width e = grid-width (omega arith) (omega arith)

  pub no_start : 9 ≤ kind → (kind ≡ 9 → ⊥) → 0 ≡ count_start kind
  no_start h k = (beyond kind (omega arith)).0

  pub no_width : 9 ≤ kind → (kind ≡ 9 → ⊥) → 0 ≡ count_width kind
  no_width h k = (beyond kind (omega arith)).1

  -- inside the record
  pub count_place : kind ≤ 9 → (count_start kind + count_width kind ≤ 84) × (1 ≤ count_width kind) × (count_width kind ≤ 5)
  count_place h = go (ltb kind 9) refl
    where
      go : (t : Bool) → ltb kind 9 ≡ t → (count_start kind + count_width kind ≤ 84) × (1 ≤ count_width kind) × (count_width kind ≤ 5)
      go true e = let p = nine kind (ltb-true kind 9 e) in let l : kind < 9 = ltb-true kind 9 e in (omega (arith, p.0, p.1), omega (arith, p.1), omega (arith, p.1))
      go false e = let p = tenth kind (ltb-false kind 9 e) h in (omega (arith, p.0, p.1), omega (arith, p.1), omega (arith, p.1))

  inside : (count_start kind + count_width kind ≤ 84) × (count_width kind ≤ 5)
  inside = go (ltb kind 10) refl
    where
      go : (t : Bool) → ltb kind 10 ≡ t → (count_start kind + count_width kind ≤ 84) × (count_width kind ≤ 5)
      go true e = let h : kind ≤ 9 = omega (arith, ltb-true kind 10 e) in ((count_place h).0, (count_place h).2)
      go false e = let p = beyond kind (ltb-false kind 10 e) in (omega (arith, p.0, p.1), omega (arith, p.1))

-- ---- `stated_count`

pub states_none : (l : List ℕ) (kind : ℕ) → (length l ≡ 84 → ⊥) → 0 ≡ stated_count l kind
unfolding stated_count
states_none l kind h = rw (ne_eqb (length l) 84 h)

module _ (l : List ℕ) (kind r : ℕ) (whole : length l ≡ 84) where
  count-there : number_in l (count_start kind) (count_width kind) ≡ count_in l kind
  unfolding number_in number_at count_start count_width
  count-there = ap number_of (column-at-inside l (count_start kind) (count_width kind) (omega (arith, (inside kind).0)) (omega (arith, (inside kind).1)))

  -- a record's count is that of the header's column, and small
  pub count_read : r ≡ stated_count l kind → r ≡ count_in l kind
  unfolding stated_count
  count_read e = rw (eq-eqb (length l) 84 whole) at e

  pub count_small : r ≡ stated_count l kind → r < 100000
  count_small e = omega (arith, count_read e, count-there, number_in_below l (count_start kind) (count_width kind), pow-le-pow_right {n = 10} (omega arith) {i = count_width kind} {j = 5} (inside kind).1)

  module _ (start width : ℕ) (s : start ≡ count_start kind) (w : width ≡ count_width kind) where
    pub count-stated : r ≡ number_in l start width → r ≡ stated_count l kind
    unfolding stated_count
    count-stated e = rw (eq-eqb (length l) 84 whole) ((rw (s, w) at e) ∙ count-there)

pub total-stated : (l : List ℕ) → length l ≡ 84 → number_in l 18 5 ≡ number_at header "total" l
unfolding find header
total-stated l whole = stated l whole header "total" 18 5 _ refl refl

-- ---- `counts_agree`

sum_below : (l : List ℕ) (n : ℕ) → length l ≡ 84 → n ≤ 10 → sum n (count_in l) ≤ n * 100000
sum_below l zero whole h = omega arith
sum_below l (suc n) whole h = omega (arith, count_small l n (count_in l n) whole (sym (count_read l n (stated_count l n) whole refl)), sum_below l n whole (omega arith))

pub no_record : (l tally : List ℕ) → (length l ≡ 84 → ⊥) → false ≡ states_counts l tally
unfolding states_counts
no_record l tally h = rw (ne_eqb (length l) 84 h)

module _ (l tally : List ℕ) (whole : length l ≡ 84) (agree : Bool) (s kind r : ℕ) where
  module _ (c : r ≡ stated_count l kind) where
    pub sum_fits : s ≡ sum kind (count_in l) → kind < 10 → Fits w64 (s + r)
    sum_fits e h = record { fits = omega (arith, sum_below l kind whole (omega arith), count_small l kind r whole c) }

    pub next_agrees : agree ≡ all kind (states_count l tally) → agree && eqb r (get_or tally kind 0) ≡ all (kind + 1) (states_count l tally)
    next_agrees e = rw (add-one kind, e, count_read l kind r whole c) (and_comm (all kind (states_count l tally)) (states_count l tally kind))

    pub next-sum : s ≡ sum kind (count_in l) → s + r ≡ sum (kind + 1) (count_in l)
    next-sum e = rw (add-one kind, e, count_read l kind r whole c) (add_comm (sum kind (count_in l)) (count_in l kind))

  pub all_agree : agree ≡ all kind (states_count l tally) → s ≡ sum kind (count_in l) → kind ≤ 10 → 10 ≤ kind → r ≡ number_in l 18 5 → agree && eqb r s ≡ states_counts l tally
  unfolding states_counts
  all_agree e q h k c =
      let n : kind ≡ 10 = omega arith in
      let t : r ≡ number_at header "total" l = c ∙ total-stated l whole in
      rw (eq-eqb (length l) 84 whole, e, q, n, t)

-- ---- what each function of the code stands on

pub ruleset start_laws = (nine_start, own-start, no_start)

pub ruleset width_laws = (nine_width, own-width, no_width)

pub ruleset count_laws = (states_none, count-stated)

pub ruleset agree_laws = (no_record, sum_fits, next_agrees, next-sum, all_agree)
