-- What a walk has seen of what stands before a place: format's folds over the records up to the place, a record at a time. Assumes nothing.
use mathlib.Core.Path.{◌≡◌, refl, sym, ap, ◌∙◌}
use mathlib.Core.Bool.{Bool, true, false, cond}
use mathlib.Core.List.{List, [], ◌∷◌}
use Prim.Native.Nat.{ℕ, suc, ◌+◌, ◌-◌, ◌≤◌, ◌<◌}
use native.Mathlib.Omega.{arith}
use native.Mathlib.Numerals.{add-one}
use borrow.Author.Tests.{ltb-true, ltb-false, lt-ltb, le-ltb, eqb-true, eqb-false}
use lib.Dec.{eqb, ltb}
use lib.ListN.{length, get_or, set}
use lib.Seq.{get_or-set_same, get_or-set_other}
use Rattle.format.specs.Record.{View}
use Rattle.format.specs.Judge.{due_after, is_header_at}
use Rattle.format.specs.Edit.{last_header}
use Rattle.format.specs.Above.{last_start}
use Rattle.judge.specs.Walks.{up_to, last_before}

-- ---- the records up to the place, which stands behind `before` of the file's
up_more : (before i : ℕ) (r : View) (rs : List View) → i ≤ before → up_to before i (r ∷ rs) ≡ r ∷ up_to before (suc i) rs
up_more before i r rs h = let e : suc before - i ≡ suc (suc before - suc i) = omega arith in rw e

up_none : (before i : ℕ) (rs : List View) → before < i → up_to before i rs ≡ []
up_none before i rs h = let e : suc before - i ≡ 0 = omega arith in rw e

-- either the first of them stands before the place, or none does
data Up (before i : ℕ) : Type 0 where
  inside : i ≤ before → Up before i
  behind : before < i → Up before i

up : (before i : ℕ) → Up before i
up before i = go (ltb before i) refl
  where
    go : (t : Bool) → ltb before i ≡ t → Up before i
    go true e = behind (ltb-true before i e)
    go false e = inside (ltb-false before i e)

-- ---- a data record is passed over
pub start_data : (before i due latest : ℕ) (r : View) (rs : List View) → last_start (suc due) i latest (up_to before i (r ∷ rs)) ≡ last_start due (suc i) latest (up_to before (suc i) rs)
start_data before i due latest r rs = go (up before i)
  where
    go : Up before i → last_start (suc due) i latest (up_to before i (r ∷ rs)) ≡ last_start due (suc i) latest (up_to before (suc i) rs)
    go (inside h) = ap (last_start (suc due) i latest) (up_more before i r rs h)
    go (behind h) = ap (last_start (suc due) i latest) (up_none before i (r ∷ rs) h) ∙ sym (ap (last_start due (suc i) latest) (up_none before (suc i) rs (omega arith)))

pub header_data : (before i level due latest : ℕ) (r : View) (rs : List View) → last_header level (suc due) i latest (up_to before i (r ∷ rs)) ≡ last_header level due (suc i) latest (up_to before (suc i) rs)
header_data before i level due latest r rs = go (up before i)
  where
    go : Up before i → last_header level (suc due) i latest (up_to before i (r ∷ rs)) ≡ last_header level due (suc i) latest (up_to before (suc i) rs)
    go (inside h) = ap (last_header level (suc due) i latest) (up_more before i r rs h)
    go (behind h) = ap (last_header level (suc due) i latest) (up_none before i (r ∷ rs) h) ∙ sym (ap (last_header level due (suc i) latest) (up_none before (suc i) rs (omega arith)))

-- ---- record k, where a header or an item is due
pub number-before : (k before latest : ℕ) → k < before → k + 1 ≡ last_before k before latest
unfolding last_before
number-before k before latest h = rw (lt-ltb k before h) (add-one k)

pub number_behind : (k before latest : ℕ) → before ≤ k → latest ≡ last_before k before latest
unfolding last_before
number_behind k before latest h = rw (le-ltb k before h)

module _ (before k : ℕ) (r : View) (rs : List View) where
  -- the number that counts from here on
  inside-number : (latest : ℕ) → suc k ≤ before → last_before k before latest ≡ suc k
  inside-number latest h = sym (number-before k before latest h) ∙ omega arith

  behind-number : (latest : ℕ) → before < suc k → last_before k before latest ≡ latest
  behind-number latest h = sym (number_behind k before latest (omega arith))

  pub start-step : (latest : ℕ) → last_start 0 (suc k) latest (up_to before (suc k) (r ∷ rs)) ≡ last_start (due_after 0 r) (suc (suc k)) (last_before k before latest) (up_to before (suc (suc k)) rs)
  start-step latest = go (up before (suc k))
    where
      go : Up before (suc k) → last_start 0 (suc k) latest (up_to before (suc k) (r ∷ rs)) ≡ last_start (due_after 0 r) (suc (suc k)) (last_before k before latest) (up_to before (suc (suc k)) rs)
      go (inside h) = ap (last_start 0 (suc k) latest) (up_more before (suc k) r rs h) ∙ sym (rw (inside-number latest h))
      go (behind h) = ap (last_start 0 (suc k) latest) (up_none before (suc k) (r ∷ rs) h) ∙ sym (behind-number latest h) ∙ sym (ap (last_start (due_after 0 r) (suc (suc k)) (last_before k before latest)) (up_none before (suc (suc k)) rs (omega arith)))

  pub header-step : (level latest : ℕ) → last_header level 0 (suc k) latest (up_to before (suc k) (r ∷ rs)) ≡ last_header level (due_after 0 r) (suc (suc k)) (cond (is_header_at level r) (last_before k before latest) latest) (up_to before (suc (suc k)) rs)
  header-step level latest = go (up before (suc k))
    where
      same : (t : Bool) → cond t latest latest ≡ latest
      same true = refl
      same false = refl

      go : Up before (suc k) → last_header level 0 (suc k) latest (up_to before (suc k) (r ∷ rs)) ≡ last_header level (due_after 0 r) (suc (suc k)) (cond (is_header_at level r) (last_before k before latest) latest) (up_to before (suc (suc k)) rs)
      go (inside h) = ap (last_header level 0 (suc k) latest) (up_more before (suc k) r rs h) ∙ sym (rw (inside-number latest h))
      go (behind h) =
          ap (last_header level 0 (suc k) latest) (up_none before (suc k) (r ∷ rs) h)
          ∙ sym (same (is_header_at level r))
          ∙ sym (ap (λ (n : ℕ). cond (is_header_at level r) n latest) (behind-number latest h))
          ∙ sym (ap (last_header level (due_after 0 r) (suc (suc k)) (cond (is_header_at level r) (last_before k before latest) latest)) (up_none before (suc (suc k)) rs (omega arith)))

-- one number of the headers changed, the others as they were
pub header-set : (headers : List ℕ) (own level : ℕ) (f : ℕ → ℕ) → length headers ≡ 9 → level ≤ 8 → get_or (set headers own (f (get_or headers own 0))) level 0 ≡ cond (eqb own level) (f (get_or headers level 0)) (get_or headers level 0)
header-set headers own level f nine h = go (eqb own level) refl
  where
    go : (t : Bool) → eqb own level ≡ t → get_or (set headers own (f (get_or headers own 0))) level 0 ≡ cond (eqb own level) (f (get_or headers level 0)) (get_or headers level 0)
    go true e = rw (e, eqb-true own level e) (get_or-set_same headers level (f (get_or headers level 0)) 0 (omega arith))
    go false e = rw e (get_or-set_other headers own level (f (get_or headers own 0)) 0 (λ q. eqb-false own level e (sym q)))
