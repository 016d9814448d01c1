-- The numbers of a layout's table are the least and the greatest that its columns may hold, where they may hold a number. Assumes nothing.
use mathlib.Core.Path.{◌≡◌, sym, ◌∙◌}
use mathlib.Core.Bool.{Bool, true, false, cond, ◌&&◌, false≢true}
use mathlib.Core.List.{List, [], ◌∷◌, map}
use Prim.Native.Nat.{ℕ, zero, suc, ◌-◌, ◌^◌, ◌≤◌}
use native.Mathlib.Omega.{arith}
use borrow.Author.Tests.{leb-true}
use lib.Dec.{leb}
use lib.IntN.{ℤ, pos}
use lib.Signed.{le_z}
use Rattle.format.specs.Basics.{minus}
use Rattle.format.specs.Column.{fits}
use Rattle.format.specs.Layout.{Rule, any_sign, at_least, range, within, one_of, is_one, inside, Col}
use Rattle.format.proofs.Basics.{and-true}
use Rattle.format.proofs.ColumnFits.{fits-range, size-range}
use Rattle.layouts.specs.declared.TableColumn.{TableColumn}
use Rattle.layouts.specs.Tables.{tabled, is_numeric, low, high, rule_of, Least, Greatest, LeastEach, least-none, least_more, GreatestEach, greatest-none, greatest-more, table_of, Table}
use Rattle.layouts.proofs.Ranges.{list-between}

-- what a width of 1 to 18 holds lies between two numbers
module _ (w : ℕ) (z : ℤ) (h : 1 ≤ w) (k : w ≤ 18) (e : fits w z ≡ true) where
  between : (le_z (minus (10 ^ (w - 1) - 1)) z ≡ true) × (le_z z (pos (10 ^ w - 1)) ≡ true)
  between = go w h k e
    where
      go : (w : ℕ) → 1 ≤ w → w ≤ 18 → fits w z ≡ true → (le_z (minus (10 ^ (w - 1) - 1)) z ≡ true) × (le_z z (pos (10 ^ w - 1)) ≡ true)
      go zero h k e = absurd (omega arith)
      go (suc v) h k e =
          let q : suc v - 1 ≡ v = omega arith in
          rw q (and-true (le_z (minus (10 ^ v - 1)) z) (le_z z (pos (10 ^ suc v - 1))) (sym (fits-range v z (omega arith)) ∙ e))

  not-below : (rule : Rule) → inside rule z ≡ true → le_z (low rule w) z ≡ true
  not-below any_sign i = between.0
  not-below (at_least n) i = i
  not-below (range n m) i = (and-true (le_z (pos n) z) (le_z z (pos m)) i).0
  not-below (within n) i = (and-true (le_z (minus n) z) (le_z z (pos n)) (size-range n z ∙ i)).0
  not-below (one_of ns) i = (and-true _ _ (sym (list-between z (10 ^ w - 1) ns) ∙ i)).0

  not_above : (rule : Rule) → inside rule z ≡ true → le_z z (high rule w) ≡ true
  not_above any_sign i = between.1
  not_above (at_least n) i = between.1
  not_above (range n m) i = (and-true (le_z (pos n) z) (le_z z (pos m)) i).1
  not_above (within n) i = (and-true (le_z (minus n) z) (le_z z (pos n)) (size-range n z ∙ i)).1
  not_above (one_of ns) i = (and-true (le_z z (high (one_of ns) w)) (is_one z ns) (and-true (le_z (low (one_of ns) w) z) (le_z z (high (one_of ns) w) && is_one z ns) (sym (list-between z (10 ^ w - 1) ns) ∙ i)).1).0

-- the number is one that the column may hold
abbrev pub holds : Col → ℤ → Bool
holds c z = (leb 1 c.width && leb c.width 18) && (fits c.width z && inside (rule_of c.what) z)

abbrev Holds : Col → ℤ → Type 0
Holds c z = ((1 ≤ c.width) × (c.width ≤ 18)) × ((fits c.width z ≡ true) × (inside (rule_of c.what) z ≡ true))

holds_by : (c : Col) (z : ℤ) → holds c z ≡ true → Holds c z
holds_by c z h =
    let a = and-true (leb 1 c.width && leb c.width 18) (fits c.width z && inside (rule_of c.what) z) h in
    let b = and-true (leb 1 c.width) (leb c.width 18) a.0 in
    ((leb-true 1 c.width b.0, leb-true c.width 18 b.1), and-true (fits c.width z) (inside (rule_of c.what) z) a.1)

abbrev pub hold_limits : List Col → Bool
hold_limits [] = true
hold_limits (c ∷ cs) = cond (is_numeric c.what) (holds c (low (rule_of c.what) c.width) && holds c (high (rule_of c.what) c.width)) true && hold_limits cs

-- of one column: it may hold both of its limits, and no number that it may hold lies outside them
module _ (c : Col) where
  least : (t : Bool) → cond t (holds c (low (rule_of c.what) c.width) && holds c (high (rule_of c.what) c.width)) true ≡ true → t ≡ true → Least (rule_of c.what) c.width (cond t (low (rule_of c.what) c.width) (pos 0))
  least true h e =
      let a = and-true (holds c (low (rule_of c.what) c.width)) (holds c (high (rule_of c.what) c.width)) h in
      let b = holds_by c (low (rule_of c.what) c.width) a.0 in
      record { fits_width = b.1.0; allowed = b.1.1; none_less = λ z e i. not-below c.width z b.0.0 b.0.1 e (rule_of c.what) i }
  least false h e = absurd (false≢true e)

  greatest : (t : Bool) → cond t (holds c (low (rule_of c.what) c.width) && holds c (high (rule_of c.what) c.width)) true ≡ true → t ≡ true → Greatest (rule_of c.what) c.width (cond t (high (rule_of c.what) c.width) (pos 0))
  greatest true h e =
      let a = and-true (holds c (low (rule_of c.what) c.width)) (holds c (high (rule_of c.what) c.width)) h in
      let b = holds_by c (high (rule_of c.what) c.width) a.1 in
      record { fits_width = b.1.0; allowed = b.1.1; none_greater = λ z e i. not_above c.width z b.0.0 b.0.1 e (rule_of c.what) i }
  greatest false h e = absurd (false≢true e)

abbrev one : Col → Bool
one c = cond (is_numeric c.what) (holds c (low (rule_of c.what) c.width) && holds c (high (rule_of c.what) c.width)) true

least_each : (cs : List Col) → hold_limits cs ≡ true → LeastEach cs (map (λ (c : TableColumn). c.low) (table_of cs))
unfolding table_of
least_each [] h = least-none
least_each (c ∷ cs) h = let a = and-true (one c) (hold_limits cs) h in least_more (least c (is_numeric c.what) a.0) (least_each cs a.1)

greatest_each : (cs : List Col) → hold_limits cs ≡ true → GreatestEach cs (map (λ (c : TableColumn). c.high) (table_of cs))
unfolding table_of
greatest_each [] h = greatest-none
greatest_each (c ∷ cs) h = let a = and-true (one c) (hold_limits cs) h in greatest-more (greatest c (is_numeric c.what) a.0) (greatest_each cs a.1)

-- a layout's table; that each of its numbers is one that its column may hold is computed
pub table : (layout : List Col) (l : List TableColumn) → l ≡ table_of (tabled layout) → hold_limits (tabled layout) ≡ true → Table layout l
table layout l e h = record { are = e; least = rw e (least_each (tabled layout) h); greatest = rw e (greatest_each (tabled layout) h) }
