-- Several columns, in the code's own words: two overlapping ends, one column after another, and whether all lie in the bytes. Assumes nothing.
use mathlib.Core.Path.{◌≡◌, refl, ap, sym, ◌∙◌}
use mathlib.Core.Bool.{Bool, true, false, ◌&&◌, and_assoc}
use mathlib.Core.List.{List}
use Prim.Native.Nat.{ℕ, zero, suc, ◌+◌, ◌-◌, ◌*◌, ◌/◌, ◌≤◌, ◌<◌}
use native.Mathlib.Nat.{zero-add, suc-add}
use native.Mathlib.Omega.{arith}
use borrow.Author.Tests.{le-leb, lt-leb, leb-true}
use lib.Dec.{leb}
use lib.ListN.{length, take, drop}
use lib.Seq.{drop-drop}
use Rattle.format.specs.Column.{column_of, formed}
use Rattle.format.specs.Layout.{column}
use Rattle.format.proofs.Basics.{and-true, true_and}
use Rattle.form_columns.specs.Columns.{each_formed, columns_formed, Told}

-- ---- two ends

-- m columns, and n behind them
split : (m n : ℕ) (l : List ℕ) → each_formed (m + n) l ≡ each_formed m l && each_formed n (drop (m * 7) l)
unfolding each_formed
split zero n l = ap (λ (k : ℕ). each_formed k l) (zero-add n)
split (suc m) n l =
    let e : 7 + m * 7 ≡ suc m * 7 = omega arith in
    rw (suc-add, split m n (drop 7 l), drop-drop, e, and_assoc)

-- m columns at the front and m at the end, which may overlap
ends : (l : List ℕ) (m count : ℕ) → m ≤ count → count ≤ m + m → each_formed m l ≡ true → each_formed m (drop ((count - m) * 7) l) ≡ true → each_formed count l ≡ true
ends l m count h k f b =
    let e : m ≡ count - m + (m + m - count) = omega arith in
    let g : count - m + m ≡ count = omega arith in
    let front = (and-true (each_formed (count - m) l) _ (sym (split (count - m) (m + m - count) l) ∙ ap (λ (n : ℕ). each_formed n l) (sym e) ∙ f)).0 in
    ap (λ (n : ℕ). each_formed n l) (sym g) ∙ split (count - m) m l ∙ true_and _ _ front b

all_of : (t : Bool) → t && true ≡ t
all_of true = refl
all_of false = refl

-- ---- `many_formed`: seven at the front and seven at the end are sure, or those of one end

module _ (l : List ℕ) (start count : ℕ) (least : 7 ≤ count) where
  pub both_sure : (front back : Bool) → count ≤ 14 → (front ≡ true → each_formed 7 (drop start l) ≡ true) → (back ≡ true → each_formed 7 (drop (start + (count - 7) * 7) l) ≡ true) → front ≡ true → back ≡ true → true ≡ each_formed count (drop start l)
  both_sure front back k f b e g = sym (ends (drop start l) 7 count least (omega arith) (f e) (rw drop-drop (b g)))

  pub front-sure : (front r : Bool) → (front ≡ true → each_formed 7 (drop start l) ≡ true) → front ≡ true → r ≡ each_formed (count - 7) (drop (start + 49) l) → r ≡ each_formed count (drop start l)
  front-sure front r f e g =
      let n : count ≡ 7 + (count - 7) = omega arith in
      g ∙ sym (ap (λ (m : ℕ). each_formed m (drop start l)) n ∙ split 7 (count - 7) (drop start l) ∙ rw (f e, drop-drop 49 start l) refl)

  pub back-sure : (back r : Bool) → (back ≡ true → each_formed 7 (drop (start + (count - 7) * 7) l) ≡ true) → back ≡ true → r ≡ each_formed (count - 7) (drop start l) → r ≡ each_formed count (drop start l)
  back-sure back r b e g =
      let n : count ≡ count - 7 + 7 = omega arith in
      g ∙ sym (ap (λ (m : ℕ). each_formed m (drop start l)) n ∙ split (count - 7) 7 (drop start l) ∙ rw (drop-drop ((count - 7) * 7) start l, b e) (all_of (each_formed (count - 7) (drop start l))))

-- ---- `few_formed`

pub no_columns : (l : List ℕ) (start count : ℕ) → count ≡ 0 → true ≡ each_formed count (drop start l)
unfolding each_formed
no_columns l start count e = rw e

pub few_are_sure : (l : List ℕ) (start count : ℕ) (r : Bool) → r ≡ true → (r ≡ true → each_formed count (drop start l) ≡ true) → true ≡ each_formed count (drop start l)
few_are_sure l start count r e f = sym (f e)

-- ---- one column after another

pub one_column : (l : List ℕ) (start count column : ℕ) (good r all : Bool) → r ≡ formed (column_of (take 7 (drop (start + column * 7) l))) → column < count → good && each_formed (count - column) (drop (start + column * 7) l) ≡ all → (good && r) && each_formed (count - (column + 1)) (drop (start + (column + 1) * 7) l) ≡ all
unfolding each_formed
one_column l start count column good r all e h k =
    let m : count - column ≡ suc (count - (column + 1)) = omega arith in
    let q : start + (column + 1) * 7 ≡ start + column * 7 + 7 = omega arith in
    rw (q, e, and_assoc, ← drop-drop 7 (start + column * 7) l) (rw m at k)

pub no_column : (l : List ℕ) (start count column : ℕ) (good all : Bool) → count ≤ column → good && each_formed (count - column) (drop (start + column * 7) l) ≡ all → good ≡ all
unfolding each_formed
no_column l start count column good all h k =
    let z : count - column ≡ 0 = omega arith in
    sym (all_of good) ∙ rw z at k

-- ---- column by column

nth_formed : (count : ℕ) (l : List ℕ) → each_formed count l ≡ true → (n : ℕ) → n < count → formed (column_of (take 7 (drop (n * 7) l))) ≡ true
unfolding each_formed
nth_formed zero l e n h = absurd (omega arith)
nth_formed (suc m) l e zero h = (and-true (formed (column_of (take 7 l))) (each_formed m (drop 7 l)) e).0
nth_formed (suc m) l e (suc n) h =
    let k : 7 + n * 7 ≡ suc n * 7 = omega arith in
    rw (← k, ← drop-drop (n * 7) 7 l) (nth_formed m (drop 7 l) (and-true (formed (column_of (take 7 l))) (each_formed m (drop 7 l)) e).1 n (omega arith))

all-formed : (count : ℕ) (l : List ℕ) → ((n : ℕ) → n < count → formed (column_of (take 7 (drop (n * 7) l))) ≡ true) → each_formed count l ≡ true
unfolding each_formed
all-formed zero l f = refl
all-formed (suc m) l f =
    true_and (formed (column_of (take 7 l))) (each_formed m (drop 7 l)) (f 0 (omega arith))
    (all-formed m (drop 7 l) (λ (n : ℕ) (h : n < m).
    let k : 7 + n * 7 ≡ suc n * 7 = omega arith in
    rw (drop-drop (n * 7) 7 l, k) (f (suc n) (omega arith))))

answered : (l : List ℕ) (start count : ℕ) (r : Bool) → r ≡ columns_formed l start count → Told l start count r
unfolding columns_formed column
answered l start count r e =
    record {
      is = e;
      room = λ t. leb-true (start + count * 7) (length l) (parts t).0;
      each = λ t n h. rw (← drop-drop (n * 7) start l) (nth_formed count (drop start l) (parts t).1 n h);
      only = λ h f.
          e ∙ true_and (leb (start + count * 7) (length l)) (each_formed count (drop start l)) (le-leb (start + count * 7) (length l) h)
          (all-formed count (drop start l) (λ (n : ℕ) (k : n < count). rw (drop-drop (n * 7) start l) (f n k)));
    }
  where
    parts : r ≡ true → (leb (start + count * 7) (length l) ≡ true) × (each_formed count (drop start l) ≡ true)
    parts t = and-true (leb (start + count * 7) (length l)) (each_formed count (drop start l)) (sym e ∙ t)

-- ---- whether the columns lie in the bytes

pub starts_outside : (l : List ℕ) (start count : ℕ) → length l < start → Told l start count false
unfolding columns_formed
starts_outside l start count h = answered l start count false (simp (lt-leb (start + count * 7) (length l) (omega arith)))

pub ends_outside : (l : List ℕ) (start count : ℕ) → start ≤ length l → (length l - start) / 7 < count → Told l start count false
unfolding columns_formed
ends_outside l start count h k = answered l start count false (simp (lt-leb (start + count * 7) (length l) (omega arith)))

pub inside : (l : List ℕ) (start count : ℕ) (r : Bool) → r ≡ each_formed count (drop start l) → start ≤ length l → count ≤ (length l - start) / 7 → Told l start count r
unfolding columns_formed
inside l start count r e h k = answered l start count r (e ∙ simp (le-leb (start + count * 7) (length l) (omega arith)))
