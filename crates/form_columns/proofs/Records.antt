-- Data records, for callers: what the code answers of a record's columns in its buffer is the fault that the record's layout gives. Assumes nothing.
use mathlib.Core.Path.{◌≡◌, refl, ap, sym, ◌∙◌}
use mathlib.Core.Bool.{Bool, true, false, cond}
use mathlib.Core.List.{List, [], ◌∷◌}
use Prim.Native.Nat.{ℕ, zero, suc, ◌+◌, ◌-◌, ◌*◌, ◌≤◌, ◌<◌}
use native.Mathlib.Nat.{zero-add, suc-add, mul-suc, lt-mul-div-succ}
use native.Mathlib.Omega.{arith}
use borrow.Author.Tests.{le-leb}
use lib.ListN.{length, take, drop}
use lib.Seq.{take-nil, take_all, take-take, drop-drop}
use Rattle.format.specs.Basics.{first, unless, round_up}
use Rattle.format.specs.Layout.{any_sign, Col, I, column, all_formed, all_inside, column_fault, data_3d, data_2d, data_grid, data_net}
use Rattle.format.specs.Record.{points_3d, points_2d, triangles, heights, used_in, data_columns, data_fault}
use Rattle.format.proofs.Basics.{first_alone}
use Rattle.form_columns.specs.Columns.{each_formed, columns_formed}

-- ---- layouts of twelve integers of any sign

-- columns by the names of these, each I7 of any sign, the first from `at` and the others each where the one before it ends
abbrev pub sevens : ℕ → List Col → List Col
sevens at [] = []
sevens at (c ∷ cs) = I c.name at 7 any_sign ∷ sevens (at + 7) cs

-- a layout of twelve such columns
abbrev pub Twelve : List Col → Type 0
Twelve layout = (layout ≡ sevens 0 layout) × (length layout ≡ 12)

pub twelve_3d : Twelve data_3d
unfolding data_3d
twelve_3d = (refl, refl)

pub twelve_2d : Twelve data_2d
unfolding data_2d
twelve_2d = (refl, refl)

pub twelve-grid : Twelve data_grid
unfolding data_grid
twelve-grid = (refl, refl)

pub twelve-net : Twelve data_net
unfolding data_net
twelve-net = (refl, refl)

-- ---- the first n columns of such a layout: 5 where one is malformed; they have no range

formed_sevens : (n at : ℕ) (cs : List Col) (r : List ℕ) → n ≤ length cs → all_formed (take n (sevens at cs)) r ≡ each_formed n (drop at r)
unfolding all_formed each_formed column
formed_sevens zero at cs r h = refl
formed_sevens (suc n) at [] r h = absurd (omega arith)
formed_sevens (suc n) at (c ∷ cs) r h = rw (formed_sevens n (at + 7) cs r (omega arith), drop-drop 7 at r)

inside_sevens : (n at : ℕ) (cs : List Col) (r : List ℕ) → all_inside (take n (sevens at cs)) r ≡ true
unfolding all_inside
inside_sevens zero at cs r = refl
inside_sevens (suc n) at [] r = refl
inside_sevens (suc n) at (c ∷ cs) r = inside_sevens n (at + 7) cs r

column_fault_sevens : (n : ℕ) (cs : List Col) (r : List ℕ) → n ≤ length cs → column_fault (take n (sevens 0 cs)) r ≡ cond (each_formed n r) 0 5
unfolding column_fault
column_fault_sevens n cs r h = rw (formed_sevens n 0 cs r h, inside_sevens n 0 cs r) (first_alone (unless (each_formed n r) 5) ∙ five (each_formed n r))
  where
    five : (t : Bool) → unless t 5 ≡ cond t 0 5
    five true = refl
    five false = refl

-- a data record holds no more points or heights than there is room for
pub used-at-most : (each count n : ℕ) → 1 ≤ each → used_in each count n ≤ each
used-at-most each count (suc n) h = omega arith
used-at-most each count zero h = go (round_up count each) (lt-mul-div-succ (count + (each - 1)) h)
  where
    go : (q : ℕ) → count + (each - 1) < each * (q + 1) → count - each * (q - 1) ≤ each
    go zero k = omega (arith, mul-suc each 0)
    go (suc q) k =
        let e : suc q - 1 ≡ q = omega arith in
        rw e (omega (arith, mul-suc each q, mul-suc each (suc q)))

-- ---- a record of 84 bytes from `start` of a buffer

drop-take : (m n : ℕ) (l : List ℕ) → drop m (take (m + n) l) ≡ take n (drop m l)
drop-take zero n l = ap (λ (k : ℕ). take k l) (zero-add n)
drop-take (suc m) n [] = rw (suc-add, take-nil n)
drop-take (suc m) n (b ∷ bs) = rw (suc-add m n) (drop-take m n bs)

in_front : (n size : ℕ) (l : List ℕ) → n * 7 ≤ size → each_formed n (take size l) ≡ each_formed n l
unfolding each_formed
in_front zero size l h = refl
in_front (suc n) size l h =
    let e : size ≡ 7 + (size - 7) = omega arith in
    rw (take-take 7 size l (omega arith), e, drop-take 7 (size - 7) l, in_front n (size - 7) (drop 7 l) (omega arith))

-- a record that is all of the bytes starts them
pub alone : (r : List ℕ) → length r ≡ 84 → r ≡ take 84 (drop 0 r)
alone r h = sym (take_all 84 r (omega arith))

-- r is the record from `start` of some bytes
module _ (r bytes : List ℕ) (start : ℕ) (here : r ≡ take 84 (drop start bytes)) (whole : start + 84 ≤ length bytes) where
  in_record : (n : ℕ) → n ≤ 12 → each_formed n r ≡ columns_formed bytes start n
  unfolding columns_formed
  in_record n h =
      rw here (simp (le-leb (start + n * 7) (length bytes) (omega arith)) (in_front n 84 (drop start bytes) (omega arith)))

  -- the first n columns of a layout of twelve: whether they are well formed, and their fault
  pub formed_in_record : (layout : List Col) (n : ℕ) → Twelve layout → n ≤ 12 → all_formed (take n layout) r ≡ columns_formed bytes start n
  formed_in_record layout n t h = rw t.0 (formed_sevens n 0 layout r (omega arith)) ∙ in_record n h

  pub column_fault_in_record : (layout : List Col) (n : ℕ) → Twelve layout → n ≤ 12 → column_fault (take n layout) r ≡ cond (columns_formed bytes start n) 0 5
  column_fault_in_record layout n t h =
      rw t.0 (column_fault_sevens n layout r (omega arith)) ∙ ap (λ (x : Bool). cond x 0 5) (in_record n h)

  -- the fault of a data record: of points in 3D, points in 2D, triangles, heights. None of them has a rule beside its columns
  no_rule : (layout : List Col) (n : ℕ) → Twelve layout → n ≤ 12 → first (column_fault (take n layout) r) 0 ≡ cond (columns_formed bytes start n) 0 5
  no_rule layout n t h = first_alone (column_fault (take n layout) r) ∙ column_fault_in_record layout n t h

  pub column_fault_3d : (count n : ℕ) → data_fault (points_3d count) n r ≡ cond (columns_formed bytes start (3 * used_in 4 count n)) 0 5
  unfolding data_fault data_columns
  column_fault_3d count n = no_rule data_3d (3 * used_in 4 count n) twelve_3d (omega (arith, used-at-most 4 count n (omega arith)))

  pub column_fault_2d : (count n : ℕ) → data_fault (points_2d count) n r ≡ cond (columns_formed bytes start (2 * used_in 6 count n)) 0 5
  unfolding data_fault data_columns
  column_fault_2d count n = no_rule data_2d (2 * used_in 6 count n) twelve_2d (omega (arith, used-at-most 6 count n (omega arith)))

  pub column_fault-net : (count n : ℕ) → data_fault (triangles count) n r ≡ cond (columns_formed bytes start (3 * used_in 4 (3 * count) n)) 0 5
  unfolding data_fault data_columns
  column_fault-net count n = no_rule data_net (3 * used_in 4 (3 * count) n) twelve-net (omega (arith, used-at-most 4 (3 * count) n (omega arith)))

  pub column_fault-grid : (count n : ℕ) → data_fault (heights count) n r ≡ cond (columns_formed bytes start (used_in 12 count n)) 0 5
  unfolding data_fault data_columns
  column_fault-grid count n = no_rule data_grid (used_in 12 count n) twelve-grid (used-at-most 12 count n (omega arith))
