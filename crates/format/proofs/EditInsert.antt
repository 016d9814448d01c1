-- An accepted insertion into an accepted sheet gives an accepted sheet. Assumes nothing.
use mathlib.Core.Path.{◌≡◌, refl, ap, sym, ◌∙◌}
use mathlib.Core.Bool.{Bool, true, false, cond, not, ◌&&◌, ◌||◌, false≢true}
use mathlib.Core.List.{List, [], ◌∷◌, ◌++◌}
use Prim.Native.Nat.{ℕ, suc, pred, ◌+◌, ◌≤◌, ◌<◌}
use native.Mathlib.Omega.{arith}
use lib.Dec.{leb, ltb, eqb}
use lib.ListN.{length, get_or, take-append-drop}
use borrow.Author.Tests.{leb-true, eqb-true, eqb-false, eq-eqb, ne_eqb, not-true}
use Rattle.format.specs.Record.{Data, View, is_head, nothing, count_index}
use Rattle.format.specs.Above.{NoHeaderOf}
use Rattle.format.specs.Basics.{Fault, fault, fine, first, none, unless}
use Rattle.format.specs.Judge.{File, headers_and_items, walk}
use Rattle.format.specs.Edit.{above_in, after, before, absent, fault12, insert13, insert14, insert15, fault14, is_block, fault13, not_below, insert11, insert_fault, due_behind, open_behind, body_place}
use Rattle.format.proofs.EditViews.{change, more, put}
use Rattle.format.proofs.Basics.{and-true, first_zero, unless_zero}
use lib.Seq.{get_or-append_seam}
use Rattle.format.proofs.JudgeWalks.{sort, Passes, good, due_behind-append, walk-passes, passes-split}
use Rattle.format.proofs.JudgeCounts.{OneMore, Agree, counted_at, sum_ge}
use Rattle.format.proofs.Above.{data_records-head, Split, find_in, last_header-split, alter_at_lem}
use Rattle.format.proofs.EditItems.{Alike, headers_and_items_pre, low_block, grow_counted, grow_items, grow_passes, grow_due_behind}
use Rattle.format.proofs.JudgeAccepted.{Ok}

pub fine-none : (x : Fault) → fine x ≡ true → x ≡ none
fine-none none e = refl
fine-none (fault n r) e = absurd (false≢true e)

-- a change of the header above, where that header is known
pub change_split : (g : ℕ → View → View) (b : View) (pre : List View) (sp : Split (pred b.level) 0 pre) → change g b pre ≡ sp.front ++ g (count_index b.kind) sp.it ∷ sp.back
change_split g b pre sp = rw (sp.whole, last_header-split (pred b.level) 0 1 0 sp.front sp.it sp.back sp.closed sp.is_head_lem sp.is_level sp.clear, one) (alter_at_lem (g (count_index b.kind)) sp.front sp.it sp.back)
  where
    one : pred (1 + length sp.front) ≡ length sp.front
    one = omega arith

pub back_closed : (L : ℕ) (pre : List View) (sp : Split L 0 pre) → due_behind 0 pre ≡ 0 → due_behind 0 sp.back ≡ 0
back_closed L pre sp e = rw (sp.whole, due_behind-append 0 sp.front (sp.it ∷ sp.back), sp.closed, data_records-head sp.it sp.is_head_lem) at e

-- the search finds it
pub above_is : (l : ℕ) (pre : List View) (sp : Split (pred l) 0 pre) → get_or pre (pred (above_in l pre)) absent ≡ sp.it
above_is l pre sp = rw (sp.whole, last_header-split (pred l) 0 1 0 sp.front sp.it sp.back sp.closed sp.is_head_lem sp.is_level sp.clear, one) (get_or-append_seam sp.front sp.it sp.back absent)
  where
    one : pred (1 + length sp.front) ≡ length sp.front
    one = omega arith

pub above_good : (L : ℕ) (pre : List View) (sp : Split L 0 pre) → Passes 0 0 nothing pre → sp.it.column_fault ≡ 0
above_good L pre sp p = (good (open_behind 0 0 sp.front) (sort 0 nothing sp.front) sp.it (rw sp.closed at (passes-split 0 0 nothing sp.front (sp.it ∷ sp.back) (rw sp.whole at p)).1).0).sound

pub more_alike : (v : Data → ℕ → ℕ) (j : ℕ) (h : View) → Alike h (more v j h)
more_alike v j h = record { kinds = refl; levels = refl; needs = refl; data_as = refl; flaws = refl; rules = refl }

pub more_one : (v : Data → ℕ → ℕ) (j : ℕ) (h : View) → OneMore j h (more v j h)
more_one v j h = record { kinds = refl; levels = refl; totals = refl; counts = λ k. go k (eqb j k) refl }
  where
    go : (k : ℕ) (t : Bool) → eqb j k ≡ t → cond (eqb k j) (h.count k + 1) (h.count k) ≡ cond (eqb j k) 1 0 + h.count k
    go k true e = rw (e, eq-eqb k j (sym (eqb-true j k e))) (omega arith)
    go k false e = rw (e, ne_eqb k j (λ q. eqb-false j k e (sym q))) (omega arith)

-- nothing stands before 12 to 15, of a block that no 11 refuses
abbrev from13 : (f : File) (tail : List ℕ) (p : ℕ) → List View → ℕ
from13 f tail p block = first (insert13 f p block) (first (insert14 f p block 200000) (insert15 tail block))

-- an empty block is refused
pub empty-refused : (f : File) (tail : List ℕ) (p : ℕ) → insert_fault f p tail [] 200000 ≡ 0 → ⊥
empty-refused f tail p e = omega (arith, (first_zero 12 (from13 f tail p []) (first_zero (insert11 f p) (first 12 (from13 f tail p [])) e).1).0)

-- what an insertion that is not refused has
pub record Fits (pre suf : List View) (b : View) (ds : List View) (n : ℕ) : Type 0 where
  pub closed : due_behind 0 pre ≡ 0
  pub is_item_lem : is_head b.kind ≡ false
  pub passes : Passes 8 0 nothing (b ∷ ds)
  pub whole : length ds ≡ b.data_records
  pub near : b.level ≤ suc (open_behind 0 0 pre)
  pub below : not_below b.level suf ≡ true
  pub total-fits : (get_or pre (pred (above_in b.level pre)) absent).total + 1 ≤ 99999
  pub nine_fits : count_index b.kind ≡ 9 → (get_or pre (pred (above_in b.level pre)) absent).count (count_index b.kind) + 1 ≤ 9
  pub file-fits : n ≤ 200000

pub fits : (f : File) (tail : List ℕ) (p : ℕ) (b : View) (ds : List View) → insert_fault f p tail (b ∷ ds) 200000 ≡ 0 → Fits (before f p) (after f p) b ds (f.part_length + length f.body + length (b ∷ ds))
fits f tail p b ds e = record { closed = eqb-true _ _ a.1; is_item_lem = not-true _ i.0; passes = (walk-passes 8 0 nothing 0 0 (b ∷ ds) (fine-none _ j.0)).0; whole = eqb-true _ _ j.1; near = leb-true _ _ n.0; below = n.1; total-fits = leb-true _ _ u.0; nine_fits = λ e₉. nine_of e₉ u.1; file-fits = leb-true _ _ v.1 }
  where
    x : (insert11 f p ≡ 0) × (first (fault12 (b ∷ ds)) (from13 f tail p (b ∷ ds)) ≡ 0)
    x = first_zero (insert11 f p) _ e

    a : (ltb f.part_length p && leb (body_place f p) (length f.body) ≡ true) × (eqb (due_behind 0 (before f p)) 0 ≡ true)
    a = and-true _ _ (unless_zero _ _ x.0)

    y : (unless (is_block b ds) 12 ≡ 0) × (from13 f tail p (b ∷ ds) ≡ 0)
    y = first_zero (unless (is_block b ds) 12) _ x.1

    i : (not (is_head b.kind) ≡ true) × (fine (walk 8 0 nothing 0 0 (b ∷ ds)) && eqb (length ds) b.data_records ≡ true)
    i = and-true _ _ (unless_zero _ _ y.0)

    j : (fine (walk 8 0 nothing 0 0 (b ∷ ds)) ≡ true) × (eqb (length ds) b.data_records ≡ true)
    j = and-true _ _ i.1

    z : (fault13 (open_behind 0 0 (before f p)) b (after f p) ≡ 0) × (first (insert14 f p (b ∷ ds) 200000) (insert15 tail (b ∷ ds)) ≡ 0)
    z = first_zero (fault13 (open_behind 0 0 (before f p)) b (after f p)) _ y.1

    n : (leb b.level (suc (open_behind 0 0 (before f p))) ≡ true) × (not_below b.level (after f p) ≡ true)
    n = and-true _ _ (unless_zero _ _ z.0)

    h : View
    h = get_or (before f p) (pred (above_in b.level (before f p))) absent

    w : (fault14 h (count_index b.kind) (f.part_length + length f.body + length (b ∷ ds)) 200000 ≡ 0) × (insert15 tail (b ∷ ds) ≡ 0)
    w = first_zero (fault14 h (count_index b.kind) (f.part_length + length f.body + length (b ∷ ds)) 200000) _ z.1

    v : (leb (h.total + 1) 99999 && (not (eqb (count_index b.kind) 9) || leb (h.count (count_index b.kind) + 1) 9) ≡ true) × (leb (f.part_length + length f.body + length (b ∷ ds)) 200000 ≡ true)
    v = and-true _ _ (unless_zero _ _ w.0)

    u : (leb (h.total + 1) 99999 ≡ true) × (not (eqb (count_index b.kind) 9) || leb (h.count (count_index b.kind) + 1) 9 ≡ true)
    u = and-true _ _ v.0

    nine_of : count_index b.kind ≡ 9 → not (eqb (count_index b.kind) 9) || leb (h.count (count_index b.kind) + 1) 9 ≡ true → h.count (count_index b.kind) + 1 ≤ 9
    nine_of e₉ o = leb-true _ _ (rw (eq-eqb (count_index b.kind) 9 e₉) at o)

module _ (f : File) (p : ℕ) (b : View) (ds : List View) (k : Ok f) (t : Fits (before f p) (after f p) b ds (f.part_length + length f.body + length (b ∷ ds))) where
  pre : List View
  pre = before f p

  suf : List View
  suf = after f p

  pub passed : Passes 0 0 nothing (before f p)
  passed = (passes-split 0 0 nothing (before f p) (after f p) (rw (take-append-drop (body_place f p) f.body) k.walks.0)).0

  pub sp : Split (pred b.level) 0 (before f p)
  sp = find_in (pred b.level) nothing (before f p) passed (omega (arith, low_block b ds t.is_item_lem t.whole 8 nothing ds t.passes)) (omega (arith, t.near))

  -- the header's own column has room where its total has
  pub above_counts : sp.it.count (count_index b.kind) ≤ sp.it.total
  above_counts = omega (arith, agree.whole, sum_ge 10 sp.it.count (count_index b.kind) (omega (arith, (good 8 nothing b t.passes.0).known)))
    where
      is_old : f.body ≡ sp.front ++ sp.it ∷ sp.back ++ after f p
      is_old = sym (take-append-drop (body_place f p) f.body) ∙ ap (λ (x : List View). x ++ after f p) sp.whole

      agree : Agree sp.it (headers_and_items 0 sp.back ++ headers_and_items 0 (after f p))
      agree = counted_at (headers_and_items 0 sp.front) sp.it _ sp.is_head_lem (rw (is_old, headers_and_items_pre sp.front sp.back sp.closed (back_closed _ _ sp t.closed) sp.it sp.is_head_lem (after f p)) at k.counted)

  pub put_ok : (v : Data → ℕ → ℕ) → Ok (put f p v (b ∷ ds))
  put_ok v = record {
    walks = (rw is_new (grow_passes F h h' B b ds S al m cl_f cl_b hh cl bi bl bn small (rw is_old at k.walks.0) t.passes (rw sp.whole at t.near) t.below), rw is_new (grow_due_behind F h h' B b ds S al m cl_f cl_b hh cl bi bl bn small ∙ (rw is_old at k.walks.1)));
    stated_elements = rw is_new (omega (arith, rw is_old at k.stated_elements, grow_items F h h' B b ds S al m cl_f cl_b hh cl bi bl bn small));
    stated_records = refl;
    counted = rw is_new (grow_counted F h h' B b ds S al m cl_f cl_b hh cl bi bl bn small (rw is_old at k.counted));
  }
    where
      F : List View
      F = sp.front

      h : View
      h = sp.it

      B : List View
      B = sp.back

      S : List View
      S = after f p

      h' : View
      h' = more v (count_index b.kind) h

      al : Alike h h'
      al = more_alike v _ h

      m : OneMore (count_index b.kind) h h'
      m = more_one v _ h

      cl_f : due_behind 0 F ≡ 0
      cl_f = sp.closed

      cl_b : due_behind 0 B ≡ 0
      cl_b = back_closed _ _ sp t.closed

      hh : is_head h.kind ≡ true
      hh = sp.is_head_lem

      cl : NoHeaderOf h.level (headers_and_items 0 B)
      cl = rw sp.is_level sp.clear

      bi : is_head b.kind ≡ false
      bi = t.is_item_lem

      low : 2 ≤ b.level
      low = low_block b ds t.is_item_lem t.whole 8 nothing ds t.passes

      bl : b.level ≡ suc h.level
      bl = omega (arith, sp.is_level, low)

      bn : length ds ≡ b.data_records
      bn = t.whole

      small : count_index b.kind < 10
      small = omega (arith, (good 8 nothing b t.passes.0).known)

      is_old : f.body ≡ F ++ h ∷ B ++ S
      is_old = sym (take-append-drop (body_place f p) f.body) ∙ ap (λ (x : List View). x ++ S) sp.whole

      is_new : change (more v) b (before f p) ++ (b ∷ ds ++ S) ≡ F ++ h' ∷ B ++ (b ∷ ds ++ S)
      is_new = ap (λ (x : List View). x ++ (b ∷ ds ++ S)) (change_split (more v) b (before f p) sp)
