-- An accepted removal from an accepted sheet gives an accepted sheet. Assumes nothing.
use mathlib.Core.Path.{◌≡◌, refl, ap, sym, ◌∙◌}
use mathlib.Core.Bool.{Bool, true, false, cond, not, ◌&&◌}
use mathlib.Core.List.{List, [], ◌∷◌, ◌++◌}
use Prim.Native.Nat.{ℕ, zero, suc, pred, ◌+◌, ◌-◌, ◌≤◌, ◌<◌}
use native.Mathlib.Omega.{arith}
use lib.Dec.{ltb, eqb}
use lib.ListN.{length, take, drop, get_or, take-append-drop}
use lib.Seq.{drop-cons, length-take-le}
use borrow.Author.Tests.{eqb-true, eqb-false, eq-eqb, ne_eqb, ltb-true, not-true}
use Rattle.format.specs.Record.{Data, View, is_head, nothing, count_index}
use Rattle.format.specs.Above.{NoHeaderOf}
use Rattle.format.specs.Judge.{File, headers_and_items, counts_for, due_after, count_under}
use Rattle.format.specs.Edit.{after, before, absent, remove11, due_behind, open_behind, body_place}
use Rattle.format.proofs.EditViews.{change, cut, gone, less}
use Rattle.format.proofs.Basics.{and-true, unless_zero}
use Rattle.format.proofs.JudgeWalks.{Passes, Good, good, due_behind-append, sort, passes-split}
use Rattle.format.proofs.JudgeCounts.{OneMore, Agree, count_under_in, counted_at, sum_ge}
use Rattle.format.proofs.Above.{Split, find_in}
use Rattle.format.proofs.EditItems.{Alike, headers_and_items_with, item-data_records, low_block, shrink_counted, shrink_passes, grow_items, grow_due_behind}
use Rattle.format.proofs.JudgeAccepted.{Ok}
use Rattle.format.proofs.EditInsert.{change_split, back_closed}

pub less_alike : (v : Data → ℕ → ℕ) (j : ℕ) (h : View) → Alike (less v j h) h
less_alike v j h = record { kinds = refl; levels = refl; needs = refl; data_as = refl; flaws = refl; rules = refl }

pub alike_less : (v : Data → ℕ → ℕ) (j : ℕ) (h : View) → Alike h (less v j h)
alike_less v j h = record { kinds = refl; levels = refl; needs = refl; data_as = refl; flaws = refl; rules = refl }

pub less_one : (v : Data → ℕ → ℕ) (j : ℕ) (h : View) → 0 < h.total → 0 < h.count j → OneMore j (less v j h) h
less_one v j h t c = record { kinds = refl; levels = refl; totals = omega arith; counts = λ k. go k (eqb j k) refl }
  where
    go : (k : ℕ) (t : Bool) → eqb j k ≡ t → h.count k ≡ cond (eqb j k) 1 0 + cond (eqb k j) (h.count k - 1) (h.count k)
    go k true e = rw (e, eq-eqb k j (sym (eqb-true j k e))) (omega (arith, rw (eqb-true j k e) at c))
    go k false e = rw (e, ne_eqb k j (λ q. eqb-false j k e (sym q))) (omega arith)

-- the data of an item are there
pub data_there : (o n : ℕ) (s : Data) (X : List View) → Passes o n s X → due_behind n X ≡ 0 → n ≤ length X
data_there o n s [] p e = omega arith
data_there o zero s (r ∷ X) p e = omega arith
data_there o (suc n) s (r ∷ X) p e = let l : n ≤ length X = data_there o n s X p.1 e in omega arith

pub record Cuts (body : List View) (q : ℕ) : Type 0 where
  pub inside : q < length body
  pub closed : due_behind 0 (take q body) ≡ 0
  pub is_item_lem : is_head (get_or body q absent).kind ≡ false

pub cuts : (f : File) (p : ℕ) → remove11 f p ≡ 0 → Cuts f.body (body_place f p)
cuts f p e = record { inside = ltb-true _ _ z.1; closed = eqb-true _ _ y.1; is_item_lem = not-true _ x.1 }
  where
    x : (ltb f.part_length p && ltb (body_place f p) (length f.body) && eqb (due_behind 0 (before f p)) 0 ≡ true) × (not (is_head (get_or f.body (body_place f p) absent).kind) ≡ true)
    x = and-true _ _ (unless_zero _ _ e)

    y : (ltb f.part_length p && ltb (body_place f p) (length f.body) ≡ true) × (eqb (due_behind 0 (before f p)) 0 ≡ true)
    y = and-true _ _ x.0

    z : (ltb f.part_length p ≡ true) × (ltb (body_place f p) (length f.body) ≡ true)
    z = and-true _ _ y.0

module _ (f : File) (p : ℕ) (k : Ok f) (t : Cuts f.body (body_place f p)) where
  b : View
  b = gone f p

  abbrev X : List View
  X = drop (suc (body_place f p)) f.body

  abbrev ds : List View
  ds = take (gone f p).data_records X

  abbrev S : List View
  S = drop (gone f p).data_records X

  after_is : after f p ≡ gone f p ∷ X
  after_is = drop-cons f.body (body_place f p) absent t.inside

  pub parts : Passes 0 0 nothing (before f p) × Passes (open_behind 0 0 (before f p)) (due_behind 0 (before f p)) (sort 0 nothing (before f p)) (after f p)
  parts = passes-split 0 0 nothing (before f p) (after f p) (rw (take-append-drop (body_place f p) f.body) k.walks.0)

  b-passes : Passes (open_behind 0 0 (before f p)) 0 (sort 0 nothing (before f p)) (gone f p ∷ X)
  b-passes = rw (t.closed, after_is) at parts.1

  pub b_good : Good (open_behind 0 0 (before f p)) (gone f p)
  b_good = good _ (sort 0 nothing (before f p)) _ b-passes.0

  due_behind_x : due_behind (gone f p).data_records X ≡ 0
  due_behind_x = rw (item-data_records (gone f p) t.is_item_lem) at whole
    where
      whole : due_behind (due_after 0 (gone f p)) X ≡ 0
      whole = rw (← (take-append-drop (body_place f p) f.body), due_behind-append 0 (before f p) (after f p), t.closed, after_is) at k.walks.1

  pub x_long : (gone f p).data_records ≤ length X
  x_long = data_there _ _ _ X (rw (item-data_records (gone f p) t.is_item_lem) at b-passes.1) due_behind_x

  ds_length : length ds ≡ (gone f p).data_records
  ds_length = length-take-le (gone f p).data_records X x_long

  pub enough : suc (gone f p).data_records ≤ length (after f p)
  enough = omega (arith, x_long, ap length after_is)

  body_is : f.body ≡ before f p ++ (gone f p ∷ ds ++ S)
  body_is = sym (take-append-drop (body_place f p) f.body) ∙ ap (λ (x : List View). before f p ++ x) (after_is ∙ ap (λ (y : List View). gone f p ∷ y) (sym (take-append-drop (gone f p).data_records X)))

  b-low : 2 ≤ (gone f p).level
  b-low = low_block (gone f p) ds t.is_item_lem ds_length _ (sort 0 nothing (before f p)) X b-passes

  pub sp : Split (pred (gone f p).level) 0 (before f p)
  sp = find_in (pred (gone f p).level) nothing (before f p) parts.0 (omega (arith, b-low)) (omega (arith, b_good.near))

  -- and there was one to take out
  pub cut_ok : (v : Data → ℕ → ℕ) → Ok (cut f p v) × (0 < f.stated_elements)
  cut_ok v = (
    record {
      walks = (rw is_new (shrink_passes F h h' B c ds S al m cl_f cl_b hh cl bi bl bn small la (rw is_old at k.walks.0)), rw is_new (sym (grow_due_behind F h h' B c ds S al m cl_f cl_b hh cl bi bl bn small) ∙ (rw is_old at k.walks.1)));
      stated_elements = rw is_new (omega (arith, rw is_old at k.stated_elements, grow_items F h h' B c ds S al m cl_f cl_b hh cl bi bl bn small));
      stated_records = refl;
      counted = rw is_new (shrink_counted F h h' B c ds S al m cl_f cl_b hh cl bi bl bn small (rw is_old at k.counted));
    },
    omega (arith, rw is_old at k.stated_elements, grow_items F h h' B c ds S al m cl_f cl_b hh cl bi bl bn small),
  )
    where
      c : View
      c = gone f p

      F : List View
      F = sp.front

      h' : View
      h' = sp.it

      h : View
      h = less v (count_index c.kind) h'

      B : List View
      B = sp.back

      cl_f : due_behind 0 F ≡ 0
      cl_f = sp.closed

      cl_b : due_behind 0 B ≡ 0
      cl_b = back_closed _ _ sp t.closed

      hh : is_head h'.kind ≡ true
      hh = sp.is_head_lem

      cl : NoHeaderOf h'.level (headers_and_items 0 B)
      cl = rw sp.is_level sp.clear

      bi : is_head c.kind ≡ false
      bi = t.is_item_lem

      bl : c.level ≡ suc h'.level
      bl = omega (arith, sp.is_level, b-low)

      bn : length ds ≡ c.data_records
      bn = ds_length

      small : count_index c.kind < 10
      small = omega (arith, b_good.known)

      is_old : f.body ≡ F ++ h' ∷ B ++ (c ∷ ds ++ S)
      is_old = body_is ∙ ap (λ (x : List View). x ++ (c ∷ ds ++ S)) sp.whole

      agree : Agree h' (headers_and_items 0 B ++ c ∷ headers_and_items 0 S)
      agree = counted_at (headers_and_items 0 F) h' _ hh (rw (is_old, headers_and_items_with F B cl_f cl_b h' hh c ds S bi bn) at k.counted)

      own : h'.count (count_index c.kind) ≡ counts_for h'.level (count_index c.kind) c + count_under h'.level (count_index c.kind) (headers_and_items 0 B ++ headers_and_items 0 S)
      own = agree.each (count_index c.kind) small ∙ count_under_in c bi h'.level (count_index c.kind) (headers_and_items 0 B) (headers_and_items 0 S) cl

      counts_for_one : counts_for h'.level (count_index c.kind) c ≡ 1
      counts_for_one = rw (eq-eqb c.level _ bl, eq-eqb (count_index c.kind) _ refl)

      some : 0 < h'.count (count_index c.kind)
      some = omega (arith, own, counts_for_one)

      al : Alike h h'
      al = less_alike v _ h'

      la : Alike h' h
      la = alike_less v _ h'

      m : OneMore (count_index c.kind) h h'
      m = less_one v _ h' (omega (arith, agree.whole, some, sum_ge 10 h'.count (count_index c.kind) small)) some

      is_new : change (less v) c (before f p) ++ drop (suc c.data_records) (after f p) ≡ F ++ h ∷ B ++ S
      is_new = ap (λ (x : List View). x ++ drop (suc c.data_records) (after f p)) (change_split (less v) c (before f p) sp) ∙ ap (λ (y : List View). F ++ h ∷ B ++ drop (suc c.data_records) y) after_is
