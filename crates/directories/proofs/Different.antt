-- The first record that differs from the right directory: record by record, from what was found when the sheet was judged. Assumes nothing.
use mathlib.Core.Path.{◌≡◌, refl, ap, ap₂, sym, subst, ◌∙◌}
use mathlib.Core.Bool.{Bool, true, false, cond, not, ◌&&◌, and-true, and-false}
use mathlib.Core.List.{List, [], ◌∷◌, ◌++◌}
use Prim.Native.Nat.{ℕ, zero, suc, ◌+◌, ◌*◌, ◌/◌, ◌%◌, ◌≤◌, ◌<◌}
use native.Mathlib.Nat.{zero-add, add-zero}
use native.Mathlib.Numerals.{add-one}
use native.Mathlib.Omega.{arith}
use borrow.Author.Tests.{ltb-true, ltb-false, not-true, not-false}
use lib.Dec.{ltb}
use lib.ListN.{length, length-drop, length-take, take, drop, get_or, drop_of_length-le, get_or-eq_default}
use lib.Seq.{drop-cons, get_or-take, get_or-drop}
use Rattle.std.specs.Prelude.{Option, Some, None}
use Rattle.format.specs.Text.{same}
use Rattle.format.specs.Basics.{fault, or_else, to_fault, unless, first, round_up}
use Rattle.format.proofs.Basics.{true_and}
use Rattle.format.proofs.ChecksParts.{same_decides}
use Rattle.format.proofs.Lists.{Wide, wide_get}
use Rattle.format_directory.specs.declared.Edition.{Edition}
use Rattle.format_directory.specs.declared.Edition.TheVariants.{One, Two}
use Rattle.format_directory.specs.Directory.{Layer, no_layer, letters, end_letters, end_listed, listed, listed_all, per_layer, per_record, record_of, row, closing, directory_of, differs}
use Rattle.format_directory.proofs.DirectoryRecords.{AllFit, short-all, length-listed, short_end, fit-take, fit-drop, two_letters, two_end_letters, length-listed_all, length-end_listed, most, in_take, row_fits, end_fits, wide_directory, length_directory, row_at, closing_at}
use Rattle.directory_columns.specs.Numbers.{number_is, numbers_are, lists_layer}
use Rattle.judge.specs.Listed.{first_unlisted, unlisted_said}
use Rattle.directories.specs.Steps.{framed, closing_is, right_rows, in_row, behind_rows, difference_at, Against, FirstDifferent}
use Rattle.directories.proofs.Rows.{record_same}

-- ---- which layers a directory lists
first_unlisted_none : (e : Edition) (directory : List (List ℕ)) (b : ℕ) (ls : List Layer) → first_unlisted e directory b ls ≡ 0 → (j : ℕ) → j < length ls → lists_layer e directory (b + j) (listed e (get_or ls j no_layer)) ≡ true
first_unlisted_none e directory b [] q j h = absurd (omega arith)
first_unlisted_none e directory b (l ∷ ls) q j h = go (lists_layer e directory b (listed e l)) refl (first_unlisted_none e directory (suc b) ls) q j h
  where
    go : (t : Bool) → lists_layer e directory b (listed e l) ≡ t → (first_unlisted e directory (suc b) ls ≡ 0 → (j : ℕ) → j < length ls → lists_layer e directory (suc b + j) (listed e (get_or ls j no_layer)) ≡ true) → first (unless t (suc b)) (first_unlisted e directory (suc b) ls) ≡ 0 → (j : ℕ) → j < suc (length ls) → lists_layer e directory (b + j) (listed e (get_or (l ∷ ls) j no_layer)) ≡ true
    go false p ih q j h = absurd (omega arith)
    go true p ih q zero h = ap (λ (n : ℕ). lists_layer e directory n (listed e l)) (add-zero b) ∙ p
    go true p ih q (suc j) h = ap (λ (n : ℕ). lists_layer e directory n (listed e (get_or ls j no_layer))) (let s : b + suc j ≡ suc b + j = omega arith in s) ∙ ih q j (omega arith)

record Unlisted (e : Edition) (directory : List (List ℕ)) (b : ℕ) (ls : List Layer) (n : ℕ) : Type 0 where
  place : ℕ
  is : n ≡ b + place
  inside : place < length ls
  not_there : lists_layer e directory (b + place) (listed e (get_or ls place no_layer)) ≡ false
  before : (j : ℕ) → j < place → lists_layer e directory (b + j) (listed e (get_or ls j no_layer)) ≡ true

first_unlisted_some : (e : Edition) (directory : List (List ℕ)) (b : ℕ) (ls : List Layer) (n : ℕ) → first_unlisted e directory b ls ≡ suc n → Unlisted e directory b ls n
first_unlisted_some e directory b [] n q = absurd (omega arith)
first_unlisted_some e directory b (l ∷ ls) n q = go (lists_layer e directory b (listed e l)) refl (first_unlisted_some e directory (suc b) ls n) q
  where
    here : (j : ℕ) → b + suc j ≡ suc b + j
    here j = omega arith

    go : (t : Bool) → lists_layer e directory b (listed e l) ≡ t → (first_unlisted e directory (suc b) ls ≡ suc n → Unlisted e directory (suc b) ls n) → first (unless t (suc b)) (first_unlisted e directory (suc b) ls) ≡ suc n → Unlisted e directory b (l ∷ ls) n
    go false p ih q = record { place = 0; is = omega arith; inside = omega arith; not_there = ap (λ (m : ℕ). lists_layer e directory m (listed e l)) (add-zero b) ∙ p; before = λ j h. absurd (omega arith) }
    go true p ih q = record { place = suc u.place; is = omega (arith, u.is); inside = omega (arith, u.inside); not_there = ap (λ (m : ℕ). lists_layer e directory m (listed e (get_or ls u.place no_layer))) (here u.place) ∙ u.not_there; before = earlier }
      where
        u : Unlisted e directory (suc b) ls n
        u = ih q

        earlier : (j : ℕ) → j < suc u.place → lists_layer e directory (b + j) (listed e (get_or (l ∷ ls) j no_layer)) ≡ true
        earlier zero h = ap (λ (m : ℕ). lists_layer e directory m (listed e l)) (add-zero b) ∙ p
        earlier (suc j) h = ap (λ (m : ℕ). lists_layer e directory m (listed e (get_or ls j no_layer))) (here j) ∙ u.before j (omega arith)

-- ---- in which row a layer stands, and where
pub in_row_lem : (e : Edition) (i q : ℕ) → q < per_record e → (per_record e * i + q) / per_record e ≡ i
in_row_lem One i q h = omega arith
in_row_lem Two i q h = omega arith

pub place_in_row : (e : Edition) (i q : ℕ) → q < per_record e → (per_record e * i + q) % per_record e ≡ q
place_in_row One i q h = omega arith
place_in_row Two i q h = omega arith

both_parts : (e : Edition) (n : ℕ) → per_record e * (n / per_record e) + n % per_record e ≡ n
both_parts One n = omega arith
both_parts Two n = omega arith

pub place_below : (e : Edition) (n : ℕ) → n % per_record e < per_record e
place_below One n = omega arith
place_below Two n = omega arith

row_before : (e : Edition) (i q n : ℕ) → i < n / per_record e → q < per_record e → per_record e * i + q < n
row_before One i q n h l = omega arith
row_before Two i q n h l = omega arith

-- ---- the numbers of one row, from those of its layers
numbers-append : (r : List ℕ) (k : ℕ) (ns ms : List ℕ) → numbers_are r k (ns ++ ms) ≡ numbers_are r k ns && numbers_are r (k + length ns) ms
numbers-append r k [] ms = ap (λ (n : ℕ). numbers_are r n ms) (sym (add-zero k))
numbers-append r k (n ∷ ns) ms = ap (λ (t : Bool). number_is r k n && t) (numbers-append r (suc k) ns ms) ∙ sym (and_assoc (number_is r k n) (numbers_are r (suc k) ns) (numbers_are r (suc k + length ns) ms)) ∙ ap (λ (m : ℕ). (number_is r k n && numbers_are r (suc k) ns) && numbers_are r m ms) (let q : suc k + length ns ≡ k + suc (length ns) = omega arith in q)
  where
    and_assoc : (a b c : Bool) → (a && b) && c ≡ a && (b && c)
    and_assoc true b c = refl
    and_assoc false b c = refl

-- the columns of the layers behind the first of a row
columns_on : (e : Edition) (l : Layer) (k q : ℕ) → k + length (listed e l) + per_layer e * q ≡ k + per_layer e * suc q
columns_on e l k q = omega (arith, length-listed e l)

layers_each : (e : Edition) (r : List ℕ) (k : ℕ) (g : List Layer) → ((q : ℕ) → q < length g → numbers_are r (k + per_layer e * q) (listed e (get_or g q no_layer)) ≡ true) → numbers_are r k (listed_all e g) ≡ true
layers_each e r k [] h = refl
layers_each e r k (l ∷ g) h =
    numbers-append r k (listed e l) (listed_all e g)
    ∙ true_and _ _ (ap (λ (m : ℕ). numbers_are r m (listed e l)) (let x : k ≡ k + per_layer e * 0 = omega arith in x) ∙ h 0 (omega arith)) (layers_each e r (k + length (listed e l)) g (λ q m. ap (λ (n : ℕ). numbers_are r n (listed e (get_or g q no_layer))) (columns_on e l k q) ∙ h (suc q) (omega arith)))

layers-other : (e : Edition) (r : List ℕ) (k : ℕ) (g : List Layer) (q : ℕ) → q < length g → numbers_are r (k + per_layer e * q) (listed e (get_or g q no_layer)) ≡ false → numbers_are r k (listed_all e g) ≡ false
layers-other e r k [] q m h = absurd (omega arith)
layers-other e r k (l ∷ g) zero m h = numbers-append r k (listed e l) (listed_all e g) ∙ ap (λ (t : Bool). t && numbers_are r (k + length (listed e l)) (listed_all e g)) (ap (λ (n : ℕ). numbers_are r n (listed e l)) (let x : k ≡ k + per_layer e * 0 = omega arith in x) ∙ h)
layers-other e r k (l ∷ g) (suc q) m h = numbers-append r k (listed e l) (listed_all e g) ∙ ap (λ (t : Bool). numbers_are r k (listed e l) && t) (layers-other e r (k + length (listed e l)) g q (omega arith) (ap (λ (n : ℕ). numbers_are r n (listed e (get_or g q no_layer))) (columns_on e l k q) ∙ h)) ∙ and-false (numbers_are r k (listed e l))

-- layer q of row i, of those that stand in it
module _ (e : Edition) (ls : List Layer) (i q : ℕ) (inside : q < length (take (per_record e) (drop (per_record e * i) ls))) where
  few : q < per_record e
  few = omega (arith, most (per_record e) (drop (per_record e * i) ls))

  in_list : per_record e * i + q < length ls
  in_list = omega (arith, length-drop (per_record e * i) ls, shorter (per_record e) (drop (per_record e * i) ls) q inside)
    where
      shorter : (n : ℕ) (l : List Layer) (q : ℕ) → q < length (take n l) → q < length l
      shorter zero l q h = absurd (omega arith)
      shorter (suc n) [] q h = absurd (omega arith)
      shorter (suc n) (x ∷ l) zero h = omega arith
      shorter (suc n) (x ∷ l) (suc q) h = omega (arith, shorter n l q (omega arith))

  same-layer : get_or (take (per_record e) (drop (per_record e * i) ls)) q no_layer ≡ get_or ls (per_record e * i + q) no_layer
  same-layer = get_or-take (per_record e) (drop (per_record e * i) ls) q no_layer few ∙ get_or-drop (per_record e * i) ls q no_layer

  pub listed-there : (directory : List (List ℕ)) → lists_layer e directory (per_record e * i + q) (listed e (get_or ls (per_record e * i + q) no_layer)) ≡ numbers_are (get_or directory i []) (0 + per_layer e * q) (listed e (get_or (take (per_record e) (drop (per_record e * i) ls)) q no_layer))
  unfolding lists_layer
  listed-there directory =
      ap₂ (λ (a b : ℕ). numbers_are (get_or directory a []) (per_layer e * b) (listed e (get_or ls (per_record e * i + q) no_layer))) (in_row_lem e i q few) (place_in_row e i q few)
      ∙ ap₂ (λ (n : ℕ) (l : Layer). numbers_are (get_or directory i []) n (listed e l)) (sym (zero-add (per_layer e * q))) (sym same-layer)

-- ---- row i of a directory, and the right one
module _ (e : Edition) (directory : List (List ℕ)) (ls : List Layer) (fit : AllFit ls) (i : ℕ) where
  abbrev g : List Layer
  g = take (per_record e) (drop (per_record e * i) ls)

  abbrev r : List ℕ
  r = get_or directory i []

  row_same : framed (letters e) (length (listed_all e g)) r && numbers_are r 0 (listed_all e g) ≡ same r (row e g)
  unfolding row
  row_same = record_same (letters e) (listed_all e g) (two_letters e) (short-all e g (fit-take (per_record e) (drop (per_record e * i) ls) (fit-drop (per_record e * i) ls fit))) (omega (arith, length-listed_all e g, row_fits e (length g) (most (per_record e) (drop (per_record e * i) ls)))) r

  -- every layer in it is listed: the letters and the spaces decide
  row_decided : ((q : ℕ) → q < length g → lists_layer e directory (per_record e * i + q) (listed e (get_or ls (per_record e * i + q) no_layer)) ≡ true) → same r (row e g) ≡ framed (letters e) (length (listed_all e g)) r
  row_decided h = sym row_same ∙ ap (λ (t : Bool). framed (letters e) (length (listed_all e g)) r && t) (layers_each e r 0 g (λ q m. sym (listed-there e ls i q m directory) ∙ h q m)) ∙ and-true (framed (letters e) (length (listed_all e g)) r)

  -- one is not
  row_other : (q : ℕ) → q < length g → lists_layer e directory (per_record e * i + q) (listed e (get_or ls (per_record e * i + q) no_layer)) ≡ false → same r (row e g) ≡ false
  row_other q m h = sym row_same ∙ ap (λ (t : Bool). framed (letters e) (length (listed_all e g)) r && t) (layers-other e r 0 g q m (sym (listed-there e ls i q m directory) ∙ h)) ∙ and-false (framed (letters e) (length (listed_all e g)) r)

-- ---- records compared one by one
module _ (D R : List (List ℕ)) (wide : Wide R) (p i : ℕ) (inside : i < length R) where
  next-right : drop i R ≡ get_or R i [] ∷ drop (suc i) R
  next-right = drop-cons R i [] inside

  no_own : length D ≤ i → drop i D ≡ []
  no_own h = drop_of_length-le D h

  differs-here : same (get_or D i []) (get_or R i []) ≡ false → differs (p + i) (drop i D) (drop i R) ≡ fault 19 (p + i)
  differs-here e = go (ltb i (length D)) refl
    where
      go : (t : Bool) → ltb i (length D) ≡ t → differs (p + i) (drop i D) (drop i R) ≡ fault 19 (p + i)
      go true l = ap₂ (differs (p + i)) (drop-cons D i [] (ltb-true i (length D) l)) next-right ∙ ap (λ (t : Bool). or_else (to_fault (unless t 19) (p + i)) (differs (suc (p + i)) (drop (suc i) D) (drop (suc i) R))) e
      go false l = ap₂ (differs (p + i)) (no_own (ltb-false i (length D) l)) next-right

  agrees_here : same (get_or D i []) (get_or R i []) ≡ true → differs (p + i) (drop i D) (drop i R) ≡ differs (p + suc i) (drop (suc i) D) (drop (suc i) R)
  agrees_here e = go (ltb i (length D)) refl
    where
      more : suc (p + i) ≡ p + suc i
      more = omega arith

      is : get_or D i [] ≡ get_or R i []
      is = (same_decides (get_or D i []) (get_or R i [])).yes e

      go : (t : Bool) → ltb i (length D) ≡ t → differs (p + i) (drop i D) (drop i R) ≡ differs (p + suc i) (drop (suc i) D) (drop (suc i) R)
      go true l = ap₂ (differs (p + i)) (drop-cons D i [] (ltb-true i (length D) l)) next-right ∙ ap (λ (t : Bool). or_else (to_fault (unless t 19) (p + i)) (differs (suc (p + i)) (drop (suc i) D) (drop (suc i) R))) e ∙ ap (λ (n : ℕ). differs n (drop (suc i) D) (drop (suc i) R)) more
      go false l = absurd (omega (arith, wide_get i R wide inside, ap length (sym is ∙ get_or-eq_default D [] (ltb-false i (length D) l))))

-- ---- the loop of `first_different`: i records agree
pub record Comparing (D : List (List ℕ)) (e : Edition) (p layers : ℕ) (unlisted : Option ℕ) (rows right i : ℕ) : Type 0 where
  pub few : i ≤ rows
  pub below : i ≤ right
  pub same_still : (ls : List Layer) → Against D e p layers unlisted ls → differs p D (directory_of e p ls) ≡ differs (p + i) (drop i D) (drop i (directory_of e p ls))

-- so many of the layers stand in row i
in_row_is : (e : Edition) (ls : List Layer) (i : ℕ) → length (take (per_record e) (drop (per_record e * i) ls)) ≡ in_row e (length ls) i
in_row_is e ls i = simp (length-take, length-drop) (omega arith)

pub rows_few : (e : Edition) (layers rows : ℕ) → rows ≡ round_up layers (per_record e) → layers ≤ 200000 → rows ≤ 200000
rows_few One layers rows q h = omega (arith, q)
rows_few Two layers rows q h = omega (arith, q)

module _ (D : List (List ℕ)) (p layers : ℕ) (unlisted : Option ℕ) (rows right i : ℕ) where
  -- what a row says of the whole, by whether it agrees
  here : (e : Edition) → rows ≡ round_up layers (per_record e) → Comparing D e p layers unlisted rows right i → i < rows → (ls : List Layer) → (a : Against D e p layers unlisted ls) → same (get_or D i []) (row e (take (per_record e) (drop (per_record e * i) ls))) ≡ false → differs p D (directory_of e p ls) ≡ difference_at (Some i) p
  here e of g l ls a q =
      let own : i < round_up (length ls) (per_record e) = subst (λ (n : ℕ). i < n) (of ∙ ap (λ (n : ℕ). round_up n (per_record e)) a.count) l in
      g.same_still ls a
      ∙ differs-here D (directory_of e p ls) (wide_directory e p ls) p i (omega (arith, length_directory e p ls, own)) (ap (same (get_or D i [])) (row_at e p ls i own) ∙ q)

  on : (e : Edition) → rows ≡ round_up layers (per_record e) → Comparing D e p layers unlisted rows right i → i < rows → (ls : List Layer) → (a : Against D e p layers unlisted ls) → same (get_or D i []) (row e (take (per_record e) (drop (per_record e * i) ls))) ≡ true → differs p D (directory_of e p ls) ≡ differs (p + (i + 1)) (drop (i + 1) D) (drop (i + 1) (directory_of e p ls))
  on e of g l ls a q =
      let own : i < round_up (length ls) (per_record e) = subst (λ (n : ℕ). i < n) (of ∙ ap (λ (n : ℕ). round_up n (per_record e)) a.count) l in
      g.same_still ls a
      ∙ agrees_here D (directory_of e p ls) (wide_directory e p ls) p i (omega (arith, length_directory e p ls, own)) (ap (same (get_or D i [])) (row_at e p ls i own) ∙ q)
      ∙ ap (λ (n : ℕ). differs (p + n) (drop n D) (drop n (directory_of e p ls))) (sym (add-one i))

  -- a layer in this row is not listed
  pub row_unlisted : (e : Edition) → rows ≡ round_up layers (per_record e) → right ≡ right_rows e rows unlisted → Comparing D e p layers unlisted rows right i → i < rows → right ≡ i → FirstDifferent D e p layers unlisted (Some i)
  row_unlisted e of r-is g l q ls a = go unlisted refl
    where
      go : (u : Option ℕ) → unlisted ≡ u → differs p D (directory_of e p ls) ≡ difference_at (Some i) p
      go None z = absurd (omega (arith, l, q, r-is ∙ ap (right_rows e rows) z))
      go (Some n) z = here e of g l ls a (row_other e D ls a.fit i (n % per_record e) inside (ap (λ (j : ℕ). lists_layer e D j (listed e (get_or ls j no_layer))) at ∙ there))
        where
          u : Unlisted e D 0 ls n
          u = first_unlisted_some e D 0 ls n (sym a.first_is ∙ ap unlisted_said z)

          place_is : u.place ≡ n
          place_is = omega (arith, u.is)

          row_is : i ≡ n / per_record e
          row_is = sym q ∙ r-is ∙ ap (right_rows e rows) z

          at : per_record e * i + n % per_record e ≡ n
          at = ap (λ (m : ℕ). per_record e * m + n % per_record e) row_is ∙ both_parts e n

          there : lists_layer e D n (listed e (get_or ls n no_layer)) ≡ false
          there = ap₂ (λ (m k : ℕ). lists_layer e D m (listed e (get_or ls k no_layer))) u.is (sym place_is) ∙ u.not_there

          inside : n % per_record e < length (take (per_record e) (drop (per_record e * i) ls))
          inside = in_take (per_record e) (drop (per_record e * i) ls) (n % per_record e) (place_below e n) (rw (length-drop (per_record e * i) ls) (omega (arith, at, place_is, u.inside)))

  -- every layer in this row is listed
  listed_here : (e : Edition) → right ≡ right_rows e rows unlisted → i < right → (ls : List Layer) → Against D e p layers unlisted ls → (q : ℕ) → q < length (take (per_record e) (drop (per_record e * i) ls)) → lists_layer e D (per_record e * i + q) (listed e (get_or ls (per_record e * i + q) no_layer)) ≡ true
  listed_here e r-is l ls a q h = go unlisted refl
    where
      go : (u : Option ℕ) → unlisted ≡ u → lists_layer e D (per_record e * i + q) (listed e (get_or ls (per_record e * i + q) no_layer)) ≡ true
      go None z = ap (λ (m : ℕ). lists_layer e D m (listed e (get_or ls (per_record e * i + q) no_layer))) (sym (zero-add (per_record e * i + q))) ∙ first_unlisted_none e D 0 ls (sym a.first_is ∙ ap unlisted_said z) (per_record e * i + q) (in_list e ls i q h)
      go (Some n) z = ap (λ (m : ℕ). lists_layer e D m (listed e (get_or ls (per_record e * i + q) no_layer))) (sym (zero-add (per_record e * i + q))) ∙ u.before (per_record e * i + q) (omega (arith, u.is, row_before e i q n (subst (λ (m : ℕ). i < m) row_is l) (few e ls i q h)))
        where
          u : Unlisted e D 0 ls n
          u = first_unlisted_some e D 0 ls n (sym a.first_is ∙ ap unlisted_said z)

          row_is : right ≡ n / per_record e
          row_is = r-is ∙ ap (right_rows e rows) z

  module _ (e : Edition) (r : List ℕ) (t : Bool) (n : ℕ) (r-is : r ≡ get_or D i []) (of : rows ≡ round_up layers (per_record e)) (right_is : right ≡ right_rows e rows unlisted) (g : Comparing D e p layers unlisted rows right i) (l : i < rows) (ne : right ≡ i → ⊥) (n-is : n ≡ in_row e layers i) (t-is : t ≡ framed (letters e) (per_layer e * n) r) where
    decided : (ls : List Layer) → Against D e p layers unlisted ls → same (get_or D i []) (row e (take (per_record e) (drop (per_record e * i) ls))) ≡ t
    decided ls a =
        row_decided e D ls a.fit i (listed_here e right_is (omega (arith, g.below, ne)) ls a)
        ∙ ap₂ (λ (k : ℕ) (x : List ℕ). framed (letters e) k x) (length-listed_all e (take (per_record e) (drop (per_record e * i) ls)) ∙ ap (λ (k : ℕ). per_layer e * k) (in_row_is e ls i ∙ ap (λ (k : ℕ). in_row e k i) (sym a.count) ∙ sym n-is)) (sym r-is)
        ∙ sym t-is

    pub row-differs : not t ≡ true → FirstDifferent D e p layers unlisted (Some i)
    row-differs h ls a = here e of g l ls a (decided ls a ∙ not-true t h)

    pub row_agrees : not t ≡ false → Comparing D e p layers unlisted rows right (i + 1)
    row_agrees h = record {
      few = omega arith;
      below = omega (arith, g.below, ne);
      same_still = λ ls a. on e of g l ls a (decided ls a ∙ not-false t h);
    }

  -- the closing record, and what stands behind it
  end_same : (e : Edition) (ls : List Layer) → layers ≤ 200000 → Against D e p layers unlisted ls → (r : List ℕ) → closing_is e p layers r ≡ same r (closing e p (length ls))
  unfolding closing_is closing
  end_same e ls m a r = ap (λ (n : ℕ). framed (end_letters e) n r && numbers_are r 0 (end_listed e p layers)) (sym (length-end_listed e p layers)) ∙ record_same (end_letters e) (end_listed e p layers) (two_end_letters e) (short_end p layers a.small (omega arith) e) (omega (arith, length-end_listed e p layers, end_fits e)) r ∙ ap (λ (n : ℕ). same r (record_of (end_letters e) (end_listed e p n))) a.count

  pub rows_behind : (e : Edition) → rows ≡ round_up layers (per_record e) → layers ≤ 200000 → Comparing D e p layers unlisted rows right i → rows ≤ i → (different : Option ℕ) → different ≡ behind_rows e D p layers rows → FirstDifferent D e p layers unlisted different
  rows_behind e of m g over different is ls a =
      g.same_still ls a
      ∙ ap (λ (n : ℕ). differs (p + n) (drop n D) (drop n R)) (let x : i ≡ rows = omega (arith, g.few) in x)
      ∙ go (same (get_or D rows []) (closing e p (length ls))) refl
    where
      R : List (List ℕ)
      R = directory_of e p ls

      own : rows ≡ round_up (length ls) (per_record e)
      own = of ∙ ap (λ (n : ℕ). round_up n (per_record e)) a.count

      inside : rows < length R
      inside = omega (arith, length_directory e p ls, own)

      end_is : get_or R rows [] ≡ closing e p (length ls)
      end_is = let c : get_or R rows [] ∷ drop (suc rows) R ≡ closing e p (length ls) ∷ [] = sym (drop-cons R rows [] inside) ∙ closing_at e p ls rows own in let d : get_or R rows [] ≡ closing e p (length ls) = cc in d

      over_is : drop (suc rows) R ≡ []
      over_is = let h : length R ≤ suc rows = omega (arith, length_directory e p ls, own) in drop_of_length-le R h

      go : (t : Bool) → same (get_or D rows []) (closing e p (length ls)) ≡ t → differs (p + rows) (drop rows D) (drop rows R) ≡ difference_at different p
      go false q = differs-here D R (wide_directory e p ls) p rows inside (ap (same (get_or D rows [])) end_is ∙ q) ∙ ap (λ (n : Option ℕ). difference_at n p) (sym (is ∙ ap (λ (t : Bool). cond t (cond (ltb (rows + 1) (length D)) (Some (rows + 1)) None) (Some rows)) (end_same e ls m a (get_or D rows []) ∙ q)))
      go true q = agrees_here D R (wide_directory e p ls) p rows inside (ap (same (get_or D rows [])) end_is ∙ q) ∙ ap (differs (p + suc rows) (drop (suc rows) D)) over_is ∙ past (ltb (rows + 1) (length D)) refl ∙ ap (λ (n : Option ℕ). difference_at n p) (sym (is ∙ ap (λ (t : Bool). cond t (cond (ltb (rows + 1) (length D)) (Some (rows + 1)) None) (Some rows)) (end_same e ls m a (get_or D rows []) ∙ q)))
        where
          past : (t : Bool) → ltb (rows + 1) (length D) ≡ t → differs (p + suc rows) (drop (suc rows) D) [] ≡ difference_at (cond (ltb (rows + 1) (length D)) (Some (rows + 1)) None) p
          past true l = ap (λ (x : List (List ℕ)). differs (p + suc rows) x []) (drop-cons D (suc rows) [] (omega (arith, ltb-true (rows + 1) (length D) l))) ∙ ap (λ (n : ℕ). fault 19 (p + n)) (sym (add-one rows)) ∙ ap (λ (t : Bool). difference_at (cond t (Some (rows + 1)) None) p) (sym l)
          past false l = ap (λ (x : List (List ℕ)). differs (p + suc rows) x []) (let h : length D ≤ suc rows = omega (arith, ltb-false (rows + 1) (length D) l) in drop_of_length-le D h) ∙ ap (λ (t : Bool). difference_at (cond t (Some (rows + 1)) None) p) (sym l)
