-- The order of checks of a sheet with directory: which refusal, with which record, exactly when; for every edition. Assumes nothing.
use mathlib.Core.Path.{◌≡◌, refl, ap, ap₂, sym, subst, ◌∙◌}
use mathlib.Core.Logic.{◌⊎◌, inl, inr, ◌≢◌, ◌↔◌}
use mathlib.Core.Bool.{Bool, true, false, ◌&&◌, false≢true}
use mathlib.Core.List.{List, [], ◌∷◌, ◌++◌}
use Prim.Native.Nat.{ℕ, zero, suc, pred, ◌+◌, ◌-◌, ◌*◌, ◌/◌, ◌%◌, ◌≤◌, ◌<◌}
use native.Mathlib.Omega.{arith}
use lib.Dec.{eqb, leb, ltb}
use lib.IntN.{ℤ, pos, negsuc}
use lib.ListN.{length, length-drop, take, drop, get_or, take-append-drop}
use lib.Seq.{drop-drop, drop_at, take-append-le, length-take-le, get_or-drop}
use borrow.Author.Tests.{eqb-true, eqb-false, eq-eqb, ltb-true, ltb-false, leb-true, leb-false, le-leb}
use Rattle.format.specs.declared.Column.{Column}
use Rattle.format.specs.declared.Column.TheVariants.{Value, MinusZero, Malformed}
use Rattle.format.specs.Text.{same}
use Rattle.format.specs.Basics.{Answer, given, refused, Fault, none, fault, or_else, to_fault, unless, chunks}
use Rattle.format.specs.Column.{column_of, formed, integer, size, fits, written}
use Rattle.format.specs.Layout.{column, spaces}
use Rattle.format.specs.Judge.{Counts, judge_sheet, after_stage_one}
use Rattle.format.proofs.Basics.{and-true, true_and}
use Rattle.format.proofs.ChecksParts.{same_decides}
use Rattle.format.proofs.ColumnRoundTrip.{reads-back}
use Rattle.format.proofs.NormalReads.{read_fits}
use Rattle.format.proofs.AcceptedSheet.{counted_are}
use Rattle.format.proofs.Lists.{length-chunks}
use Rattle.format_directory.specs.declared.Edition.{Edition}
use Rattle.format_directory.specs.declared.Edition.TheVariants.{One, Two}
use Rattle.format_directory.specs.Directory.{layers_of, end_letters, end_columns, directory_of, used_ok, last_record, number_in, pointer_in, is_written, are_written, closing_ok, records_before, records_from, differs, after_sheet, judge_from, after_closing, judge_edition, judge_directory}
use Rattle.format_directory.specs.DirectoryChecks.{letter, ListsLayers, UsedFails, besides, ClosedBy, DiffersAt, DirectoryRefusal, wrong_length, wrong_closing, wrong_sheet, wrong_directory}
use Rattle.format_directory.proofs.DirectoryRecords.{same_self}
use Rattle.format_directory.proofs.DirectoryColumns.{byte_in, column_in_lem}
use Rattle.format_directory.proofs.DirectoryJudged.{Accepted, accepted-right, m, B, front_is, length_B, right_edition, right-used}
use Rattle.format_directory.proofs.DirectoryRefused.{take_chunks}
use Rattle.format_directory.proofs.DirectoryWords.{end_letters_are, Behind, words_behind, chunk_at, right-lists, sheet-accepted}

-- ---- 1: "the used length against 0, the buffer and 84 only"
module _ (used : ℕ) (b : List ℕ) where
  pub used-wrong : used_ok used b ≡ false → UsedFails used b
  used-wrong e = go (ltb 0 used) refl (leb used (length b)) refl
    where
      go : (t : Bool) → ltb 0 used ≡ t → (u : Bool) → leb used (length b) ≡ u → UsedFails used b
      go false p u q = inl (omega (arith, ltb-false 0 used p))
      go true p false q = inr (inl (leb-false used (length b) q))
      go true p true q = inr (inr (eqb-false (used % 84) 0 (sym (ap₂ (λ (x y : Bool). x && y && eqb (used % 84) 0) p q) ∙ e)))

  pub used-right : used_ok used b ≡ true → UsedFails used b → ⊥
  used-right e w =
      let x = and-true (ltb 0 used && leb used (length b)) (eqb (used % 84) 0) e in
      let y = and-true (ltb 0 used) (leb used (length b)) x.0 in
      go (ltb-true 0 used y.0) (leb-true used (length b) y.1) (eqb-true (used % 84) 0 x.1) w
    where
      go : 0 < used → used ≤ length b → used % 84 ≡ 0 → UsedFails used b → ⊥
      go p q s (inl z) = omega arith
      go p q s (inr (inl z)) = omega arith
      go p q s (inr (inr z)) = z s

  pub used-fine : (UsedFails used b → ⊥) → used_ok used b ≡ true
  used-fine n = go (used_ok used b) refl
    where
      go : (t : Bool) → used_ok used b ≡ t → used_ok used b ≡ true
      go true e = e
      go false e = absurd (n (used-wrong e))

  pub used_bad : UsedFails used b → used_ok used b ≡ false
  used_bad w = go (used_ok used b) refl
    where
      go : (t : Bool) → used_ok used b ≡ t → used_ok used b ≡ false
      go true e = absurd (used-right e w)
      go false e = e

-- ---- 19 with the last record: what a well-formed "ZE" is
-- a column of seven bytes in written form
written-says : (c : List ℕ) → length c ≡ 7 → is_written c ≡ true → (c ≡ written 7 (integer (column_of c))) × (fits 7 (integer (column_of c)) ≡ true)
unfolding is_written
written-says c w e = let p = and-true (formed (column_of c)) (same c (written 7 (integer (column_of c)))) e in ((same_decides c (written 7 (integer (column_of c)))).yes p.1, go (column_of c) refl p.0)
  where
    go : (v : Column) → column_of c ≡ v → formed v ≡ true → fits 7 (integer v) ≡ true
    go (Value z) q f = subst (λ (n : ℕ). fits n z ≡ true) w (read_fits c z (omega arith) q).1
    go MinusZero q f = absurd (false≢true f)
    go Malformed q f = absurd (false≢true f)

reads : (z : ℤ) → fits 7 z ≡ true → column_of (written 7 z) ≡ Value z
reads z f = reads-back 7 (omega arith) (omega arith) z f

says-written : (c : List ℕ) (z : ℤ) → c ≡ written 7 z → fits 7 z ≡ true → (is_written c ≡ true) × (integer (column_of c) ≡ z)
unfolding is_written
says-written c z e f =
    let v : column_of c ≡ Value z = ap column_of e ∙ reads z f in
    (true_and _ _ (ap formed v) (ap (λ (x : Column). same c (written 7 (integer x))) v ∙ ap (λ (x : List ℕ). same x (written 7 z)) e ∙ same_self (written 7 z)), ap integer v)

pub spaces_each : (l : List ℕ) → spaces l ≡ true → (i : ℕ) → i < length l → get_or l i 0 ≡ 32
spaces_each [] e i h = absurd (omega arith)
spaces_each (x ∷ l) e zero h = eqb-true x 32 (and-true (eqb x 32) (spaces l) e).0
spaces_each (x ∷ l) e (suc i) h = spaces_each l (and-true (eqb x 32) (spaces l) e).1 i (omega arith)

each_spaces : (l : List ℕ) → ((i : ℕ) → i < length l → get_or l i 0 ≡ 32) → spaces l ≡ true
each_spaces [] h = refl
each_spaces (x ∷ l) h = true_and _ _ (eq-eqb x 32 (h 0 (omega arith))) (each_spaces l (λ i q. h (suc i) (omega arith)))

positive_is : (z : ℤ) (n : ℕ) → n ≡ size z → 1 ≤ n → z ≡ pos n
positive_is (pos k) n e h = ap pos (sym e)
positive_is (negsuc k) n e h = absurd (omega arith)

-- so many columns in written form, and spaces behind them: the numbers in them
record Columns (k : ℕ) (bs : List ℕ) : Type 0 where
  numbers : List ℤ
  count : length numbers ≡ k
  are_written_lem : (i : ℕ) → i < length numbers → take 7 (drop (7 * i) bs) ≡ written 7 (get_or numbers i (pos 0))
  fit : (i : ℕ) → i < length numbers → fits 7 (get_or numbers i (pos 0)) ≡ true
  rest : (i : ℕ) → 7 * k ≤ i → i < length bs → get_or bs i 0 ≡ 32

seven-more : (i : ℕ) (bs : List ℕ) → drop (7 * suc i) bs ≡ drop (7 * i) (drop 7 bs)
seven-more i bs = ap (λ (n : ℕ). drop n bs) (let q : 7 * suc i ≡ 7 + 7 * i = omega arith in q) ∙ sym (drop-drop (7 * i) 7 bs)

columns_say : (k : ℕ) (bs : List ℕ) → 7 * k ≤ length bs → are_written k bs ≡ true → Columns k bs
columns_say zero bs h e = record { numbers = []; count = refl; are_written_lem = λ i l. absurd (omega arith); fit = λ i l. absurd (omega arith); rest = λ i l u. spaces_each bs e i u }
columns_say (suc k) bs h e = more (columns_say k (drop 7 bs) (rw (length-drop 7 bs) (omega arith)) (and-true (is_written (take 7 bs)) (are_written k (drop 7 bs)) e).1)
  where
    more : Columns k (drop 7 bs) → Columns (suc k) bs
    more c = record { numbers = integer (column_of (take 7 bs)) ∷ c.numbers; count = ap suc c.count; are_written_lem = written_at; fit = fit_at; rest = λ i l u. ap (λ (n : ℕ). get_or bs n 0) (let q : i ≡ 7 + (i - 7) = omega arith in q) ∙ sym (get_or-drop 7 bs (i - 7) 0) ∙ c.rest (i - 7) (omega arith) (rw (length-drop 7 bs) (omega arith)) }
      where
        first : (take 7 bs ≡ written 7 (integer (column_of (take 7 bs)))) × (fits 7 (integer (column_of (take 7 bs))) ≡ true)
        first = written-says (take 7 bs) (length-take-le 7 bs (omega arith)) (and-true (is_written (take 7 bs)) (are_written k (drop 7 bs)) e).0

        written_at : (i : ℕ) → i < suc (length c.numbers) → take 7 (drop (7 * i) bs) ≡ written 7 (get_or (integer (column_of (take 7 bs)) ∷ c.numbers) i (pos 0))
        written_at zero l = first.0
        written_at (suc i) l = ap (take 7) (seven-more i bs) ∙ c.are_written_lem i (omega arith)

        fit_at : (i : ℕ) → i < suc (length c.numbers) → fits 7 (get_or (integer (column_of (take 7 bs)) ∷ c.numbers) i (pos 0)) ≡ true
        fit_at zero l = first.1
        fit_at (suc i) l = c.fit i (omega arith)

say_columns : (k : ℕ) (bs : List ℕ) (ns : List ℤ) → 7 * k ≤ length bs → length ns ≡ k → ((i : ℕ) → i < length ns → take 7 (drop (7 * i) bs) ≡ written 7 (get_or ns i (pos 0))) → ((i : ℕ) → i < length ns → fits 7 (get_or ns i (pos 0)) ≡ true) → ((i : ℕ) → 7 * k ≤ i → i < length bs → get_or bs i 0 ≡ 32) → are_written k bs ≡ true
say_columns zero bs ns h n w f r = each_spaces bs (λ i u. r i (omega arith) u)
say_columns (suc k) bs [] h n w f r = absurd (omega arith)
say_columns (suc k) bs (z ∷ ns) h n w f r = true_and _ _ (says-written (take 7 bs) z (w 0 (omega arith)) (f 0 (omega arith))).0 (say_columns k (drop 7 bs) ns (rw (length-drop 7 bs) (omega arith)) (omega arith) (λ i l. ap (take 7) (sym (seven-more i bs)) ∙ w (suc i) (omega arith)) (λ i l. f (suc i) (omega arith)) (λ i l u. get_or-drop 7 bs i 0 ∙ r (7 + i) (omega arith) (omega (arith, u, length-drop 7 bs))))

-- the closing record of an edition: the pointer, and the columns besides it
ends_more : (e : Edition) → end_columns e ≡ suc (besides e)
ends_more One = refl
ends_more Two = refl

few-besides : (e : Edition) → besides e ≤ 2
few-besides One = omega arith
few-besides Two = omega arith

module _ (used : ℕ) (b : List ℕ) (ok : used_ok used b ≡ true) where
  sizes : (84 ≤ used) × (used ≤ length b)
  sizes =
      let x = and-true (ltb 0 used && leb used (length b)) (eqb (used % 84) 0) ok in
      let y = and-true (ltb 0 used) (leb used (length b)) x.0 in
      (omega (arith, ltb-true 0 used y.0, eqb-true (used % 84) 0 x.1), leb-true used (length b) y.1)

  room : 84 * pred (used / 84) + 84 ≤ length b
  room = omega (arith, sizes.0, sizes.1)

  last_is : last_record used b ≡ take 84 (drop (84 * pred (used / 84)) b)
  unfolding last_record
  last_is = chunk_at (used / 84) (pred (used / 84)) b (omega (arith, sizes.0))

  pub last_wide : length (last_record used b) ≡ 84
  last_wide = ap length last_is ∙ length-take-le 84 (drop (84 * pred (used / 84)) b) (rw (length-drop (84 * pred (used / 84)) b) (omega (arith, room)))

  pub byte_last : (i : ℕ) → i < 84 → get_or (last_record used b) i 0 ≡ get_or b (84 * pred (used / 84) + i) 0
  byte_last i h = ap (λ (x : List ℕ). get_or x i 0) last_is ∙ byte_in b (pred (used / 84)) room i h

  pub column-last : (n : ℕ) → n + 7 ≤ 84 → take 7 (drop n (last_record used b)) ≡ take 7 (drop (84 * pred (used / 84) + n) b)
  column-last n h = ap (λ (x : List ℕ). take 7 (drop n x)) last_is ∙ column_in_lem b (pred (used / 84)) room n h

  column_wide : (n : ℕ) → n + 7 ≤ 84 → length (take 7 (drop n (last_record used b))) ≡ 7
  column_wide n h = length-take-le 7 (drop n (last_record used b)) (rw (length-drop n (last_record used b)) (omega (arith, last_wide)))

  -- the columns behind the pointer
  others-at : (n : ℕ) → n < 3 → take 7 (drop (7 * n) (drop 9 (last_record used b))) ≡ take 7 (drop (84 * pred (used / 84) + (9 + 7 * n)) b)
  others-at n h = ap (take 7) (drop-drop (7 * n) 9 (last_record used b)) ∙ column-last (9 + 7 * n) (omega arith)

  nine : drop 7 (drop 2 (last_record used b)) ≡ drop 9 (last_record used b)
  nine = drop-drop 7 2 (last_record used b)

  nine_wide : length (drop 9 (last_record used b)) ≡ 75
  nine_wide = length-drop 9 (last_record used b) ∙ (omega (arith, last_wide))

  -- two letters at its start
  pub two_first : take 2 (last_record used b) ≡ get_or b (84 * pred (used / 84)) 0 ∷ get_or b (84 * pred (used / 84) + 1) 0 ∷ []
  two_first = go (last_record used b) (omega (arith, last_wide)) ∙ ap₂ (λ (x y : ℕ). x ∷ y ∷ []) (byte_last 0 (omega arith) ∙ ap (λ (n : ℕ). get_or b n 0) (let q : 84 * pred (used / 84) + 0 ≡ 84 * pred (used / 84) = omega arith in q)) (byte_last 1 (omega arith))
    where
      go : (l : List ℕ) → 2 ≤ length l → take 2 l ≡ get_or l 0 0 ∷ get_or l 1 0 ∷ []
      go [] h = absurd (omega arith)
      go (x ∷ []) h = absurd (omega arith)
      go (x ∷ y ∷ l) h = refl

  pub first-letters : (x y : ℕ) → same (take 2 (last_record used b)) (x ∷ y ∷ []) ≡ true → (get_or b (84 * pred (used / 84)) 0 ≡ x) × (get_or b (84 * pred (used / 84) + 1) 0 ≡ y)
  first-letters x y e =
      let p : get_or b (84 * pred (used / 84)) 0 ∷ get_or b (84 * pred (used / 84) + 1) 0 ∷ [] ≡ x ∷ y ∷ [] = sym two_first ∙ (same_decides (take 2 (last_record used b)) (x ∷ y ∷ [])).yes e in
      (ap (λ (l : List ℕ). get_or l 0 0) p, ap (λ (l : List ℕ). get_or l 1 0) p)

  pub letters-first : (x y : ℕ) → get_or b (84 * pred (used / 84)) 0 ≡ x → get_or b (84 * pred (used / 84) + 1) 0 ≡ y → same (take 2 (last_record used b)) (x ∷ y ∷ []) ≡ true
  letters-first x y p q = ap (λ (l : List ℕ). same l (x ∷ y ∷ [])) (two_first ∙ ap₂ (λ (k n : ℕ). k ∷ n ∷ []) p q) ∙ same_self (x ∷ y ∷ [])

  module _ (e : Edition) where
    pub closing-says : closing_ok e (used / 84) (last_record used b) ≡ true → ClosedBy e used b (pointer_in (last_record used b))
    unfolding closing_ok number_in column
    closing-says h = record {
      first-letter = letters.0;
      second_letter = letters.1;
      pointer_written = sym (column-last 2 (omega arith)) ∙ first-column.0 ∙ ap (written 7) pointer_is;
      pointer_fits = ap (fits 7) (sym pointer_is) ∙ first-column.1;
      others = d.numbers;
      others-count = d.count;
      others-written = λ i l. sym (others-at i (omega (arith, l, d.count, few-besides e))) ∙ d.are_written_lem i l;
      others-fit = d.fit;
      rest = λ i l u. sym (byte_last i u) ∙ ap (λ (n : ℕ). get_or (last_record used b) n 0) (let q : i ≡ 9 + (i - 9) = omega arith in q) ∙ sym (get_or-drop 9 (last_record used b) (i - 9) 0) ∙ d.rest (i - 9) (omega arith) (omega (arith, nine_wide));
      low = leb-true _ _ y.1;
      high = leb-true _ _ x.1;
    }
      where
        x : (same (take 2 (last_record used b)) (end_letters e) && are_written (end_columns e) (drop 2 (last_record used b)) && leb 1 (pointer_in (last_record used b)) ≡ true) × (leb (pointer_in (last_record used b)) (used / 84) ≡ true)
        x = and-true _ _ h

        y : (same (take 2 (last_record used b)) (end_letters e) && are_written (end_columns e) (drop 2 (last_record used b)) ≡ true) × (leb 1 (pointer_in (last_record used b)) ≡ true)
        y = and-true _ _ x.0

        a : (same (take 2 (last_record used b)) (end_letters e) ≡ true) × (are_written (end_columns e) (drop 2 (last_record used b)) ≡ true)
        a = and-true _ _ y.0

        c : (is_written (take 7 (drop 2 (last_record used b))) ≡ true) × (are_written (besides e) (drop 7 (drop 2 (last_record used b))) ≡ true)
        c = and-true _ _ (ap (λ (k : ℕ). are_written k (drop 2 (last_record used b))) (sym (ends_more e)) ∙ a.1)

        d : Columns (besides e) (drop 9 (last_record used b))
        d = columns_say (besides e) (drop 9 (last_record used b)) (omega (arith, nine_wide, few-besides e)) (ap (are_written (besides e)) (sym nine) ∙ c.1)

        letters : (get_or b (84 * pred (used / 84)) 0 ≡ letter e) × (get_or b (84 * pred (used / 84) + 1) 0 ≡ 69)
        letters = first-letters (letter e) 69 (ap (same (take 2 (last_record used b))) (sym (end_letters_are e)) ∙ a.0)

        first-column : (take 7 (drop 2 (last_record used b)) ≡ written 7 (integer (column_of (take 7 (drop 2 (last_record used b)))))) × (fits 7 (integer (column_of (take 7 (drop 2 (last_record used b))))) ≡ true)
        first-column = written-says (take 7 (drop 2 (last_record used b))) (column_wide 2 (omega arith)) c.0

        pointer_is : integer (column_of (take 7 (drop 2 (last_record used b)))) ≡ pos (pointer_in (last_record used b))
        pointer_is = positive_is (integer (column_of (take 7 (drop 2 (last_record used b))))) (pointer_in (last_record used b)) refl (leb-true _ _ y.1)

    module _ (p : ℕ) (w : ClosedBy e used b p) where
      first_is : (is_written (take 7 (drop 2 (last_record used b))) ≡ true) × (integer (column_of (take 7 (drop 2 (last_record used b)))) ≡ pos p)
      first_is = says-written (take 7 (drop 2 (last_record used b))) (pos p) (column-last 2 (omega arith) ∙ w.pointer_written) w.pointer_fits

      pub closed_pointer : pointer_in (last_record used b) ≡ p
      unfolding number_in column
      closed_pointer = ap size first_is.1

      pub closed_ok : closing_ok e (used / 84) (last_record used b) ≡ true
      unfolding closing_ok
      closed_ok = true_and _ _ (true_and _ _ (true_and _ _ its_letters its_columns) (le-leb 1 (pointer_in (last_record used b)) (omega (arith, closed_pointer, w.low)))) (le-leb (pointer_in (last_record used b)) (used / 84) (omega (arith, closed_pointer, w.high)))
        where
          its_letters : same (take 2 (last_record used b)) (end_letters e) ≡ true
          its_letters = ap (same (take 2 (last_record used b))) (end_letters_are e) ∙ letters-first (letter e) 69 w.first-letter w.second_letter

          its_others : are_written (besides e) (drop 9 (last_record used b)) ≡ true
          its_others = say_columns (besides e) (drop 9 (last_record used b)) w.others (omega (arith, nine_wide, few-besides e)) w.others-count (λ i l. others-at i (omega (arith, l, w.others-count, few-besides e)) ∙ w.others-written i l) w.others-fit (λ i l u. get_or-drop 9 (last_record used b) i 0 ∙ byte_last (9 + i) (omega (arith, u, nine_wide)) ∙ w.rest (9 + i) (omega arith) (omega (arith, u, nine_wide)))

          its_columns : are_written (end_columns e) (drop 2 (last_record used b)) ≡ true
          its_columns = ap (λ (k : ℕ). are_written k (drop 2 (last_record used b))) (ends_more e) ∙ true_and _ _ first_is.0 (ap (are_written (besides e)) nine ∙ its_others)

-- ---- 19 with the first record that differs
-- so many records are the same, and not one more
record First (n : ℕ) (xs ys : List (List ℕ)) (at : ℕ) : Type 0 where
  j : ℕ
  is : at ≡ n + j
  before : take j ys ≡ take j xs
  other : take (suc j) ys ≢ take (suc j) xs

differs-first : (n : ℕ) (xs ys : List (List ℕ)) (number at : ℕ) → differs n xs ys ≡ fault number at → (number ≡ 19) × First n xs ys at
differs-first n [] [] number at e = let z : ◌≡◌ {A = ℕ} 0 1 = cc in absurd (omega arith)
differs-first n [] (y ∷ ys) number at e = let q : n ≡ at = cc in let w : number ≡ 19 = cc in (w, record { j = 0; is = omega (arith, q); before = refl; other = λ s. let z : ◌≡◌ {A = ℕ} 0 1 = cc in omega arith })
differs-first n (x ∷ xs) [] number at e = let q : n ≡ at = cc in let w : number ≡ 19 = cc in (w, record { j = 0; is = omega (arith, q); before = refl; other = λ s. let z : ◌≡◌ {A = ℕ} 0 1 = cc in omega arith })
differs-first n (x ∷ xs) (y ∷ ys) number at e = go (same x y) refl (differs-first (suc n) xs ys number at) e
  where
    go : (t : Bool) → same x y ≡ t → (differs (suc n) xs ys ≡ fault number at → (number ≡ 19) × First (suc n) xs ys at) → or_else (to_fault (unless t 19) n) (differs (suc n) xs ys) ≡ fault number at → (number ≡ 19) × First n (x ∷ xs) (y ∷ ys) at
    go false p ih e = let q : n ≡ at = cc in let w : number ≡ 19 = cc in (w, record { j = 0; is = omega (arith, q); before = refl; other = λ s. let h : y ≡ x = cc in (same_decides x y).no p (sym h) })
    go true p ih e = ((ih e).0, record { j = suc f.j; is = omega (arith, f.is); before = ap₂ (λ (a : List ℕ) (r : List (List ℕ)). a ∷ r) (sym x_is) f.before; other = λ s. f.other (let h : take (suc f.j) ys ≡ take (suc f.j) xs = cc in h) })
      where
        f : First (suc n) xs ys at
        f = (ih e).1

        x_is : x ≡ y
        x_is = (same_decides x y).yes p

first-differs : (n j : ℕ) (xs ys : List (List ℕ)) → take j ys ≡ take j xs → take (suc j) ys ≢ take (suc j) xs → differs n xs ys ≡ fault 19 (n + j)
first-differs n j [] [] e o = absurd (o refl)
first-differs n zero [] (y ∷ ys) e o = ap (fault 19) (let q : n ≡ n + 0 = omega arith in q)
first-differs n (suc j) [] (y ∷ ys) e o = let z : ◌≡◌ {A = ℕ} 0 1 = cc in absurd (omega arith)
first-differs n zero (x ∷ xs) [] e o = ap (fault 19) (let q : n ≡ n + 0 = omega arith in q)
first-differs n (suc j) (x ∷ xs) [] e o = let z : ◌≡◌ {A = ℕ} 0 1 = cc in absurd (omega arith)
first-differs n zero (x ∷ xs) (y ∷ ys) e o = go (same x y) refl
  where
    go : (t : Bool) → same x y ≡ t → or_else (to_fault (unless t 19) n) (differs (suc n) xs ys) ≡ fault 19 (n + 0)
    go true p = absurd (o (ap (λ (a : List ℕ). a ∷ []) (sym ((same_decides x y).yes p))))
    go false p = ap (fault 19) (let q : n ≡ n + 0 = omega arith in q)
first-differs n (suc j) (x ∷ xs) (y ∷ ys) e o = go (same x y) refl (first-differs (suc n) j xs ys (let h : take j ys ≡ take j xs = cc in h) (λ s. o (ap₂ (λ (a : List ℕ) (r : List (List ℕ)). a ∷ r) heads s)))
  where
    heads : y ≡ x
    heads = cc

    go : (t : Bool) → same x y ≡ t → differs (suc n) xs ys ≡ fault 19 (suc n + j) → or_else (to_fault (unless t 19) n) (differs (suc n) xs ys) ≡ fault 19 (n + suc j)
    go true p ih = ih ∙ ap (fault 19) (let q : suc n + j ≡ n + suc j = omega arith in q)
    go false p ih = absurd ((same_decides x y).no p (sym heads))

-- of two lists that start alike
take_behind : (R X : List (List ℕ)) (n : ℕ) → take (length R + n) (R ++ X) ≡ R ++ take n X
take_behind [] X n = ap (λ (i : ℕ). take i X) (let q : 0 + n ≡ n = omega arith in q)
take_behind (r ∷ R) X n = ap (λ (i : ℕ). take i (r ∷ (R ++ X))) (let q : suc (length R) + n ≡ suc (length R + n) = omega arith in q) ∙ ap (λ (x : List (List ℕ)). r ∷ x) (take_behind R X n)

behind-same : (R X Y : List (List ℕ)) → R ++ X ≡ R ++ Y → X ≡ Y
behind-same R X Y e = sym (drop_at R X (length R) refl) ∙ ap (drop (length R)) e ∙ drop_at R Y (length R) refl

module _ (R X Y : List (List ℕ)) (s : ℕ) (long : length R ≡ s) where
  difference_at_lem : (number at : ℕ) → differs (suc s) X Y ≡ fault number at → (number ≡ 19) × (take (pred at) (R ++ Y) ≡ take (pred at) (R ++ X)) × (take at (R ++ Y) ≢ take at (R ++ X))
  difference_at_lem number at e = (d.0, taken f.j (pred at) (omega (arith, f.is, long)) f.before, λ q. f.other (behind-same R (take (suc f.j) Y) (take (suc f.j) X) (sym (at_suc Y) ∙ q ∙ at_suc X)))
    where
      d : (number ≡ 19) × First (suc s) X Y at
      d = differs-first (suc s) X Y number at e

      f : First (suc s) X Y at
      f = d.1

      taken : (j n : ℕ) → n ≡ length R + j → take j Y ≡ take j X → take n (R ++ Y) ≡ take n (R ++ X)
      taken j n q p = ap (λ (i : ℕ). take i (R ++ Y)) q ∙ take_behind R Y j ∙ ap (λ (x : List (List ℕ)). R ++ x) p ∙ sym (ap (λ (i : ℕ). take i (R ++ X)) q ∙ take_behind R X j)

      at_suc : (Z : List (List ℕ)) → take at (R ++ Z) ≡ R ++ take (suc f.j) Z
      at_suc Z = ap (λ (i : ℕ). take i (R ++ Z)) (let q : at ≡ length R + suc f.j = omega (arith, f.is, long) in q) ∙ take_behind R Z (suc f.j)

  difference_of : (at : ℕ) → take (pred at) (R ++ Y) ≡ take (pred at) (R ++ X) → take at (R ++ Y) ≢ take at (R ++ X) → differs (suc s) X Y ≡ fault 19 at
  difference_of at e o = go (ltb s at) refl
    where
      go : (t : Bool) → ltb s at ≡ t → differs (suc s) X Y ≡ fault 19 at
      go false q = absurd (o (take-append-le at R Y (omega (arith, ltb-false s at q, long)) ∙ sym (take-append-le at R X (omega (arith, ltb-false s at q, long)))))
      go true q = first-differs (suc s) (at - suc s) X Y (behind-same R (take (at - suc s) Y) (take (at - suc s) X) (sym (before Y) ∙ e ∙ before X)) (λ p. o (up_to Y ∙ ap (λ (x : List (List ℕ)). R ++ x) p ∙ sym (up_to X))) ∙ ap (fault 19) (let x : suc s + (at - suc s) ≡ at = omega (arith, ltb-true s at q) in x)
        where
          before : (Z : List (List ℕ)) → take (pred at) (R ++ Z) ≡ R ++ take (at - suc s) Z
          before Z = ap (λ (i : ℕ). take i (R ++ Z)) (let x : pred at ≡ length R + (at - suc s) = omega (arith, ltb-true s at q, long) in x) ∙ take_behind R Z (at - suc s)

          up_to : (Z : List (List ℕ)) → take at (R ++ Z) ≡ R ++ take (suc (at - suc s)) Z
          up_to Z = ap (λ (i : ℕ). take i (R ++ Z)) (let x : at ≡ length R + suc (at - suc s) = omega (arith, ltb-true s at q, long) in x) ∙ take_behind R Z (suc (at - suc s))

-- a file with the same sheet that has its right directory
module _ (e : Edition) (b : List ℕ) (c : Counts) (sheet : judge_sheet (84 * c.records) b ≡ given c) where
  abbrev R : List (List ℕ)
  R = chunks c.records b

  abbrev D : List (List ℕ)
  D = directory_of e (suc c.records) (layers_of (chunks c.records b))

  a : Accepted (chunks c.records b) c.records c
  a = sheet-accepted b c sheet

  right-file : List ℕ
  right-file = B e R c.records [] c a

  right_long : length right-file ≡ 84 * m e R c.records [] c a
  unfolding right-file
  right_long = length_B e R c.records [] c a refl

  file-lists : ListsLayers e (length right-file) right-file c
  unfolding right-file
  file-lists = subst (λ (n : ℕ). ListsLayers e n right-file c) (sym right_long) (right-lists e (84 * m e R c.records [] c a) right-file c (accepted-right e (84 * m e R c.records [] c a) right-file c (right-used e R c.records [] c a) (right_edition e R c.records [] c a)))

  right_sheet_is : chunks c.records right-file ≡ R
  unfolding right-file
  right_sheet_is = front_is e R c.records [] c a

  -- the records of any such file
  file-records : (used : ℕ) (right : List ℕ) → ListsLayers e used right c → chunks c.records right ≡ R → chunks (used / 84) right ≡ R ++ D
  file-records used right l q =
      let h : Behind e used right c = words_behind e used right c l in
      sym (take-append-drop c.records (chunks (used / 84) right))
      ∙ ap₂ (λ (x y : List (List ℕ)). x ++ y) (take_chunks c.records (used / 84) right (omega (arith, h.high)) ∙ q) (h.directory ∙ ap (λ (x : List (List ℕ)). directory_of e (suc c.records) (layers_of x)) q)

  module _ (used : ℕ) (high : c.records ≤ used / 84) where
    own-records : chunks (used / 84) b ≡ R ++ drop c.records (chunks (used / 84) b)
    own-records = sym (take-append-drop c.records (chunks (used / 84) b)) ∙ ap (λ (x : List (List ℕ)). x ++ drop c.records (chunks (used / 84) b)) (take_chunks c.records (used / 84) b high)

    pub differs_words : (number at : ℕ) → differs (suc c.records) (drop c.records (chunks (used / 84) b)) D ≡ fault number at → (number ≡ 19) × DiffersAt e used b c at
    differs_words number at h =
        let d = difference_at_lem R (drop c.records (chunks (used / 84) b)) D c.records (length-chunks c.records b) number at h in (
          d.0,
          record {
            right = right-file;
            lists = file-lists;
            same-sheet = right_sheet_is;
            before = ap (take (pred at)) (file-records (length right-file) right-file file-lists right_sheet_is) ∙ d.1 ∙ sym (ap (take (pred at)) own-records);
            other = λ q. d.2 (sym (ap (take at) (file-records (length right-file) right-file file-lists right_sheet_is)) ∙ q ∙ ap (take at) own-records);
          },
        )

    pub words_differ : (at : ℕ) → DiffersAt e used b c at → differs (suc c.records) (drop c.records (chunks (used / 84) b)) D ≡ fault 19 at
    words_differ at d = difference_of R (drop c.records (chunks (used / 84) b)) D c.records (length-chunks c.records b) at (sym (ap (take (pred at)) right_is) ∙ d.before ∙ ap (take (pred at)) own-records) (λ q. d.other (ap (take at) right_is ∙ q ∙ sym (ap (take at) own-records)))
      where
        right_is : chunks (length d.right / 84) d.right ≡ R ++ D
        right_is = file-records (length d.right) d.right d.lists d.same-sheet

-- ---- the order of checks
pub stage_refused : (t : Bool) (answer : Answer Counts) (number at : ℕ) → after_stage_one t answer ≡ refused number at → ((t ≡ false) × (number ≡ 1) × (at ≡ 0)) ⊎ ((t ≡ true) × (answer ≡ refused number at))
stage_refused true answer number at e = inr (refl, e)
stage_refused false answer number at e = let q : number ≡ 1 = cc in let r : at ≡ 0 = cc in inl (refl, q, r)

closing-refused : (t : Bool) (last : ℕ) (answer : Answer Counts) (number at : ℕ) → after_closing t last answer ≡ refused number at → ((t ≡ false) × (number ≡ 19) × (at ≡ last)) ⊎ ((t ≡ true) × (answer ≡ refused number at))
closing-refused true last answer number at e = inr (refl, e)
closing-refused false last answer number at e = let q : number ≡ 19 = cc in let r : at ≡ last = cc in inl (refl, q, r)

record Different (answer : Answer Counts) (difference : Fault) (number at : ℕ) : Type 0 where
  counts : Counts
  judged : answer ≡ given counts
  there : difference ≡ fault number at

sheet-refused : (answer : Answer Counts) (difference : Fault) (number at : ℕ) → after_sheet answer difference ≡ refused number at → (answer ≡ refused number at) ⊎ Different answer difference number at
sheet-refused (refused n r) difference number at e = inl e
sheet-refused (given c) none number at e = let z : ◌≡◌ {A = ℕ} 0 1 = cc in absurd (omega arith)
sheet-refused (given c) (fault n r) number at e = inr (record { counts = c; judged = refl; there = let q : fault n r ≡ fault number at = cc in q })

-- the records of an accepted sheet before the pointer
before_pointer : (b : List ℕ) (c : Counts) (p : ℕ) → 1 ≤ p → judge_sheet (84 * pred p) b ≡ given c → p ≡ suc c.records
before_pointer b c p low e = omega (arith, counted_are (record { counts = c; judged = e }))

-- 1, then what an edition asks
abbrev pub judged : Edition → (used : ℕ) → List ℕ → Answer Counts
judged e used b = after_stage_one (used_ok used b) (judge_edition e used b)

module _ (e : Edition) (used : ℕ) (b : List ℕ) (number at : ℕ) where
  from_words : (c : Counts) (p : ℕ) → p ≡ suc c.records → differs p (records_from p used b) (directory_of e p (layers_of (records_before p b))) ≡ differs (suc c.records) (drop c.records (chunks (used / 84) b)) (directory_of e (suc c.records) (layers_of (chunks c.records b)))
  from_words c p q = ap (λ (n : ℕ). differs n (records_from n used b) (directory_of e n (layers_of (records_before n b)))) q

  sheet-at : (c : Counts) (p : ℕ) → p ≡ suc c.records → judge_sheet (84 * pred p) b ≡ given c → judge_sheet (84 * c.records) b ≡ given c
  sheet-at c p q h = ap (λ (n : ℕ). judge_sheet (84 * pred n) b) (sym q) ∙ h

  -- behind a right length and a right closing record
  closed_from : (UsedFails used b → ⊥) → (p : ℕ) → ClosedBy e used b p → judged e used b ≡ judge_from e p used b
  unfolding judge_edition
  closed_from fine p w = ap₂ after_stage_one (used-fine used b fine) (ap₂ (λ (t : Bool) (q : ℕ). after_closing t (used / 84) (judge_from e q used b)) (closed_ok used b (used-fine used b fine) e p w) (closed_pointer used b (used-fine used b fine) e p w))

  directory_refusal : judged e used b ≡ refused number at → DirectoryRefusal e used b number at
  unfolding judge_edition judge_from
  directory_refusal h = first (stage_refused (used_ok used b) _ number at h)
    where
      first : ((used_ok used b ≡ false) × (number ≡ 1) × (at ≡ 0)) ⊎ ((used_ok used b ≡ true) × (judge_edition e used b ≡ refused number at)) → DirectoryRefusal e used b number at
      first (inl x) = wrong_length (used-wrong used b x.0) x.1 x.2
      first (inr x) = second (closing-refused (closing_ok e (used / 84) (last_record used b)) (used / 84) _ number at x.1)
        where
          fine : UsedFails used b → ⊥
          fine = used-right used b x.0

          second : ((closing_ok e (used / 84) (last_record used b) ≡ false) × (number ≡ 19) × (at ≡ used / 84)) ⊎ ((closing_ok e (used / 84) (last_record used b) ≡ true) × (judge_from e (pointer_in (last_record used b)) used b ≡ refused number at)) → DirectoryRefusal e used b number at
          second (inl y) = wrong_closing fine (λ p w. false≢true (sym y.0 ∙ closed_ok used b x.0 e p w)) y.1 y.2
          second (inr y) = third (sheet-refused _ _ number at y.1)
            where
              w : ClosedBy e used b (pointer_in (last_record used b))
              w = closing-says used b x.0 e y.0

              third : (judge_sheet (84 * pred (pointer_in (last_record used b))) b ≡ refused number at) ⊎ Different (judge_sheet (84 * pred (pointer_in (last_record used b))) b) (differs (pointer_in (last_record used b)) (records_from (pointer_in (last_record used b)) used b) (directory_of e (pointer_in (last_record used b)) (layers_of (records_before (pointer_in (last_record used b)) b)))) number at → DirectoryRefusal e used b number at
              third (inl z) = wrong_sheet fine (pointer_in (last_record used b)) w z
              third (inr z) =
                  let q : pointer_in (last_record used b) ≡ suc z.counts.records = before_pointer b z.counts (pointer_in (last_record used b)) w.low z.judged in
                  let d = differs_words e b z.counts (sheet-at z.counts (pointer_in (last_record used b)) q z.judged) used (omega (arith, q, w.high)) number at (sym (from_words z.counts (pointer_in (last_record used b)) q) ∙ z.there) in
                  wrong_directory fine (pointer_in (last_record used b)) w z.counts z.judged d.0 d.1

  refusal_directory : DirectoryRefusal e used b number at → judged e used b ≡ refused number at
  unfolding judge_edition judge_from
  refusal_directory (wrong_length w n r) = ap₂ after_stage_one (used_bad used b w) refl ∙ sym (ap₂ refused n r)
  refusal_directory (wrong_closing fine o n r) = ap₂ after_stage_one (used-fine used b fine) (ap (λ (t : Bool). after_closing t (used / 84) (judge_from e (pointer_in (last_record used b)) used b)) (open_is (closing_ok e (used / 84) (last_record used b)) refl)) ∙ sym (ap₂ refused n r)
    where
      open_is : (t : Bool) → closing_ok e (used / 84) (last_record used b) ≡ t → closing_ok e (used / 84) (last_record used b) ≡ false
      open_is true h = absurd (o (pointer_in (last_record used b)) (closing-says used b (used-fine used b fine) e h))
      open_is false h = h
  refusal_directory (wrong_sheet fine p w h) = closed_from fine p w ∙ ap (λ (v : Answer Counts). after_sheet v (differs p (records_from p used b) (directory_of e p (layers_of (records_before p b))))) h
  refusal_directory (wrong_directory fine p w c h n d) =
      let q : p ≡ suc c.records = before_pointer b c p w.low h in
      closed_from fine p w ∙ ap₂ after_sheet h (from_words c p q ∙ words_differ e b c (sheet-at c p q h) used (omega (arith, q, w.high)) at d) ∙ ap (λ (i : ℕ). refused i at) (sym n)

-- "Refusals: with directory, 1 ..; then 19 ..; then 1 to 10 ..; then 19 .."
pub edition_refused : (e : Edition) (used : ℕ) (b : List ℕ) (number at : ℕ) → judged e used b ≡ refused number at ↔ DirectoryRefusal e used b number at
edition_refused e used b number at = (directory_refusal e used b number at, refusal_directory e used b number at)

pub refused_exactly : (used : ℕ) (b : List ℕ) (number at : ℕ) → judge_directory used b ≡ refused number at ↔ DirectoryRefusal One used b number at
unfolding judge_directory
refused_exactly used b number at = edition_refused One used b number at
