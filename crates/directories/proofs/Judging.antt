-- A sheet with its directory, in the code's own words: its length, its closing record, the sheet before the pointer, the records from there on; and jumping.
-- Assumes nothing.
use Rattle.format.proofs.Reasons.{not_zero}
use mathlib.Core.Path.{◌≡◌, refl, ap, ap₂, sym, subst, ◌∙◌}
use mathlib.Core.Bool.{Bool, true, false, cond, not, ◌&&◌, ◌||◌, false≢true}
use mathlib.Core.List.{List, [], ◌∷◌}
use Rattle.std.specs.Bool.{IsTrue}
use mathlib.Core.Logic.{◌↔◌}
use Prim.Native.Nat.{ℕ, zero, suc, pred, ◌+◌, ◌-◌, ◌*◌, ◌/◌, ◌%◌, ◌≤◌, ◌<◌}
use native.Mathlib.Omega.{arith}
use mir.Syntax.{w64}
use mir.Val.{Fits}
use borrow.Author.Tests.{le-leb, eqb-true, ltb-true, leb-true, not-true, not-false}
use lib.Dec.{leb, ltb, eqb}
use lib.ListN.{length, length-drop, take, drop, get_or}
use lib.Seq.{drop-drop, get_or-drop}
use lib.IntN.{pos}
use Rattle.format.specs.Text.{same}
use Rattle.format.specs.Column.{fits, width_ok, written}
use Rattle.format.specs.Layout.{column}
use Rattle.format.specs.Basics.{Answer, given, refused, fault, or_else, to_fault, unless, chunks}
use Rattle.std.specs.Prelude.{Option, Some, None, Result, Ok, Err}
use Rattle.format.specs.declared.Reason.{Reason}
use Rattle.format.specs.declared.Refusal.{Refusal}
use Rattle.format.specs.declared.Counts as Declared
use Rattle.format.specs.Reasons.{refusal_number, refusal_for}
use Rattle.format.specs.Answers.{refused_by, judged_answer}
use Rattle.format.specs.Judge.{Counts, accepted, judge_sheet, after_stage_one}
use Rattle.format.proofs.Basics.{and-true, true_and}
use Rattle.format.proofs.ColumnFits.{fits_plus}
use Rattle.columns.specs.InRecord.{is_written_at}
use Rattle.directory_columns.specs.Numbers.{number_is}
use Rattle.format.proofs.AcceptedSheet.{counted_are}
use Rattle.format.proofs.Lists.{length-chunks}
use Rattle.files.specs.declared.Stride.TheVariants.{Plain}
use Rattle.files.specs.Records.{records_of}
use Rattle.files.proofs.Records.{front-records, record_wide}
use Rattle.format_directory.specs.declared.Edition.{Edition}
use Rattle.format_directory.specs.declared.Edition.TheVariants.{One, Two}
use Rattle.format_directory.specs.declared.LayerEntry as Directory
use Rattle.format_directory.specs.Answers.{jumped_answer, jumped_either_answer}
use Rattle.format_directory.specs.Directory.{layers_of, end_letters, end_columns, are_written, per_layer, per_record, directory_of, used_ok, last_record, number_in, pointer_in, layer_count, closing_ok, records_before, records_from, differs, after_sheet, judge_from, after_closing, judge_edition, judge_directory, in_count, after_judging, listed_in, directory_in, LayerEntry, jump, sheet_in, is_second, edition_of, edition_ok, after_edition, judge_either_edition, entry_in, jump_either_edition}
use Rattle.format_directory.proofs.DirectoryRecords.{length_directory}
use Rattle.format_directory.proofs.DirectoryLayers.{sheet-fit}
use Rattle.format_directory.proofs.DirectoryJudged.{RightDirectory, Accepted, accepted_of, few-layers, accepted-right, right-count}
use Rattle.judge.specs.declared.ListedSheet.{ListedSheet}
use Rattle.judge.specs.Listed.{listed_said}
use Rattle.judge.specs.Listed as judge
use Rattle.judge.proofs.ListedLaws.{OpenedListed, listed_refusal, opened-listed}
use Rattle.directories.specs.declared.Found.{Found}
use Rattle.directories.specs.Steps.{EditionNamed, found_counts, FromPointer, FoundFrom, Behind, FoundRight, FoundAs, Reaches, number_for, difference_at, Against, FirstDifferent}

-- what a right length says
pub record Used (used : ℕ) (buffer : List ℕ) : Type 0 where
  pub some : 84 ≤ used
  pub inside : used ≤ length buffer
  pub even : used % 84 ≡ 0

pub used-says : (used : ℕ) (buffer : List ℕ) → used_ok used buffer ≡ true → Used used buffer
used-says used buffer e =
    let a = and-true (ltb 0 used && leb used (length buffer)) (eqb (used % 84) 0) e in
    let b = and-true (ltb 0 used) (leb used (length buffer)) a.0 in
    let z : used % 84 ≡ 0 = eqb-true (used % 84) 0 a.1 in
    record { some = omega (arith, ltb-true 0 used b.0); inside = leb-true used (length buffer) b.1; even = z }

-- the records behind the first k
chunks-behind : (k n : ℕ) (b : List ℕ) → k ≤ n → chunks (n - k) (drop (84 * k) b) ≡ drop k (chunks n b)
chunks-behind zero n b h = ap (λ (m : ℕ). chunks m b) (let x : n - 0 ≡ n = omega arith in x)
chunks-behind (suc k) zero b h = absurd (omega arith)
chunks-behind (suc k) (suc n) b h = ap₂ chunks (let x : suc n - suc k ≡ n - k = omega arith in x) (ap (λ (m : ℕ). drop m b) (let x : 84 * suc k ≡ 84 + 84 * k = omega arith in x) ∙ sym (drop-drop (84 * k) 84 b)) ∙ chunks-behind k n (drop 84 b) (omega arith)

-- the first record that differs is one of these, or the first past them
differs_at : (n : ℕ) (xs ys : List (List ℕ)) (m at : ℕ) → differs n xs ys ≡ fault m at → at ≤ n + length xs
differs_at n [] [] m at e = let z : ◌≡◌ {A = ℕ} 0 1 = cc in absurd (omega arith)
differs_at n [] (y ∷ ys) m at e = let q : n ≡ at = cc in omega (arith, q)
differs_at n (x ∷ xs) [] m at e = let q : n ≡ at = cc in omega (arith, q)
differs_at n (x ∷ xs) (y ∷ ys) m at e = go (same x y) (differs_at (suc n) xs ys m at) e
  where
    go : (t : Bool) → (differs (suc n) xs ys ≡ fault m at → at ≤ suc n + length xs) → or_else (to_fault (unless t 19) n) (differs (suc n) xs ys) ≡ fault m at → at ≤ n + suc (length xs)
    go true ih e = omega (arith, ih e)
    go false ih e = let q : n ≡ at = cc in omega (arith, q)

module _ (e : Edition) (p used : ℕ) (buffer : List ℕ) (inside : used ≤ length buffer) (low : 1 ≤ p) (high : 84 * p ≤ used) where
  abbrev D : List (List ℕ)
  D = records_of Plain (take (used - 84 * (p - 1)) (drop (84 * (p - 1)) buffer))

  abbrev R : List (List ℕ)
  R = directory_of e p (layers_of (records_before p buffer))

  one_less : p - 1 ≡ pred p
  one_less = omega arith

  D_is : D ≡ records_from p used buffer
  D_is =
      front-records (used - 84 * (p - 1)) (drop (84 * (p - 1)) buffer) (rw (length-drop (84 * (p - 1)) buffer) (omega arith))
      ∙ ap₂ (λ (n m : ℕ). chunks n (drop (84 * m) buffer)) (let x : (used - 84 * (p - 1)) / 84 ≡ used / 84 - pred p = omega arith in x) one_less
      ∙ chunks-behind (pred p) (used / 84) buffer (omega arith)

  D_few : length D ≤ used / 84
  D_few = omega (arith, ap length D_is ∙ length-drop (pred p) (chunks (used / 84) buffer), length-chunks (used / 84) buffer)

  sheet-length : 84 * pred p ≡ 84 * (p - 1)
  sheet-length = omega arith

  -- the sheet itself is refused
  pub from-refused : (w : Refusal) → listed_said (Err w) ≡ judge.listed_in e (84 * (p - 1)) buffer (records_of Plain (take (used - 84 * (p - 1)) (drop (84 * (p - 1)) buffer))) → refused_by w ≡ judge_from e p used buffer
  unfolding judge_from
  from-refused w of = sym (ap (λ (v : Answer Counts). after_sheet v (differs p (records_from p used buffer) R)) (ap (λ (n : ℕ). judge_sheet n buffer) sheet-length ∙ listed_refusal (84 * (p - 1)) buffer D e (listed_said (Err w)) of (not_zero w.reason)))

  -- it is accepted
  module _ (listed : ListedSheet) (of : listed_said (Ok listed) ≡ judge.listed_in e (84 * (p - 1)) buffer (records_of Plain (take (used - 84 * (p - 1)) (drop (84 * (p - 1)) buffer)))) where
    o : OpenedListed e (84 * (p - 1)) buffer D (listed_said (Ok listed))
    o = opened-listed (84 * (p - 1)) buffer D e (listed_said (Ok listed)) of refl

    judged_is : judge_sheet (84 * pred p) buffer ≡ given o.counts
    judged_is = ap (λ (n : ℕ). judge_sheet n buffer) sheet-length ∙ o.judged

    before_is : chunks (84 * (p - 1) / 84) buffer ≡ records_before p buffer
    before_is = ap (λ (n : ℕ). chunks n buffer) (let x : 84 * (p - 1) / 84 ≡ pred p = omega arith in x)

    a : Accepted (chunks (84 * (p - 1) / 84) buffer) (84 * (p - 1) / 84) o.counts
    a = accepted_of (84 * (p - 1)) buffer o.counts o.judged

    records_are : o.counts.records ≡ p - 1
    records_are = sym (counted_are (record { counts = o.counts; judged = o.judged })) ∙ (let x : 84 * (p - 1) / 84 ≡ p - 1 = omega arith in x)

    pub layers-most : listed.layers ≤ 200000
    layers-most = omega (arith, o.layers_are, few-layers (chunks (84 * (p - 1) / 84) buffer) (84 * (p - 1) / 84) o.counts a, a.few)

    against : Against D e p listed.layers listed.unlisted (layers_of (chunks (84 * (p - 1) / 84) buffer))
    against = record {
      count = o.layers_are;
      first_is = o.unlisted_is;
      fit = sheet-fit (chunks (84 * (p - 1) / 84) buffer) o.counts a.judged (omega (arith, a.few, a.count));
      small = omega (arith, a.few);
    }

    module _ (different : Option ℕ) (first_is : FirstDifferent D e p listed.layers listed.unlisted different) where
      difference : differs p (records_from p used buffer) R ≡ difference_at different p
      difference = ap₂ (λ (x y : List (List ℕ)). differs p x (directory_of e p (layers_of y))) (sym D_is) (sym before_is) ∙ first_is (layers_of (chunks (84 * (p - 1) / 84) buffer)) against

      from_is : judge_from e p used buffer ≡ after_sheet (given o.counts) (difference_at different p)
      unfolding judge_from
      from_is = ap₂ after_sheet judged_is difference

    -- record i of the directory differs
    module _ (i : ℕ) (first_is : FirstDifferent D e p listed.layers listed.unlisted (Some i)) where
      pub different_fits : Fits w64 used → Fits w64 (p + i)
      different_fits f = record { fits = omega (arith, f.fits, D_few, differs_at p (records_from p used buffer) R 19 (p + i) (difference (Some i) first_is), ap length D_is) }

      pub from_different : (w : Refusal) → w ≡ refusal_for Reason.Directory (p + i) → refused_by w ≡ judge_from e p used buffer
      from_different w q = ap refused_by q ∙ sym (from_is (Some i) first_is)

    pub from-same : FirstDifferent D e p listed.layers listed.unlisted None → FromPointer e p used buffer (record { edition = e; pointer = p; layers = listed.layers; items = listed.items })
    from-same first_is = record {
      answer_is = ap₂ accepted (sym records_are) o.items_are ∙ sym (from_is None first_is);
      edition_is = refl;
      pointer_is = refl;
      count_is = o.layers_are ∙ ap (λ (x : List (List ℕ)). length (layers_of x)) before_is;
    }

-- judged so, it is judged so by another name
found_as : (answer answer' : Answer Counts) (e e' : Edition) (used : ℕ) (buffer : List ℕ) (r : Result Found Refusal) → answer ≡ answer' → e ≡ e' → FoundAs answer e used buffer r → FoundAs answer' e' used buffer r
found_as answer answer' e e' used buffer r p q g = subst (λ (x : Edition). FoundAs answer' x used buffer r) q (subst (λ (x : Answer Counts). FoundAs x e used buffer r) p g)

-- ---- `record_at`
module _ (used : ℕ) (buffer : List ℕ) (inside : used ≤ length buffer) (k : ℕ) (here : k < used / 84) (r : List ℕ) (of : r ≡ get_or (records_of Plain (take used buffer)) k []) where
  pub record_long : length r ≡ 84
  record_long = ap length of ∙ record_wide Plain (take used buffer) k (omega (arith, ap length (front-records used buffer inside) ∙ length-chunks (used / 84) buffer))

  pub record_is : r ≡ get_or (chunks (used / 84) buffer) k []
  record_is = of ∙ ap (λ (x : List (List ℕ)). get_or x k []) (front-records used buffer inside)

-- ---- `last_record`
module _ (used : ℕ) (buffer : List ℕ) (right : used_ok used buffer ≡ true) where
  u : Used used buffer
  u = used-says used buffer right

  pub used-inside : used ≤ length buffer
  used-inside = u.inside

  pub last-there : used / 84 - 1 < used / 84
  last-there = omega (arith, u.some)

  pub last_is : (r : List ℕ) → r ≡ get_or (chunks (used / 84) buffer) (used / 84 - 1) [] → r ≡ last_record used buffer
  unfolding last_record
  last_is r q = q ∙ ap (λ (k : ℕ). get_or (chunks (used / 84) buffer) k []) (let x : used / 84 - 1 ≡ pred (used / 84) = omega arith in x)

  -- ---- `find_behind`: the closing record, then the rest
  module _ (e : Edition) (r : List ℕ) (r-is : r ≡ last_record used buffer) (ok : Bool) (ok-is : ok ≡ closing_ok e (used / 84) r) where
    closes : closing_ok e (used / 84) (last_record used buffer) ≡ ok
    closes = sym (ok-is ∙ ap (closing_ok e (used / 84)) r-is)

    edition : judge_edition e used buffer ≡ after_closing ok (used / 84) (judge_from e (pointer_in (last_record used buffer)) used buffer)
    unfolding judge_edition
    edition = ap (λ (x : Bool). after_closing x (used / 84) (judge_from e (pointer_in (last_record used buffer)) used buffer)) closes

    pub find_open : not ok ≡ true → (w : Refusal) → w ≡ refusal_for Reason.Directory (used / 84) → refused_by w ≡ judge_edition e used buffer
    find_open n w q = ap refused_by q ∙ sym (edition ∙ ap (λ (x : Bool). after_closing x (used / 84) (judge_from e (pointer_in (last_record used buffer)) used buffer)) (not-true ok n))

    module _ (n : not ok ≡ false) (p : ℕ) (p-is : p ≡ number_in 0 r) where
      pointer : p ≡ pointer_in (last_record used buffer)
      pointer = p-is ∙ ap (number_in 0) r-is

      bounds : (1 ≤ pointer_in (last_record used buffer)) × (pointer_in (last_record used buffer) ≤ used / 84)
      unfolding closing_ok
      bounds =
          let x = and-true (same (take 2 (last_record used buffer)) (end_letters e) && are_written (end_columns e) (drop 2 (last_record used buffer)) && leb 1 (pointer_in (last_record used buffer))) (leb (pointer_in (last_record used buffer)) (used / 84)) (closes ∙ not-false ok n) in
          let y = and-true (same (take 2 (last_record used buffer)) (end_letters e) && are_written (end_columns e) (drop 2 (last_record used buffer))) (leb 1 (pointer_in (last_record used buffer))) x.0 in
          (leb-true _ _ y.1, leb-true _ _ x.1)

      pub pointer_low : 1 ≤ p
      pointer_low = omega (arith, pointer, bounds.0)

      pub pointer_high : 84 * p ≤ used
      pointer_high = omega (arith, pointer, bounds.1)

      judged : judge_from e p used buffer ≡ judge_edition e used buffer
      judged = ap (λ (m : ℕ). judge_from e m used buffer) pointer ∙ sym (edition ∙ ap (λ (x : Bool). after_closing x (used / 84) (judge_from e (pointer_in (last_record used buffer)) used buffer)) (not-false ok n))

      pub find-found : (r : Result Found Refusal) → FoundFrom e p used buffer r → FoundAs (judge_edition e used buffer) e used buffer r
      unfolding sheet_in
      find-found (Err w) g = g ∙ judged
      find-found (Ok f) g = record {
        answer_is = g.answer_is ∙ judged;
        edition_is = g.edition_is;
        behind = record {
          pointer_is = g.pointer_is ∙ pointer;
          count_is = g.count_is ∙ ap (λ (m : ℕ). length (layers_of (records_before m buffer))) pointer ∙ sym (right-count e used buffer (found_counts f) right-found);
          right = subst (λ (x : Edition). RightDirectory x used buffer (found_counts f)) (sym g.edition_is) right-found;
        };
      }
        where
          right-found : RightDirectory e used buffer (found_counts f)
          right-found = accepted-right e used buffer (found_counts f) right (sym (g.answer_is ∙ judged))

-- ---- `find_first`, `find_either`: the length, and the edition that the last record names
module _ (used : ℕ) (buffer : List ℕ) where
  module _ (w : Refusal) (of : (used_ok used buffer ≡ false) × (w ≡ refusal_for Reason.Length 0)) where
    pub first_unused : refused_by w ≡ judge_directory used buffer
    unfolding judge_directory
    first_unused = ap refused_by of.1 ∙ sym (ap (λ (x : Bool). after_stage_one x (judge_edition One used buffer)) of.0)

    pub either_unused : refused_by w ≡ judge_either_edition used buffer
    unfolding judge_either_edition
    either_unused = ap refused_by of.1 ∙ sym (ap (λ (x : Bool). after_stage_one x (after_edition (edition_ok (last_record used buffer)) (used / 84) (judge_edition (edition_of (last_record used buffer)) used buffer))) of.0)

  module _ (last : List ℕ) (of : (used_ok used buffer ≡ true) × (last ≡ last_record used buffer)) where
    pub first_found : (r : Result Found Refusal) → FoundAs (judge_edition One used buffer) One used buffer r → FoundAs (judge_directory used buffer) One used buffer r
    unfolding judge_directory
    first_found r g = found_as (judge_edition One used buffer) (judge_directory used buffer) One One used buffer r (sym (ap (λ (x : Bool). after_stage_one x (judge_edition One used buffer)) of.0)) refl g

    either_is : (ok : Bool) → edition_ok last ≡ ok → judge_either_edition used buffer ≡ after_edition ok (used / 84) (judge_edition (edition_of (last_record used buffer)) used buffer)
    unfolding judge_either_edition
    either_is ok q = ap₂ (λ (x y : Bool). after_stage_one x (after_edition y (used / 84) (judge_edition (edition_of (last_record used buffer)) used buffer))) of.0 (ap edition_ok (sym of.1) ∙ q)

    pub either_other : (w : Refusal) → (edition_ok last ≡ false) × (w ≡ refusal_for Reason.Edition (used / 84)) → refused_by w ≡ judge_either_edition used buffer
    either_other w q = ap refused_by q.1 ∙ sym (either_is false q.0)

    pub either_found : (e : Edition) → (edition_ok last ≡ true) × (e ≡ edition_of last) → (r : Result Found Refusal) → FoundAs (judge_edition e used buffer) e used buffer r → FoundAs (judge_either_edition used buffer) (edition_of (last_record used buffer)) used buffer r
    either_found e q r g =
        let e-is : e ≡ edition_of (last_record used buffer) = q.1 ∙ ap edition_of of.1 in
        found_as (judge_edition e used buffer) (judge_either_edition used buffer) e (edition_of (last_record used buffer)) used buffer r (ap (λ (x : Edition). judge_edition x used buffer) e-is ∙ sym (either_is true q.0)) e-is g

-- ---- `edition_named`
module _ (last : List ℕ) (wide : length last ≡ 84) (s : Bool) (s-is : s ≡ is_second last) where
  pub names_first : not s ≡ true → (number : ℕ) → EditionNamed last number (Ok One)
  unfolding edition_ok
  names_first n number =
      let no : is_second last ≡ false = sym s-is ∙ not-true s n in
      (ap (λ (x : Bool). not x || same (column 16 7 last) (written 7 (pos 2))) no, sym (ap (λ (x : Bool). cond x Two One) no))

  module _ (n : not s ≡ false) (two : Bool) (two_is : two ≡ number_is last 2 2) where
    yes : is_second last ≡ true
    yes = sym s-is ∙ not-false s n

    states : edition_ok last ≡ two
    unfolding edition_ok number_is is_written_at
    states = ap (λ (x : Bool). not x || same (column 16 7 last) (written 7 (pos 2))) yes ∙ sym (two_is ∙ ap (λ (x : Bool). (width_ok 7 && fits 7 (pos 2) && x) && same (column 16 7 last) (written 7 (pos 2))) (le-leb 23 (length last) (omega (arith, wide))) ∙ ap (λ (x : Bool). (x && true) && same (column 16 7 last) (written 7 (pos 2))) fits_two)
      where
        fits_two : width_ok 7 && fits 7 (pos 2) ≡ true
        fits_two = fits_plus 7 2 (omega arith) (omega arith)

    pub names_other : not two ≡ true → (number : ℕ) (w : Refusal) → w ≡ refusal_for Reason.Edition number → EditionNamed last number (Err w)
    names_other h number w q = (states ∙ not-true two h, q)

    pub names_second : not two ≡ false → (number : ℕ) → EditionNamed last number (Ok Two)
    names_second h number = (states ∙ not-false two h, sym (ap (λ (x : Bool). cond x Two One) yes))

-- ---- the answers of judging
pub answered : (answer : Answer Counts) (e : Edition) (used : ℕ) (buffer : List ℕ) (f : Found) → FoundRight answer e used buffer f → (c : Declared.Counts) → c ≡ record { records = f.pointer - 1; items = f.items } → judged_answer (Ok c) ≡ answer
unfolding judged_answer
answered answer e used buffer f g c q = ap (λ (x : Declared.Counts). judged_answer (Ok x)) q ∙ g.answer_is

pub not-answered : (answer : Answer Counts) (w : Refusal) → refused_by w ≡ answer → judged_answer (Err w) ≡ answer
unfolding judged_answer
not-answered answer w q = q

pub pointer_some : (used : ℕ) (buffer : List ℕ) (f : Found) → Behind used buffer f → 1 ≤ f.pointer
pointer_some used buffer f b = omega (arith, b.pointer_is, b.right.low)

-- ---- `number`
module _ (used : ℕ) (buffer : List ℕ) (r : Found) (layer i : ℕ) (g : Reaches used buffer r layer i) (each own : ℕ) (each-is : each ≡ per_record r.edition) (own_is : own ≡ per_layer r.edition) where
  row_is : r.pointer - 1 + (layer - 1) / each ≡ r.pointer - 1 + (layer - 1) / per_record r.edition
  row_is = ap (λ (n : ℕ). r.pointer - 1 + (layer - 1) / n) each-is

  pub number_there : r.pointer - 1 + (layer - 1) / each < used / 84
  number_there = omega (arith, row_is, g.there)

  module _ (record' : List ℕ) (of : record' ≡ get_or (chunks (used / 84) buffer) (r.pointer - 1 + (layer - 1) / each) []) where
    pub number_is_lem : (n : ℕ) → n ≡ number_in (own * ((layer - 1) % each) + i) record' → n ≡ number_for used buffer r layer i
    unfolding number_for
    number_is_lem n q = q ∙ ap₂ number_in (ap₂ (λ (a b : ℕ). a * ((layer - 1) % b) + i) own_is each-is) (of ∙ ap (λ (k : ℕ). get_or (chunks (used / 84) buffer) k []) row_is)

-- ---- `entry`
in_layers : (n layers : ℕ) → 1 ≤ n → n ≤ layers → leb 1 n && leb n layers ≡ true
in_layers n layers h l = true_and _ _ (le-leb 1 n h) (le-leb n layers l)

module _ {A : Type 0} (layers n : ℕ) (found : A) where
  pub none-there : ((1 ≤ n) × (n ≤ layers) → ⊥) → refused_by (refusal_for Reason.RecordNumber 0) ≡ in_count layers n found
  none-there h = go (leb 1 n && leb n layers) refl
    where
      go : (t : Bool) → leb 1 n && leb n layers ≡ t → refused 17 0 ≡ cond (leb 1 n && leb n layers) (given found) (refused 17 0)
      go true q = let b = and-true (leb 1 n) (leb n layers) q in absurd (h (leb-true 1 n b.0, leb-true n layers b.1))
      go false q = sym (ap (λ (x : Bool). cond x (given found) (refused 17 0)) q)

  pub one-there : 1 ≤ n → n ≤ layers → given found ≡ in_count layers n found
  one-there h l = sym (ap (λ (x : Bool). cond x (given found) (refused 17 0)) (in_layers n layers h l))

module _ (used : ℕ) (buffer : List ℕ) (r : Found) (b : Behind used buffer r) (n : ℕ) (t : Bool) (t-is : IsTrue t ↔ ((1 ≤ n) × (n ≤ r.layers))) where
  pub entry_outside : t ≡ false → (w : Refusal) → w ≡ refusal_for Reason.RecordNumber 0 → jumped_either_answer (Err w) ≡ in_count r.layers n (entry_in r.edition (directory_in used buffer) n)
  unfolding jumped_either_answer
  entry_outside h w q = ap refused_by q ∙ none-there r.layers n (entry_in r.edition (directory_in used buffer) n) (λ l. absurd (false≢true (sym h ∙ t-is.1 l)))

  module _ (there : t ≡ true) where
    some : 1 ≤ n
    some = (t-is.0 there).0

    inside : n ≤ r.layers
    inside = (t-is.0 there).1

    layers_are : r.layers ≡ length (layers_of (sheet_in used buffer))
    layers_are = b.count_is ∙ right-count r.edition used buffer (found_counts r) b.right

    directory_few : length (directory_in used buffer) ≡ used / 84 - pred r.pointer
    unfolding directory_in
    directory_few = length-drop (pred (pointer_in (last_record used buffer))) (chunks (used / 84) buffer) ∙ ap₂ (λ (a b : ℕ). a - pred b) (length-chunks (used / 84) buffer) (sym b.pointer_is)

    row-there : (e : Edition) → RightDirectory e used buffer (found_counts r) → pred n / per_record e < length (directory_in used buffer)
    row-there One right = omega (arith, ap length right.directory ∙ length_directory One (pointer_in (last_record used buffer)) (layers_of (sheet_in used buffer)), layers_are, inside, some)
    row-there Two right = omega (arith, ap length right.directory ∙ length_directory Two (pointer_in (last_record used buffer)) (layers_of (sheet_in used buffer)), layers_are, inside, some)

    row_is₁ : r.pointer - 1 + (n - 1) / per_record r.edition ≡ pred r.pointer + pred n / per_record r.edition
    row_is₁ = ap₂ (λ (a m : ℕ). a + m / per_record r.edition) (let x : r.pointer - 1 ≡ pred r.pointer = omega arith in x) (let x : n - 1 ≡ pred n = omega arith in x)

    pub reaches : (i : ℕ) → i < per_layer r.edition → Reaches used buffer r n i
    reaches i h = record {
      inside = (used-says used buffer b.right.whole).inside;
      low = pointer_some used buffer r b;
      some = some;
      there = omega (arith, row_is₁, row-there r.edition b.right, directory_few, pointer_some used buffer r b);
      own = h;
    }

    listed_is : (i number : ℕ) → number ≡ number_for used buffer r n i → number ≡ listed_in r.edition (directory_in used buffer) n i
    unfolding number_for directory_in
    listed_is i number q =
        q
        ∙ ap₂ number_in (ap (λ (m : ℕ). per_layer r.edition * (m % per_record r.edition) + i) (let x : n - 1 ≡ pred n = omega arith in x)) (ap (λ (k : ℕ). get_or (chunks (used / 84) buffer) k []) (row_is₁ ∙ ap (λ (m : ℕ). pred m + pred n / per_record r.edition) b.pointer_is) ∙ sym (get_or-drop (pred (pointer_in (last_record used buffer))) (chunks (used / 84) buffer) (pred n / per_record r.edition) []))

    pub reaches_header : Reaches used buffer r n 0
    reaches_header = reaches 0 (some-own r.edition)
      where
        some-own : (e : Edition) → 0 < per_layer e
        some-own One = omega arith
        some-own Two = omega arith

    module _ (header : ℕ) (header_is : header ≡ number_for used buffer r n 0) where
      pub entry-first : r.edition ≡ One → jumped_either_answer (Ok (record { header = header; total = 0; last = 0 })) ≡ in_count r.layers n (entry_in r.edition (directory_in used buffer) n)
      unfolding jumped_either_answer
      entry-first is =
          ap (λ (m : ℕ). given (record { header = m; total = 0; last = 0 })) (listed_is 0 header header_is ∙ ap (λ (e : Edition). listed_in e (directory_in used buffer) n 0) is)
          ∙ ap (λ (e : Edition). given (entry_in e (directory_in used buffer) n)) (sym is)
          ∙ one-there r.layers n (entry_in r.edition (directory_in used buffer) n) some inside

      module _ (is : r.edition ≡ Two) where
        pub reaches_total : Reaches used buffer r n 1
        reaches_total = reaches 1 (subst (λ (e : Edition). 1 < per_layer e) (sym is) (let q : 1 < 3 = omega arith in q))

        pub reaches_last : Reaches used buffer r n 2
        reaches_last = reaches 2 (subst (λ (e : Edition). 2 < per_layer e) (sym is) (let q : 2 < 3 = omega arith in q))

        in_two : (i number : ℕ) → number ≡ number_for used buffer r n i → number ≡ listed_in Two (directory_in used buffer) n i
        in_two i number q = listed_is i number q ∙ ap (λ (e : Edition). listed_in e (directory_in used buffer) n i) is

        pub entry-second : (total last : ℕ) → total ≡ number_for used buffer r n 1 → last ≡ number_for used buffer r n 2 → jumped_either_answer (Ok (record { header = header; total = total; last = last })) ≡ in_count r.layers n (entry_in r.edition (directory_in used buffer) n)
        unfolding jumped_either_answer
        entry-second total last total_is last_is =
            (λ i. given (record { header = in_two 0 header header_is i; total = in_two 1 total total_is i; last = in_two 2 last last_is i }))
            ∙ ap (λ (e : Edition). given (entry_in e (directory_in used buffer) n)) (sym is)
            ∙ one-there r.layers n (entry_in r.edition (directory_in used buffer) n) some inside

-- ---- `jump`, `jump_either_edition`
abbrev header_of : Answer LayerEntry → Answer ℕ
header_of (given x) = given x.header
header_of (refused number at) = refused number at

module _ (used : ℕ) (buffer : List ℕ) (n : ℕ) where
  pub jump-refused : (w : Refusal) → refused_by w ≡ judge_directory used buffer → jumped_answer (Err w) ≡ jump used buffer n
  unfolding jumped_answer jump
  jump-refused w q = ap (λ (v : Answer Counts). after_judging v (in_count (layer_count (last_record used buffer)) n (listed_in One (directory_in used buffer) n 0))) q

  pub either-refused : (w : Refusal) → refused_by w ≡ judge_either_edition used buffer → jumped_either_answer (Err w) ≡ jump_either_edition used buffer n
  unfolding jumped_either_answer jump_either_edition
  either-refused w q = ap (λ (v : Answer Counts). after_judging v (in_count (layer_count (last_record used buffer)) n (entry_in (edition_of (last_record used buffer)) (directory_in used buffer) n))) q

  module _ (f : Found) where
    pub either-entry : FoundRight (judge_either_edition used buffer) (edition_of (last_record used buffer)) used buffer f → (r : Result Directory.LayerEntry Refusal) → jumped_either_answer r ≡ in_count f.layers n (entry_in f.edition (directory_in used buffer) n) → jumped_either_answer r ≡ jump_either_edition used buffer n
    unfolding jump_either_edition
    either-entry g r q =
        q
        ∙ ap₂ (λ (k : ℕ) (e : Edition). in_count k n (entry_in e (directory_in used buffer) n)) g.behind.count_is g.edition_is
        ∙ ap (λ (v : Answer Counts). after_judging v (in_count (layer_count (last_record used buffer)) n (entry_in (edition_of (last_record used buffer)) (directory_in used buffer) n))) g.answer_is

    module _ (g : FoundRight (judge_directory used buffer) One used buffer f) where
      headers : jump used buffer n ≡ in_count f.layers n (listed_in One (directory_in used buffer) n 0)
      unfolding jump
      headers = sym (ap (λ (k : ℕ). in_count k n (listed_in One (directory_in used buffer) n 0)) g.behind.count_is ∙ ap (λ (v : Answer Counts). after_judging v (in_count (layer_count (last_record used buffer)) n (listed_in One (directory_in used buffer) n 0))) g.answer_is)

      by_first : (a : Answer LayerEntry) → a ≡ in_count f.layers n (entry_in f.edition (directory_in used buffer) n) → header_of a ≡ jump used buffer n
      by_first a q = ap header_of (q ∙ ap (λ (e : Edition). in_count f.layers n (entry_in e (directory_in used buffer) n)) g.edition_is) ∙ go (leb 1 n && leb n f.layers) ∙ sym headers
        where
          go : (t : Bool) → header_of (cond t (given (entry_in One (directory_in used buffer) n)) (refused 17 0)) ≡ cond t (given (listed_in One (directory_in used buffer) n 0)) (refused 17 0)
          go true = refl
          go false = refl

      pub jump-entry : (x : Directory.LayerEntry) → jumped_either_answer (Ok x) ≡ in_count f.layers n (entry_in f.edition (directory_in used buffer) n) → jumped_answer (Ok x.header) ≡ jump used buffer n
      unfolding jumped_answer jumped_either_answer
      jump-entry x q = by_first (jumped_either_answer (Ok x)) q

      pub jump-outside : (w : Refusal) → jumped_either_answer (Err w) ≡ in_count f.layers n (entry_in f.edition (directory_in used buffer) n) → jumped_answer (Err w) ≡ jump used buffer n
      unfolding jumped_answer jumped_either_answer
      jump-outside w q = by_first (jumped_either_answer (Err w)) q
