-- Order 5: ours passes, nothing else does, and jumping is counting from the front; of every edition. Assumes nothing.
use mathlib.Core.Path.{◌≡◌, refl, ap, ap₂, sym, ◌∙◌, subst}
use mathlib.Core.Bool.{Bool, true, false, cond, ◌&&◌}
use mathlib.Core.List.{List, [], ◌∷◌, ◌++◌, append_assoc, map}
use Prim.Native.Nat.{ℕ, suc, pred, ◌+◌, ◌*◌, ◌/◌, ◌%◌, ◌≤◌, ◌<◌}
use native.Mathlib.Omega.{arith}
use lib.Dec.{leb}
use lib.ListN.{length, length-append, length-drop, take, drop, get_or}
use lib.Seq.{drop_at, get_or_at, get_or-drop}
use borrow.Author.Tests.{leb-true, le-leb, eq-eqb, lt-ltb}
use Rattle.format.specs.Basics.{Answer, given, refused, Outcome, Fault, none, fault, chunks, flat, round_up}
use Rattle.format.specs.Judge.{Counts, after_stage_one, judge_records, judge_sheet}
use Rattle.format_directory.specs.declared.Edition.{Edition}
use Rattle.format_directory.specs.declared.Edition.TheVariants.{One}
use Rattle.format_directory.specs.Directory.{layers_of, end_letters, listed, per_layer, per_record, end_columns, row, closing, shared, directory_of, used_ok, last_record, pointer_in, layer_count, are_written, closing_ok, differs, after_sheet, judge_from, after_closing, judge_edition, judge_directory, append_to, append_directory, in_count, after_judging, listed_in, sheet_in, directory_in, jump, layer_of, counted_header}
use Rattle.format.specs.Text.{same}
use Rattle.format.proofs.Basics.{and-true, true_and}
use Rattle.format.proofs.Lists.{Wide, wide_append, chunks-flat, length-flat, length-chunks, flat_append}
use Rattle.format.proofs.JudgeStages.{Whole, stage_given}
use Rattle.format.proofs.AcceptedSheet.{whole-records}
use Rattle.format.proofs.JudgeRecords.{taken, sheet-own, sheet_by, wide_84, some_84, few_84}
use Rattle.format_directory.proofs.DirectoryRecords.{wide_directory, pointer_closing, count-closing, ok_closing, differs_self, differs_none, directory_lists}
use Rattle.format_directory.proofs.DirectoryRecords as DirectoryRecords
use Rattle.format_directory.proofs.DirectoryLayers.{sheet-layers, sheet-fit}

-- ---- a sheet with its directory: whole records, the pointer among them, before it an accepted sheet, from it on the right directory of that sheet's layers
pub record RightDirectory (e : Edition) (used : ℕ) (buffer : List ℕ) (counts : Counts) : Type 0 where
  pub whole : used_ok used buffer ≡ true
  pub low : 1 ≤ pointer_in (last_record used buffer)
  pub high : pointer_in (last_record used buffer) ≤ used / 84
  pub sheet : judge_sheet (84 * pred (pointer_in (last_record used buffer))) buffer ≡ given counts
  pub directory : directory_in used buffer ≡ directory_of e (pointer_in (last_record used buffer)) (layers_of (sheet_in used buffer))

-- ---- the k records R of an accepted sheet
pub record Accepted (R : List (List ℕ)) (k : ℕ) (c : Counts) : Type 0 where
  pub wide : Wide R
  pub count : length R ≡ k
  pub some : 0 < k
  pub few : k ≤ 200000
  pub judged : judge_records R ≡ given c

pub accepted_of : (used : ℕ) (b : List ℕ) (c : Counts) → judge_sheet used b ≡ given c → Accepted (chunks (used / 84) b) (used / 84) c
accepted_of used b c e = record { wide = wide_84 used b f; count = length-chunks (used / 84) b; some = some_84 used b f; few = few_84 used b f; judged = sym (sheet-own used b f) ∙ e }
  where
    f : Whole used b
    f = whole-records (record { counts = c; judged = e })

pub few-layers : (R : List (List ℕ)) (k : ℕ) (c : Counts) → Accepted R k c → length (layers_of R) ≤ k
few-layers R k c h = omega (arith, sheet-layers R c h.judged (omega (arith, h.few, h.count)), h.count)

-- ---- the right directory behind it, and some bytes z behind that: in all m records, in a buffer B
module _ (e : Edition) (R : List (List ℕ)) (k : ℕ) (z : List ℕ) (c : Counts) (h : Accepted R k c) where
  rows : List (List ℕ)
  rows = map (row e) (shared (per_record e) (round_up (length (layers_of R)) (per_record e)) (layers_of R))

  pub m : ℕ
  m = k + length (directory_of e (suc k) (layers_of R))

  pub B : List ℕ
  B = flat (R ++ directory_of e (suc k) (layers_of R)) ++ z

  is_D : directory_of e (suc k) (layers_of R) ≡ rows ++ (closing e (suc k) (length (layers_of R)) ∷ [])
  unfolding directory_of rows
  is_D = refl

  length_D : length (directory_of e (suc k) (layers_of R)) ≡ suc (length rows)
  length_D = ap length is_D ∙ length-append rows (closing e (suc k) (length (layers_of R)) ∷ []) ∙ (omega arith)

  all_wide : Wide (R ++ directory_of e (suc k) (layers_of R))
  all_wide = wide_append R (directory_of e (suc k) (layers_of R)) h.wide (wide_directory e (suc k) (layers_of R))

  all-count : length (R ++ directory_of e (suc k) (layers_of R)) ≡ m
  unfolding m
  all-count = length-append R (directory_of e (suc k) (layers_of R)) ∙ ap (λ (x : ℕ). x + length (directory_of e (suc k) (layers_of R))) h.count

  some_more : k < m
  unfolding m
  some_more = omega (arith, length_D)

  pub records_are : chunks (84 * m / 84) B ≡ R ++ directory_of e (suc k) (layers_of R)
  unfolding B
  records_are = ap (λ (j : ℕ). chunks j (flat (R ++ directory_of e (suc k) (layers_of R)) ++ z)) is ∙ chunks-flat (R ++ directory_of e (suc k) (layers_of R)) z all_wide
    where
      is : 84 * m / 84 ≡ length (R ++ directory_of e (suc k) (layers_of R))
      is = omega (arith, all-count)

  -- where nothing stands behind it, the buffer is the file
  pub length_B : z ≡ [] → length B ≡ 84 * m
  unfolding B
  length_B q = length-append (flat (R ++ directory_of e (suc k) (layers_of R))) z ∙ ap₂ (λ (x y : ℕ). x + y) (length-flat (R ++ directory_of e (suc k) (layers_of R)) all_wide ∙ ap (λ (n : ℕ). 84 * n) all-count) (ap length q) ∙ (omega arith)

  pub last_is : last_record (84 * m) B ≡ closing e (suc k) (length (layers_of R))
  unfolding last_record
  last_is = ap (λ (x : List (List ℕ)). get_or x (pred (84 * m / 84)) []) (records_are ∙ ap (λ (x : List (List ℕ)). R ++ x) is_D ∙ sym (append_assoc R rows (closing e (suc k) (length (layers_of R)) ∷ []))) ∙ get_or_at (R ++ rows) (closing e (suc k) (length (layers_of R))) [] [] (pred (84 * m / 84)) place
    where
      place : length (R ++ rows) ≡ pred (84 * m / 84)
      place = length-append R rows ∙ (omega (arith, all-count, length-append R (directory_of e (suc k) (layers_of R)), length_D))

  pub pointer_is : pointer_in (last_record (84 * m) B) ≡ suc k
  pointer_is = ap pointer_in last_is ∙ pointer_closing (suc k) (length (layers_of R)) (omega (arith, h.few)) (omega (arith, h.few, few-layers R k c h)) e

  B_sheet : B ≡ flat R ++ (flat (directory_of e (suc k) (layers_of R)) ++ z)
  unfolding B
  B_sheet = ap (λ (x : List ℕ). x ++ z) (flat_append R (directory_of e (suc k) (layers_of R))) ∙ append_assoc (flat R) (flat (directory_of e (suc k) (layers_of R))) z

  sheet_is : judge_sheet (84 * k) B ≡ given c
  sheet_is = ap (judge_sheet (84 * k)) B_sheet ∙ sheet_by R k (flat (directory_of e (suc k) (layers_of R)) ++ z) h.wide h.count h.some h.few ∙ h.judged

  pub front_is : chunks k B ≡ R
  front_is = ap₂ chunks (sym h.count) B_sheet ∙ chunks-flat R (flat (directory_of e (suc k) (layers_of R)) ++ z) h.wide

  from_is : judge_from e (suc k) (84 * m) B ≡ given c
  unfolding judge_from
  from_is = ap₂ after_sheet sheet_is (ap₂ (λ (x y : List (List ℕ)). differs (suc k) x y) (ap (drop k) records_are ∙ drop_at R (directory_of e (suc k) (layers_of R)) k h.count) (ap (λ (x : List (List ℕ)). directory_of e (suc k) (layers_of x)) front_is) ∙ differs_self (suc k) (directory_of e (suc k) (layers_of R)))

  pub right_edition : judge_edition e (84 * m) B ≡ given c
  unfolding judge_edition
  right_edition = ap₂ (λ (t : Bool) (v : Answer Counts). after_closing t (84 * m / 84) v) (ap (closing_ok e (84 * m / 84)) last_is ∙ ok_closing (suc k) (length (layers_of R)) (omega (arith, h.few)) (omega (arith, h.few, few-layers R k c h)) e (84 * m / 84) (omega arith) (omega (arith, some_more))) (ap (λ (p : ℕ). judge_from e p (84 * m) B) pointer_is ∙ from_is)

  pub right-used : used_ok (84 * m) B ≡ true
  unfolding B
  right-used = true_and _ _ (true_and _ _ (lt-ltb 0 (84 * m) (omega (arith, some_more))) (le-leb (84 * m) (length (flat (R ++ directory_of e (suc k) (layers_of R)) ++ z)) (rw (length-append (flat (R ++ directory_of e (suc k) (layers_of R))) z) (omega (arith, length-flat (R ++ directory_of e (suc k) (layers_of R)) all_wide, all-count))))) (eq-eqb (84 * m % 84) 0 (omega arith))

-- ---- what acceptance says
closing-given : (t : Bool) (i : ℕ) (v : Answer Counts) (c : Counts) → after_closing t i v ≡ given c → (t ≡ true) × (v ≡ given c)
closing-given true i v c e = (refl, e)
closing-given false i v c e = let z : ◌≡◌ {A = ℕ} 0 1 = cc in absurd (omega arith)

sheet-given : (v : Answer Counts) (f : Fault) (c : Counts) → after_sheet v f ≡ given c → (v ≡ given c) × (f ≡ none)
sheet-given (given x) none c e = (e, refl)
sheet-given (given x) (fault n r) c e = let z : ◌≡◌ {A = ℕ} 0 1 = cc in absurd (omega arith)
sheet-given (refused n r) f c e = let z : ◌≡◌ {A = ℕ} 0 1 = cc in absurd (omega arith)

pub accepted-right : (e : Edition) (used : ℕ) (b : List ℕ) (c : Counts) → used_ok used b ≡ true → judge_edition e used b ≡ given c → RightDirectory e used b c
unfolding judge_edition judge_from closing_ok directory_in sheet_in
accepted-right e used b c w h = record { whole = w; low = leb-true _ _ y.1; high = leb-true _ _ x.1; sheet = v.0; directory = differs_none (pointer_in (last_record used b)) _ _ v.1 }
  where
    u : (closing_ok e (used / 84) (last_record used b) ≡ true) × (judge_from e (pointer_in (last_record used b)) used b ≡ given c)
    u = closing-given _ (used / 84) _ c h

    v : (judge_sheet (84 * pred (pointer_in (last_record used b))) b ≡ given c) × (differs (pointer_in (last_record used b)) (drop (pred (pointer_in (last_record used b))) (chunks (used / 84) b)) (directory_of e (pointer_in (last_record used b)) (layers_of (chunks (pred (pointer_in (last_record used b))) b))) ≡ none)
    v = sheet-given _ _ c u.1

    x : (same (take 2 (last_record used b)) (end_letters e) && are_written (end_columns e) (drop 2 (last_record used b)) && leb 1 (pointer_in (last_record used b)) ≡ true) × (leb (pointer_in (last_record used b)) (used / 84) ≡ true)
    x = and-true _ _ u.0

    y : (same (take 2 (last_record used b)) (end_letters e) && are_written (end_columns e) (drop 2 (last_record used b)) ≡ true) × (leb 1 (pointer_in (last_record used b)) ≡ true)
    y = and-true _ _ x.0

-- the last of some records, found behind the first q
pub last-behind : (C X : List (List ℕ)) (y : List ℕ) (q M : ℕ) → length C ≡ M → q < M → drop q C ≡ X ++ (y ∷ []) → get_or C (pred M) [] ≡ y
last-behind C X y q M n l e = ap (λ (j : ℕ). get_or C j []) place ∙ sym (get_or-drop q C (length X) []) ∙ ap (λ (Z : List (List ℕ)). get_or Z (length X) []) e ∙ get_or_at X y [] [] (length X) refl
  where
    place : pred M ≡ q + length X
    place = omega (arith, sym (length-drop q C) ∙ ap length e ∙ length-append X (y ∷ []))

directory_is : (used : ℕ) (b : List ℕ) → directory_in used b ≡ drop (pred (pointer_in (last_record used b))) (chunks (used / 84) b)
unfolding directory_in
directory_is used b = refl

last_is_get : (used : ℕ) (b : List ℕ) → last_record used b ≡ get_or (chunks (used / 84) b) (pred (used / 84)) []
unfolding last_record
last_is_get used b = refl

module _ (e : Edition) (used : ℕ) (b : List ℕ) (c : Counts) (r : RightDirectory e used b c) where
  pub right-sheet : Accepted (sheet_in used b) (pred (pointer_in (last_record used b))) c
  unfolding sheet_in
  right-sheet = subst (λ (j : ℕ). Accepted (chunks j b) j c) whole₁ (accepted_of (84 * pred (pointer_in (last_record used b))) b c r.sheet)
    where
      whole₁ : 84 * pred (pointer_in (last_record used b)) / 84 ≡ pred (pointer_in (last_record used b))
      whole₁ = omega arith

  pub pointer_few : pointer_in (last_record used b) < 10000000
  pointer_few = omega (arith, right-sheet.few)

  pub layers-few : length (layers_of (sheet_in used b)) < 10000000
  layers-few = omega (arith, right-sheet.few, few-layers (sheet_in used b) (pred (pointer_in (last_record used b))) c right-sheet)

  pub right-last : last_record used b ≡ closing e (pointer_in (last_record used b)) (length (layers_of (sheet_in used b)))
  right-last = go (pointer_in (last_record used b)) r.low r.high (sym (directory_is used b) ∙ r.directory ∙ DirectoryRecords.directory_is e (pointer_in (last_record used b)) (layers_of (sheet_in used b)))
    where
      go : (p : ℕ) → 1 ≤ p → p ≤ used / 84 → drop (pred p) (chunks (used / 84) b) ≡ map (row e) (shared (per_record e) (round_up (length (layers_of (sheet_in used b))) (per_record e)) (layers_of (sheet_in used b))) ++ (closing e p (length (layers_of (sheet_in used b))) ∷ []) → last_record used b ≡ closing e p (length (layers_of (sheet_in used b)))
      go p l u d = last_is_get used b ∙ last-behind (chunks (used / 84) b) (map (row e) (shared (per_record e) (round_up (length (layers_of (sheet_in used b))) (per_record e)) (layers_of (sheet_in used b)))) (closing e p (length (layers_of (sheet_in used b)))) (pred p) (used / 84) (length-chunks (used / 84) b) (omega arith) d

  pub right-count : layer_count (last_record used b) ≡ length (layers_of (sheet_in used b))
  right-count = ap layer_count right-last ∙ count-closing (pointer_in (last_record used b)) (length (layers_of (sheet_in used b))) pointer_few layers-few e

  -- WHAT IS READ IS WHAT IS COUNTED: number i of layer n
  pub read_counted : (n i : ℕ) → 1 ≤ n → n ≤ length (layers_of (sheet_in used b)) → i < per_layer e → listed_in e (directory_in used b) n i ≡ get_or (listed e (layer_of (sheet_in used b) n)) i 0
  read_counted n i l u k = ap (λ (d : List (List ℕ)). listed_in e d n i) r.directory ∙ directory_lists e (layers_of (sheet_in used b)) (pointer_in (last_record used b)) n i (sheet-fit (sheet_in used b) c right-sheet.judged (omega (arith, right-sheet.few, right-sheet.count))) l u k

  pub right-accepted : judge_edition e used b ≡ given c
  unfolding judge_edition judge_from directory_in sheet_in
  right-accepted = ap₂ (λ (t : Bool) (v : Answer Counts). after_closing t (used / 84) v) ended (ap₂ after_sheet r.sheet (ap (λ (x : List (List ℕ)). differs (pointer_in (last_record used b)) x (directory_of e (pointer_in (last_record used b)) (layers_of (sheet_in used b)))) r.directory ∙ differs_self (pointer_in (last_record used b)) (directory_of e (pointer_in (last_record used b)) (layers_of (sheet_in used b)))))
    where
      ended : closing_ok e (used / 84) (last_record used b) ≡ true
      ended = ap (closing_ok e (used / 84)) right-last ∙ ok_closing (pointer_in (last_record used b)) (length (layers_of (sheet_in used b))) pointer_few layers-few e (used / 84) r.low r.high

-- a number within the count, or 17: whatever is found there
module _ {A : Type 0} where
  pub in_counts : (k n : ℕ) (x y : A) → (1 ≤ n → n ≤ k → x ≡ y) → in_count k n x ≡ in_count k n y
  in_counts k n x y same₁ = go (leb 1 n && leb n k) refl
    where
      go : (t : Bool) → leb 1 n && leb n k ≡ t → cond t (given x) (refused 17 0) ≡ cond t (given y) (refused 17 0)
      go true h = let q = and-true (leb 1 n) (leb n k) h in ap given (same₁ (leb-true 1 n q.0) (leb-true n k q.1))
      go false h = refl

-- ---- an accepted append
pub record Ours (e : Edition) (used : ℕ) (b : List ℕ) (u : ℕ) : Type 0 where
  pub counts : Counts
  pub judged : judge_sheet used b ≡ given counts
  pub sheet : Accepted (chunks (used / 84) b) (used / 84) counts
  pub used_is : u ≡ 84 * m e (chunks (used / 84) b) (used / 84) (drop u b) counts sheet
  pub buffer_is : (append_directory e used b).bytes ≡ B e (chunks (used / 84) b) (used / 84) (drop u b) counts sheet

pub ours : (e : Edition) (used : ℕ) (b : List ℕ) (u : ℕ) → (append_directory e used b).answer ≡ given u → Ours e used b u
unfolding append_directory m B
ours e used b u h = go (judge_sheet used b) refl h
  where
    D : List (List ℕ)
    D = directory_of e (suc (used / 84)) (layers_of (chunks (used / 84) b))

    go : (v : Answer Counts) → judge_sheet used b ≡ v → (append_to v used D b).answer ≡ given u → Ours e used b u
    go (refused n r) p q = let z : ◌≡◌ {A = ℕ} 0 1 = cc in absurd (omega arith)
    go (given c) p q = fit (leb (used + 84 * length D) (length b)) refl q
      where
        form : Whole used b
        form = whole-records (record { counts = c; judged = p })

        done : Bool → Outcome ℕ
        done t = cond t (record { answer = given (used + 84 * length D); bytes = take used b ++ (flat D ++ drop (used + 84 * length D) b) }) (record { answer = refused 15 0; bytes = b })

        fit : (t : Bool) → leb (used + 84 * length D) (length b) ≡ t → (done t).answer ≡ given u → Ours e used b u
        fit false s q = let z : ◌≡◌ {A = ℕ} 0 1 = cc in absurd (omega arith)
        fit true s q = let new : used + 84 * length D ≡ u = cc in record { counts = c; judged = p; sheet = accepted_of used b c p; used_is = omega (arith, new, form.even); buffer_is = ap (λ (v : Answer Counts). (append_to v used D b).bytes) p ∙ ap (λ (t : Bool). (done t).bytes) s ∙ ap₂ (λ (x : List ℕ) (y : ℕ). x ++ (flat D ++ drop y b)) (sym (taken used b form)) new ∙ sym (append_assoc (flat (chunks (used / 84) b)) (flat D) (drop u b)) ∙ ap (λ (x : List ℕ). x ++ drop u b) (sym (flat_append (chunks (used / 84) b) D)) }

module _ (e : Edition) (used : ℕ) (b : List ℕ) (u : ℕ) (h : (append_directory e used b).answer ≡ given u) where
  o : Ours e used b u
  o = ours e used b u h

  pub our_last : last_record u (append_directory e used b).bytes ≡ closing e (suc (used / 84)) (length (layers_of (chunks (used / 84) b)))
  our_last = ap₂ last_record o.used_is o.buffer_is ∙ last_is e (chunks (used / 84) b) (used / 84) (drop u b) o.counts o.sheet

  pub our_edition : judge_edition e u (append_directory e used b).bytes ≡ judge_sheet used b
  our_edition = ap₂ (judge_edition e) o.used_is o.buffer_is ∙ right_edition e (chunks (used / 84) b) (used / 84) (drop u b) o.counts o.sheet ∙ sym o.judged

  pub our_used : used_ok u (append_directory e used b).bytes ≡ true
  our_used = ap₂ used_ok o.used_is o.buffer_is ∙ right-used e (chunks (used / 84) b) (used / 84) (drop u b) o.counts o.sheet

  pub our_sheet : sheet_in u (append_directory e used b).bytes ≡ chunks (used / 84) b
  unfolding sheet_in
  our_sheet = ap₂ (λ (p : ℕ) (x : List ℕ). chunks (pred p) x) (ap₂ (λ (x : ℕ) (y : List ℕ). pointer_in (last_record x y)) o.used_is o.buffer_is ∙ pointer_is e (chunks (used / 84) b) (used / 84) (drop u b) o.counts o.sheet) o.buffer_is ∙ front_is e (chunks (used / 84) b) (used / 84) (drop u b) o.counts o.sheet

  pub our_counts : Counts
  our_counts = o.counts

  pub our_judged : judge_sheet used b ≡ given our_counts
  unfolding our_counts
  our_judged = o.judged

-- ---- of the first edition
-- "ours passes", with the sheet's own records and items
pub ours_passes : (used : ℕ) (b : List ℕ) (u : ℕ) → (append_directory One used b).answer ≡ given u → judge_directory u (append_directory One used b).bytes ≡ judge_sheet used b
unfolding judge_directory
ours_passes used b u h = ap₂ after_stage_one (our_used One used b u h) (our_edition One used b u h)

-- "We accept a directory exactly when"
pub accepted_exactly : (used : ℕ) (b : List ℕ) (c : Counts) → (judge_directory used b ≡ given c → RightDirectory One used b c) × (RightDirectory One used b c → judge_directory used b ≡ given c)
unfolding judge_directory
accepted_exactly used b c = (λ h. let p = stage_given (used_ok used b) (judge_edition One used b) c h in accepted-right One used b c p.0 p.1, λ r. ap₂ after_stage_one r.whole (right-accepted One used b c r))

-- "Jumping to layer n gives what counting from the front gives"
pub jump-counts : (used : ℕ) (b : List ℕ) (c : Counts) (n : ℕ) → judge_directory used b ≡ given c → jump used b n ≡ counted_header (sheet_in used b) n
unfolding jump counted_header
jump-counts used b c n h = ap (λ (v : Answer Counts). after_judging v (in_count (layer_count (last_record used b)) n (listed_in One (directory_in used b) n 0))) h ∙ ap (λ (k : ℕ). in_count k n (listed_in One (directory_in used b) n 0)) (right-count One used b c r) ∙ in_counts (length (layers_of (sheet_in used b))) n _ _ (λ l u. read_counted One used b c r n 0 l u (omega arith))
  where
    r : RightDirectory One used b c
    r = (accepted_exactly used b c).0 h

pub ours_jump : (used : ℕ) (b : List ℕ) (u n : ℕ) → (append_directory One used b).answer ≡ given u → jump u (append_directory One used b).bytes n ≡ counted_header (chunks (used / 84) b) n
ours_jump used b u n h = jump-counts u (append_directory One used b).bytes (our_counts One used b u h) n (ours_passes used b u h ∙ our_judged One used b u h) ∙ ap (λ (x : List (List ℕ)). counted_header x n) (our_sheet One used b u h)
