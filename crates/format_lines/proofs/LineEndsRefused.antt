-- Which refusal is answered, at which record: 1, then 18, then those of the plain twin or of a short target. Assumes nothing.
use mathlib.Core.Path.{◌≡◌, refl, ap, ap₂, sym, ◌∙◌}
use mathlib.Core.Logic.{◌↔◌, inl, inr}
use mathlib.Core.Bool.{Bool, true, false}
use mathlib.Core.List.{List, [], ◌∷◌}
use Prim.Native.Nat.{ℕ, zero, suc, ◌+◌, ◌*◌, ◌/◌, ◌≤◌, ◌<◌}
use native.Mathlib.Omega.{arith}
use lib.Dec.{leb}
use borrow.Author.Tests.{leb-true, leb-false}
use lib.ListN.{length, take, drop, get_or, length-drop}
use lib.Seq.{length-take-le, get_or-take, get_or-drop, drop-cons, drop-length}
use Rattle.format.specs.Basics.{Answer, given, refused, unless, Fault, none, fault, or_else, to_fault, length_ok}
use Rattle.format.specs.Judge.{Counts, judge_sheet, judge_index}
use Rattle.format.specs.Checks.{LengthFails, FirstOf, AnswersFirst, SheetRefusal, IndexRefusal}
use Rattle.format.proofs.JudgeStages.{WholeOf, length_ok_lem}
use Rattle.format.proofs.ChecksOrder.{Decides, decides_map, values-first, refusal_first}
use Rattle.format.proofs.ChecksStages.{length-says}
use Rattle.format.proofs.ChecksParts.{same_decides}
use Rattle.format.proofs.ChecksJudging.{sheet-refused}
use Rattle.format.proofs.ChecksIndex.{index-refused}
use Rattle.format_lines.specs.LineEnds.{lines, line_end, end_ok, end_fault, plain_fault, line_fault, plain_twin, line_twin, judge_sheet_lines, judge_index_lines, target_fault, write_to, to_lines, from_lines}
use Rattle.format_lines.specs.LineEndsChecks.{Ended, FirstUnended, LineRefusal, wrong_length, wrong_end, after_these, ShortTarget, over_checks}
use Rattle.format_lines.proofs.LineEnds.{length-line_twin, length-plain_twin}

-- ---- a line of 86 bytes ends in 13, 10
two_bytes : (l : List ℕ) → length l ≡ 86 → drop 84 l ≡ get_or l 84 0 ∷ get_or l 85 0 ∷ []
two_bytes l e = drop-cons l 84 0 (omega arith) ∙ ap (λ (x : List ℕ). get_or l 84 0 ∷ x) (drop-cons l 85 0 (omega arith) ∙ ap (λ (x : List ℕ). get_or l 85 0 ∷ x) (ap (λ (n : ℕ). drop n l) (sym e) ∙ drop-length l))

ended_decides : (l : List ℕ) → length l ≡ 86 → Decides (end_ok l) ((get_or l 84 0 ≡ 13) × (get_or l 85 0 ≡ 10))
unfolding end_ok
ended_decides l e = decides_map (λ q. let p : get_or l 84 0 ∷ get_or l 85 0 ∷ [] ≡ line_end = sym (two_bytes l e) ∙ q in let a : get_or l 84 0 ≡ 13 = cc in let b : get_or l 85 0 ≡ 10 = cc in (a, b)) (λ q. two_bytes l e ∙ ap₂ (λ (x y : ℕ). x ∷ y ∷ []) q.0 q.1) (same_decides (drop 84 l) line_end)

pub first_decides : (bs : List ℕ) → 86 ≤ length bs → Decides (end_ok (take 86 bs)) (Ended bs 0)
first_decides bs h = decides_map (λ q. (sym (get_or-take 86 bs 84 0 (omega arith)) ∙ q.0, sym (get_or-take 86 bs 85 0 (omega arith)) ∙ q.1)) (λ q. (get_or-take 86 bs 84 0 (omega arith) ∙ q.0, get_or-take 86 bs 85 0 (omega arith) ∙ q.1)) (ended_decides (take 86 bs) (length-take-le 86 bs h))

-- line k behind the first is line k + 1
behind-first : (bs : List ℕ) (k i : ℕ) → get_or (drop 86 bs) (86 * k + i) 0 ≡ get_or bs (86 * suc k + i) 0
behind-first bs k i = get_or-drop 86 bs (86 * k + i) 0 ∙ ap (λ (j : ℕ). get_or bs j 0) (let p : 86 + (86 * k + i) ≡ 86 * suc k + i = omega arith in p)

later_ended : (bs : List ℕ) (k : ℕ) → Ended (drop 86 bs) k → Ended bs (suc k)
later_ended bs k e = (sym (behind-first bs k 84) ∙ e.0, sym (behind-first bs k 85) ∙ e.1)

ended_later : (bs : List ℕ) (k : ℕ) → Ended bs (suc k) → Ended (drop 86 bs) k
ended_later bs k e = (behind-first bs k 84 ∙ e.0, behind-first bs k 85 ∙ e.1)

-- ---- the first of n lines that does not
data Ends (i n : ℕ) (bs : List ℕ) : Type 0 where
  all : end_fault i (lines n bs) ≡ none → ((k : ℕ) → k < n → Ended bs k) → Ends i n bs
  one : (before : ℕ) → before < n → (Ended bs before → ⊥) → ((k : ℕ) → k < before → Ended bs k) → end_fault i (lines n bs) ≡ fault 18 (i + before) → Ends i n bs

first_and_later : (bs : List ℕ) (n : ℕ) → Ended bs 0 → ((k : ℕ) → k < n → Ended (drop 86 bs) k) → (k : ℕ) → k < suc n → Ended bs k
first_and_later bs n e each zero h = e
first_and_later bs n e each (suc k) h = later_ended bs k (each k (omega arith))

ends : (i n : ℕ) (bs : List ℕ) → 86 * n ≤ length bs → Ends i n bs
ends i zero bs h = all refl (λ k l. absurd (omega arith))
ends i (suc n) bs h = go (end_ok (take 86 bs)) refl (ends (suc i) n (drop 86 bs) (rw (length-drop 86 bs) (omega arith)))
  where
    d : Decides (end_ok (take 86 bs)) (Ended bs 0)
    d = first_decides bs (omega arith)

    by : (t : Bool) → end_ok (take 86 bs) ≡ t → end_fault i (lines (suc n) bs) ≡ or_else (to_fault (unless t 18) i) (end_fault (suc i) (lines n (drop 86 bs)))
    by t e = ap (λ (t : Bool). or_else (to_fault (unless t 18) i) (end_fault (suc i) (lines n (drop 86 bs)))) e

    go : (t : Bool) → end_ok (take 86 bs) ≡ t → Ends (suc i) n (drop 86 bs) → Ends i (suc n) bs
    go false e rest = one 0 (omega arith) (d.no e) (λ k l. absurd (omega arith)) (by false e ∙ ap (fault 18) (let p : i ≡ i + 0 = omega arith in p))
    go true e (all z each) = all (by true e ∙ z) (first_and_later bs n (d.yes e) each)
    go true e (one before l not each z) = one (suc before) (omega arith) (λ q. not (ended_later bs before q)) (first_and_later bs before (d.yes e) each) (by true e ∙ z ∙ ap (fault 18) (let p : suc i + before ≡ i + suc before = omega arith in p))

-- there is only one first
one_first : (n : ℕ) (bs : List ℕ) (a b : ℕ) → FirstUnended n bs a → FirstUnended n bs b → a ≡ b
one_first n bs a b u v = omega (arith, u.number_is, v.number_is, not-below u v, not-below v u)
  where
    not-below : {a b : ℕ} (u : FirstUnended n bs a) (v : FirstUnended n bs b) → u.before ≤ v.before
    not-below u v = go (leb u.before v.before) refl
      where
        go : (t : Bool) → leb u.before v.before ≡ t → u.before ≤ v.before
        go true e = leb-true u.before v.before e
        go false e = absurd (v.unended (u.first v.before (leb-false u.before v.before e)))

-- ---- the form of a file, 1 and 18
data LineForm (used : ℕ) (b : List ℕ) : Type 0 where
  short : LengthFails 86 used b → line_fault used b ≡ fault 1 0 → LineForm used b
  broken : (LengthFails 86 used b → ⊥) → (at : ℕ) → FirstUnended (used / 86) b at → line_fault used b ≡ fault 18 at → LineForm used b
  whole : (LengthFails 86 used b → ⊥) → WholeOf 86 used b → ((k : ℕ) → k < used / 86 → Ended b k) → line_fault used b ≡ none → LineForm used b

line-form : (used : ℕ) (b : List ℕ) → LineForm used b
unfolding line_fault
line-form used b = go (length_ok 86 used b) refl
  where
    by : (t : Bool) (f : Fault) → length_ok 86 used b ≡ t → end_fault 1 (lines (used / 86) b) ≡ f → line_fault used b ≡ or_else (to_fault (unless t 1) 0) f
    by t f p q = ap₂ (λ (t : Bool) (f : Fault). or_else (to_fault (unless t 1) 0) f) p q

    behind : (e : length_ok 86 used b ≡ true) → Ends 1 (used / 86) b → LineForm used b
    behind e (all z each) = whole ((length-says 86 used b).no e) (length_ok_lem 86 used b e) each (by true none e z)
    behind e (one before l not each z) = broken ((length-says 86 used b).no e) (suc before) (record { before = before; number_is = refl; inside = l; unended = not; first = each }) (by true (fault 18 (suc before)) e (z ∙ ap (fault 18) (let p : 1 + before ≡ suc before = omega arith in p)))

    go : (t : Bool) → length_ok 86 used b ≡ t → LineForm used b
    go false e = short ((length-says 86 used b).yes e) (by false _ e refl)
    go true e = let w : WholeOf 86 used b = length_ok_lem 86 used b e in behind e (ends 1 (used / 86) b (omega (arith, w.inside)))

-- ---- answers: the fault of the form, else what another answer is
module _ {A : Type 0} (used : ℕ) (b : List ℕ) (answer rest : Answer A) (Then : ℕ → ℕ → Type 0) (fails : (number at : ℕ) → line_fault used b ≡ fault number at → answer ≡ refused number at) (passes : line_fault used b ≡ none → answer ≡ rest) (then : WholeOf 86 used b → (number at : ℕ) → rest ≡ refused number at ↔ Then number at) where
  pub refused_exactly : (number at : ℕ) → answer ≡ refused number at ↔ LineRefusal used b Then number at
  refused_exactly number at = (there (line-form used b), back (line-form used b))
    where
      same : (n a : ℕ) → answer ≡ refused n a → answer ≡ refused number at → (number ≡ n) × (at ≡ a)
      same n a p q = let x : number ≡ n = cc in let y : at ≡ a = cc in (x, y)

      there : LineForm used b → answer ≡ refused number at → LineRefusal used b Then number at
      there (short f z) e = let p = same 1 0 (fails 1 0 z) e in wrong_length f p.0 p.1
      there (broken o a u z) e = let p = same 18 a (fails 18 a z) e in wrong_end o p.0 (rw p.1 u)
      there (whole o w each z) e = after_these o each ((then w number at).0 (sym (passes z) ∙ e))

      back : LineForm used b → LineRefusal used b Then number at → answer ≡ refused number at
      back (short f z) (wrong_length g p q) = fails 1 0 z ∙ ap₂ refused (sym p) (sym q)
      back (short f z) (wrong_end o p u) = absurd (o f)
      back (short f z) (after_these o each t) = absurd (o f)
      back (broken o a u z) (wrong_length g p q) = absurd (o g)
      back (broken o a u z) (wrong_end o2 p v) = fails 18 a z ∙ ap₂ refused (sym p) (one_first (used / 86) b a at u v)
      back (broken o a u z) (after_these o2 each t) = absurd (u.unended (each u.before u.inside))
      back (whole o w each z) (wrong_length g p q) = absurd (o g)
      back (whole o w each z) (wrong_end o2 p v) = absurd (v.unended (each v.before v.inside))
      back (whole o w each z) (after_these o2 each2 t) = passes z ∙ (then w number at).1 t

  pub given_exactly : (value : A) → answer ≡ given value ↔ ((LengthFails 86 used b → ⊥) × ((k : ℕ) → k < used / 86 → Ended b k) × (rest ≡ given value))
  given_exactly value = (there (line-form used b), back (line-form used b))
    where
      clash : (number at : ℕ) → answer ≡ refused number at → answer ≡ given value → ⊥
      clash number at p q = let x : ◌≡◌ {A = ℕ} 0 1 = cc in omega arith

      there : LineForm used b → answer ≡ given value → (LengthFails 86 used b → ⊥) × ((k : ℕ) → k < used / 86 → Ended b k) × (rest ≡ given value)
      there (short f z) e = absurd (clash 1 0 (fails 1 0 z) e)
      there (broken o a u z) e = absurd (clash 18 a (fails 18 a z) e)
      there (whole o w each z) e = (o, each, sym (passes z) ∙ e)

      back : LineForm used b → (LengthFails 86 used b → ⊥) × ((k : ℕ) → k < used / 86 → Ended b k) × (rest ≡ given value) → answer ≡ given value
      back (short f z) h = absurd (h.0 f)
      back (broken o a u z) h = absurd (u.unended (h.1 u.before u.inside))
      back (whole o w each z) h = passes z ∙ h.2

pub sheet-lines-refused : (used : ℕ) (b : List ℕ) (number at : ℕ) → judge_sheet_lines used b ≡ refused number at ↔ LineRefusal used b (SheetRefusal (length (plain_twin used b)) (plain_twin used b)) number at
unfolding judge_sheet_lines
sheet-lines-refused used b = refused_exactly used b (judge_sheet_lines used b) (judge_sheet (length (plain_twin used b)) (plain_twin used b)) (SheetRefusal (length (plain_twin used b)) (plain_twin used b)) (λ number at e. rw e) (λ e. rw e) (λ w. sheet-refused (length (plain_twin used b)) (plain_twin used b))

pub sheet-lines-accepted : (used : ℕ) (b : List ℕ) (counts : Counts) → judge_sheet_lines used b ≡ given counts ↔ ((LengthFails 86 used b → ⊥) × ((k : ℕ) → k < used / 86 → Ended b k) × (judge_sheet (length (plain_twin used b)) (plain_twin used b) ≡ given counts))
unfolding judge_sheet_lines
sheet-lines-accepted used b = given_exactly used b (judge_sheet_lines used b) (judge_sheet (length (plain_twin used b)) (plain_twin used b)) (SheetRefusal (length (plain_twin used b)) (plain_twin used b)) (λ number at e. rw e) (λ e. rw e) (λ w. sheet-refused (length (plain_twin used b)) (plain_twin used b))

pub index-lines-refused : (used : ℕ) (b : List ℕ) (number at : ℕ) → judge_index_lines used b ≡ refused number at ↔ LineRefusal used b (IndexRefusal (length (plain_twin used b)) (plain_twin used b)) number at
unfolding judge_index_lines
index-lines-refused used b = refused_exactly used b (judge_index_lines used b) (judge_index (length (plain_twin used b)) (plain_twin used b)) (IndexRefusal (length (plain_twin used b)) (plain_twin used b)) (λ number at e. rw e) (λ e. rw e) (λ w. index-refused (length (plain_twin used b)) (plain_twin used b))

pub index-lines-accepted : (used : ℕ) (b : List ℕ) (counts : Counts) → judge_index_lines used b ≡ given counts ↔ ((LengthFails 86 used b → ⊥) × ((k : ℕ) → k < used / 86 → Ended b k) × (judge_index (length (plain_twin used b)) (plain_twin used b) ≡ given counts))
unfolding judge_index_lines
index-lines-accepted used b = given_exactly used b (judge_index_lines used b) (judge_index (length (plain_twin used b)) (plain_twin used b)) (IndexRefusal (length (plain_twin used b)) (plain_twin used b)) (λ number at e. rw e) (λ e. rw e) (λ w. index-refused (length (plain_twin used b)) (plain_twin used b))

-- ---- writers
short_target : (result target : List ℕ) (m : ℕ) → length result ≡ m → (number at : ℕ) → (write_to (target_fault result target) result target).answer ≡ refused number at ↔ ShortTarget m target number at
short_target result target m e number at = go (leb (length result) (length target)) refl
  where
    go : (t : Bool) → leb (length result) (length target) ≡ t → (write_to (target_fault result target) result target).answer ≡ refused number at ↔ ShortTarget m target number at
    go true p = rw p (λ q. let x : ◌≡◌ {A = ℕ} 0 1 = cc in absurd (omega arith), λ q. absurd (omega (arith, e, q.0, leb-true (length result) (length target) p)))
    go false p = rw p (λ q. let x : number ≡ 15 = cc in let y : at ≡ 0 = cc in (omega (arith, e, leb-false (length result) (length target) p), x, y), λ q. let x : number ≡ 15 = q.1 in let y : at ≡ 0 = q.2 in cc)

pub from-lines-refused : (used : ℕ) (b target : List ℕ) (number at : ℕ) → (from_lines used b target).answer ≡ refused number at ↔ LineRefusal used b (ShortTarget (84 * (used / 86)) target) number at
unfolding from_lines
from-lines-refused used b target = refused_exactly used b (from_lines used b target).answer (write_to (target_fault (plain_twin used b) target) (plain_twin used b) target).answer (ShortTarget (84 * (used / 86)) target) (λ number at e. rw e) (λ e. rw e) (λ w. short_target (plain_twin used b) target (84 * (used / 86)) (length-plain_twin used b w))

-- to this form: 1, then 15, at record 0
pub to-lines-first : (used : ℕ) (b target : List ℕ) → AnswersFirst (over_checks used b target) (to_lines used b target).answer
unfolding to_lines plain_fault FirstOf
to-lines-first used b target = go (length_ok 84 used b) refl (leb (length (line_twin used b)) (length target)) refl
  where
    twin : length_ok 84 used b ≡ true → length (line_twin used b) ≡ 86 * (used / 84)
    twin e = length-line_twin used b (length_ok_lem 84 used b e)

    go : (s : Bool) → length_ok 84 used b ≡ s → (t : Bool) → leb (length (line_twin used b)) (length target) ≡ t → AnswersFirst (over_checks used b target) (to_lines used b target).answer
    go false e t p = rw e (refusal_first (over_checks used b target) 0 (inl ((length-says 84 used b).yes e, refl)))
    go true e true p = rw (e, p) (values-first (over_checks used b target) (length (line_twin used b)) (inr ((length-says 84 used b).no e, inr (λ q. omega (arith, q, twin e, leb-true (length (line_twin used b)) (length target) p), refl))))
    go true e false p = rw (e, p) (refusal_first (over_checks used b target) 14 (inr ((length-says 84 used b).no e, inl (omega (arith, twin e, leb-false (length (line_twin used b)) (length target) p), refl))))

-- a refused writer leaves the target as it was
left_whole : (f : Fault) (result target : List ℕ) (number at : ℕ) → (write_to f result target).answer ≡ refused number at → (write_to f result target).bytes ≡ target
left_whole none result target number at e = let x : ◌≡◌ {A = ℕ} 0 1 = cc in absurd (omega arith)
left_whole (fault n r) result target number at e = refl

pub over_left : (used : ℕ) (b target : List ℕ) (number at : ℕ) → (to_lines used b target).answer ≡ refused number at → (to_lines used b target).bytes ≡ target
unfolding to_lines
over_left used b target = left_whole (or_else (plain_fault used b) (target_fault (line_twin used b) target)) (line_twin used b) target

pub back_left : (used : ℕ) (b target : List ℕ) (number at : ℕ) → (from_lines used b target).answer ≡ refused number at → (from_lines used b target).bytes ≡ target
unfolding from_lines
back_left used b target = left_whole (or_else (line_fault used b) (target_fault (plain_twin used b) target)) (plain_twin used b) target
