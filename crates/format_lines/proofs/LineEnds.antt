-- Order 1: over and back gives the same bytes, and a file with line ends is judged as its plain twin. Assumes nothing.
use mathlib.Core.Path.{◌≡◌, refl, ap, ap₂, sym, ◌∙◌}
use mathlib.Core.Bool.{Bool, true, false}
use mathlib.Core.List.{List, [], ◌∷◌, ◌++◌, append_assoc, append-nil, map}
use Prim.Native.Nat.{ℕ, zero, suc, ◌+◌, ◌*◌, ◌/◌, ◌≤◌, ◌<◌}
use native.Mathlib.Omega.{arith}
use lib.Dec.{leb}
use borrow.Author.Tests.{le-leb, leb-true}
use lib.ListN.{length, length-append, length-map, length-drop, take, drop, take-append-drop}
use lib.Seq.{length-take-le, drop-drop, take_at, drop_at}
use Rattle.format.specs.Text.{same}
use Rattle.format.specs.Basics.{given, Outcome, unless, Fault, none, fault, or_else, to_fault, chunks, flat, length_ok}
use Rattle.format.specs.Judge.{judge_records, judge_index_records, judge_sheet, judge_index}
use Rattle.format_lines.specs.LineEnds.{lines, line_end, with_end, without_end, end_ok, end_fault, plain_fault, line_fault, plain_twin, line_twin, otherwise, judge_sheet_lines, judge_index_lines, target_fault, write_to, to_lines, from_lines}
use Rattle.format.proofs.Basics.{unless_zero}
use Rattle.format.proofs.ChecksParts.{same_decides}
use Rattle.format.proofs.Lists.{Wide, length-flat, length-chunks}
use Rattle.format.proofs.JudgeWalks.{or_else-none, to_fault-none}
use Rattle.format.proofs.JudgeStages.{WholeOf, length_ok_lem, whole_ok}
use Rattle.format.proofs.JudgeRecords.{wide_84, some_84, few_84, taken, sheet-own, index-own, whole_84, chunks-at, sheet_by, index_by}

-- ---- records with their line ends
pub length_end : (r : List ℕ) → length r ≡ 84 → length (with_end r) ≡ 86
unfolding with_end
length_end r e = rw (length-append r line_end) (omega (arith, e))

pub length-lined : (rs : List (List ℕ)) → Wide rs → length (flat (map with_end rs)) ≡ 86 * length rs
unfolding Wide
length-lined [] w = refl
length-lined (r ∷ rs) w = rw (length-append (with_end r) (flat (map with_end rs))) (omega (arith, length_end r w.0, length-lined rs w.1))

lines-lined : (rs : List (List ℕ)) (t : List ℕ) → Wide rs → lines (length rs) (flat (map with_end rs) ++ t) ≡ map with_end rs
unfolding Wide
lines-lined [] t w = refl
lines-lined (r ∷ rs) t w = rw (append_assoc (with_end r) (flat (map with_end rs)) t, take_at (with_end r) (flat (map with_end rs) ++ t) 86 (length_end r w.0), drop_at (with_end r) (flat (map with_end rs) ++ t) 86 (length_end r w.0), lines-lined rs t w.1)

plain-lined : (rs : List (List ℕ)) → Wide rs → map without_end (map with_end rs) ≡ rs
unfolding Wide with_end without_end
plain-lined [] w = refl
plain-lined (r ∷ rs) w = ap₂ (λ (u : List ℕ) (v : List (List ℕ)). u ∷ v) (take_at r line_end 84 w.0) (plain-lined rs w.1)

is_ended : (r : List ℕ) → length r ≡ 84 → end_ok (with_end r) ≡ true
unfolding with_end end_ok
is_ended r w = ap (λ (u : List ℕ). same u line_end) (drop_at r line_end 84 w)

all-ended : (i : ℕ) (rs : List (List ℕ)) → Wide rs → end_fault i (map with_end rs) ≡ none
unfolding Wide
all-ended i [] w = refl
all-ended i (r ∷ rs) w = rw (is_ended r w.0) (all-ended (suc i) rs w.1)

-- ---- lines whose ends are right
back_one : (x : List ℕ) → end_ok x ≡ true → with_end (without_end x) ≡ x
unfolding with_end without_end end_ok
back_one x e = ap (λ (u : List ℕ). take 84 x ++ u) (sym ((same_decides (drop 84 x) line_end).yes e)) ∙ take-append-drop 84 x

lined-plain : (i : ℕ) (ls : List (List ℕ)) → end_fault i ls ≡ none → map with_end (map without_end ls) ≡ ls
lined-plain i [] e = refl
lined-plain i (l ∷ ls) e = let p = or_else-none (to_fault (unless (end_ok l) 18) i) (end_fault (suc i) ls) e in ap₂ (λ (u : List ℕ) (v : List (List ℕ)). u ∷ v) (back_one l (unless_zero (end_ok l) 17 (to_fault-none (unless (end_ok l) 18) i p.0))) (lined-plain (suc i) ls p.1)

pub wide_plain : (n : ℕ) (bs : List ℕ) → 86 * n ≤ length bs → Wide (map without_end (lines n bs))
unfolding Wide without_end
wide_plain zero bs h = tt
wide_plain (suc n) bs h = (length-take-le 84 (take 86 bs) (omega (arith, length-take-le 86 bs (omega arith))), wide_plain n (drop 86 bs) (rw (length-drop 86 bs) (omega arith)))

pub length-lines : (n : ℕ) (bs : List ℕ) → length (lines n bs) ≡ n
length-lines zero bs = refl
length-lines (suc n) bs = ap suc (length-lines n (drop 86 bs))

flat-lines : (n : ℕ) (bs : List ℕ) → 86 * n ≤ length bs → flat (lines n bs) ++ drop (86 * n) bs ≡ bs
flat-lines zero bs h = refl
flat-lines (suc n) bs h = append_assoc (take 86 bs) (flat (lines n (drop 86 bs))) (drop (86 * suc n) bs) ∙ ap (λ (x : List ℕ). take 86 bs ++ x) (ap (λ (y : List ℕ). flat (lines n (drop 86 bs)) ++ y) more ∙ flat-lines n (drop 86 bs) (rw (length-drop 86 bs) (omega arith))) ∙ take-append-drop 86 bs
  where
    same₁ : 86 * suc n ≡ 86 + 86 * n
    same₁ = omega arith

    more : drop (86 * suc n) bs ≡ drop (86 * n) (drop 86 bs)
    more = rw (same₁, drop-drop (86 * n) 86 bs)

wide_lines : (n : ℕ) (bs : List ℕ) → 86 * n ≤ length bs → length (flat (lines n bs)) ≡ 86 * n
wide_lines zero bs h = refl
wide_lines (suc n) bs h = rw (length-append (take 86 bs) (flat (lines n (drop 86 bs)))) (omega (arith, length-take-le 86 bs (omega arith), wide_lines n (drop 86 bs) (rw (length-drop 86 bs) (omega arith))))

-- ---- k records rs with line ends, and some bytes behind them
module _ (rs : List (List ℕ)) (k : ℕ) (z : List ℕ) (w : Wide rs) (count : length rs ≡ k) (some : 0 < k) (few : k ≤ 200000) where
  whole_86 : WholeOf 86 (86 * k) (flat (map with_end rs) ++ z)
  whole_86 = record { some = omega arith; inside = rw (length-append (flat (map with_end rs)) z) (omega (arith, length-lined rs w)); even = omega arith; few = omega arith }

  lines_at : lines (86 * k / 86) (flat (map with_end rs) ++ z) ≡ map with_end rs
  lines_at = ap (λ (j : ℕ). lines j (flat (map with_end rs) ++ z)) is ∙ lines-lined rs z w
    where
      is : 86 * k / 86 ≡ length rs
      is = omega (arith, count)

  plain-fine : plain_fault (84 * k) (flat rs ++ z) ≡ none
  unfolding plain_fault
  plain-fine = ap (λ (t : Bool). to_fault (unless t 1) 0) (whole_ok 84 _ _ (whole_84 rs k z w count some few))

  lined-fine : line_fault (86 * k) (flat (map with_end rs) ++ z) ≡ none
  unfolding line_fault
  lined-fine = ap₂ (λ (t : Bool) (f : Fault). or_else (to_fault (unless t 1) 0) f) (whole_ok 86 _ _ whole_86) (ap (end_fault 1) lines_at ∙ all-ended 1 rs w)

  plain_of : plain_twin (86 * k) (flat (map with_end rs) ++ z) ≡ flat rs
  unfolding plain_twin
  plain_of = ap (λ (x : List (List ℕ)). flat (map without_end x)) lines_at ∙ ap flat (plain-lined rs w)

  lined_of : line_twin (84 * k) (flat rs ++ z) ≡ flat (map with_end rs)
  unfolding line_twin
  lined_of = ap (λ (x : List (List ℕ)). flat (map with_end x)) (chunks-at rs k z w count some few)

-- ---- an accepted writer
record Done (f : Fault) (result target : List ℕ) (m : ℕ) : Type 0 where
  fine : f ≡ none
  length_is : m ≡ length result
  room : length result ≤ length target
  bytes_are : (write_to (or_else f (target_fault result target)) result target).bytes ≡ result ++ drop (length result) target

done : (f : Fault) (result target : List ℕ) (m : ℕ) → (write_to (or_else f (target_fault result target)) result target).answer ≡ given m → Done f result target m
done (fault k r) result target m e = let z : ◌≡◌ {A = ℕ} 0 1 = cc in absurd (omega arith)
done none result target m e = go (leb (length result) (length target)) refl e
  where
    go : (t : Bool) → leb (length result) (length target) ≡ t → (write_to (to_fault (unless t 15) 0) result target).answer ≡ given m → Done none result target m
    go true p e = record { fine = refl; length_is = cc; room = leb-true (length result) (length target) p; bytes_are = ap (λ (t : Bool). (write_to (to_fault (unless t 15) 0) result target).bytes) p }
    go false p e = let z : ◌≡◌ {A = ℕ} 0 1 = cc in absurd (omega arith)

pub does : (f : Fault) (result target : List ℕ) → f ≡ none → length result ≤ length target → write_to (or_else f (target_fault result target)) result target ≡ record { answer = given (length result); bytes = result ++ drop (length result) target }
does f result target e l = ap₂ (λ (x : Fault) (t : Bool). write_to (or_else x (to_fault (unless t 15) 0)) result target) e (le-leb (length result) (length target) l)

pub plain_form : (used : ℕ) (b : List ℕ) → plain_fault used b ≡ none → WholeOf 84 used b
unfolding plain_fault
plain_form used b e = length_ok_lem 84 used b (unless_zero (length_ok 84 used b) 0 (to_fault-none (unless (length_ok 84 used b) 1) 0 e))

pub lined-form : (used : ℕ) (b : List ℕ) → line_fault used b ≡ none → WholeOf 86 used b × (end_fault 1 (lines (used / 86) b) ≡ none)
unfolding line_fault
lined-form used b e = let p = or_else-none (to_fault (unless (length_ok 86 used b) 1) 0) (end_fault 1 (lines (used / 86) b)) e in (length_ok_lem 86 used b (unless_zero (length_ok 86 used b) 0 (to_fault-none (unless (length_ok 86 used b) 1) 0 p.0)), p.1)

-- the records of a file with line ends
module _ (used : ℕ) (b : List ℕ) (f : WholeOf 86 used b) where
  wide_86 : Wide (map without_end (lines (used / 86) b))
  wide_86 = wide_plain (used / 86) b (omega (arith, f.inside, f.even))

  count_86 : length (map without_end (lines (used / 86) b)) ≡ used / 86
  count_86 = length-map (lines (used / 86) b) without_end ∙ length-lines (used / 86) b

  some_86 : 0 < used / 86
  some_86 = omega (arith, f.some, f.even)

  few_86 : used / 86 ≤ 200000
  few_86 = omega (arith, f.few, f.even)

  taken_86 : flat (lines (used / 86) b) ≡ take used b
  taken_86 = sym (take_at (flat (lines (used / 86) b)) (drop (86 * (used / 86)) b) used len) ∙ ap (take used) (flat-lines (used / 86) b (omega (arith, f.inside, f.even)))
    where
      len : length (flat (lines (used / 86) b)) ≡ used
      len = wide_lines (used / 86) b (omega (arith, f.inside, f.even)) ∙ (omega (arith, f.even))

-- THE RESULT'S LENGTH, for the code: a file of k records has 86 * k bytes with line ends, and 84 * k without them
pub length-line_twin : (used : ℕ) (b : List ℕ) → WholeOf 84 used b → length (line_twin used b) ≡ 86 * (used / 84)
unfolding line_twin
length-line_twin used b f = length-lined (chunks (used / 84) b) (wide_84 used b f) ∙ ap (λ (j : ℕ). 86 * j) (length-chunks (used / 84) b)

pub length-plain_twin : (used : ℕ) (b : List ℕ) → WholeOf 86 used b → length (plain_twin used b) ≡ 84 * (used / 86)
unfolding plain_twin
length-plain_twin used b f = length-flat _ (wide_86 used b f) ∙ ap (λ (j : ℕ). 84 * j) (count_86 used b f)

-- a writer's target, by records
pub record Over (used : ℕ) (b t : List ℕ) (n : ℕ) : Type 0 where
  pub form : WholeOf 84 used b
  pub length_is : n ≡ 86 * (used / 84)
  pub room : length (line_twin used b) ≤ length t
  pub bytes_are : (to_lines used b t).bytes ≡ flat (map with_end (chunks (used / 84) b)) ++ drop (length (line_twin used b)) t

pub over : (used : ℕ) (b t : List ℕ) (n : ℕ) → (to_lines used b t).answer ≡ given n → Over used b t n
unfolding to_lines line_twin
over used b t n e = record { form = plain_form used b d.fine; length_is = d.length_is ∙ length-line_twin used b (plain_form used b d.fine); room = d.room; bytes_are = d.bytes_are }
  where
    d : Done (plain_fault used b) (line_twin used b) t n
    d = done _ (line_twin used b) t n e

pub record Back (used : ℕ) (b t : List ℕ) (n : ℕ) : Type 0 where
  pub form : WholeOf 86 used b
  pub ends : end_fault 1 (lines (used / 86) b) ≡ none
  pub fine : line_fault used b ≡ none
  pub length_is : n ≡ 84 * (used / 86)
  pub room : length (plain_twin used b) ≤ length t
  pub bytes_are : (from_lines used b t).bytes ≡ flat (map without_end (lines (used / 86) b)) ++ drop (length (plain_twin used b)) t

pub back : (used : ℕ) (b t : List ℕ) (n : ℕ) → (from_lines used b t).answer ≡ given n → Back used b t n
unfolding from_lines plain_twin
back used b t n e = record { form = (lined-form used b d.fine).0; ends = (lined-form used b d.fine).1; fine = d.fine; length_is = d.length_is ∙ length-plain_twin used b (lined-form used b d.fine).0; room = d.room; bytes_are = d.bytes_are }
  where
    d : Done (line_fault used b) (plain_twin used b) t n
    d = done _ (plain_twin used b) t n e

outcome_path : (m m' : ℕ) (x x' s : List ℕ) → m ≡ m' → x ≡ x' → ◌≡◌ {A = Outcome ℕ} (record { answer = given m; bytes = x ++ drop m s }) (record { answer = given m'; bytes = x' ++ drop m' s })
outcome_path m m' x x' s p q = λ i. record { answer = given (p i); bytes = q i ++ drop (p i) s }

from-lined : (rs : List (List ℕ)) (k : ℕ) (z s : List ℕ) → Wide rs → length rs ≡ k → 0 < k → k ≤ 200000 → 84 * k ≤ length s → from_lines (86 * k) (flat (map with_end rs) ++ z) s ≡ record { answer = given (84 * k); bytes = flat rs ++ drop (84 * k) s }
unfolding from_lines
from-lined rs k z s w count some few room = does _ (plain_twin (86 * k) (flat (map with_end rs) ++ z)) s (lined-fine rs k z w count some few) (omega (arith, len)) ∙ outcome_path _ _ _ _ s len (plain_of rs k z w count some few)
  where
    len : length (plain_twin (86 * k) (flat (map with_end rs) ++ z)) ≡ 84 * k
    len = ap length (plain_of rs k z w count some few) ∙ length-flat rs w ∙ ap (λ (j : ℕ). 84 * j) count

to-lined : (rs : List (List ℕ)) (k : ℕ) (z s : List ℕ) → Wide rs → length rs ≡ k → 0 < k → k ≤ 200000 → 86 * k ≤ length s → to_lines (84 * k) (flat rs ++ z) s ≡ record { answer = given (86 * k); bytes = flat (map with_end rs) ++ drop (86 * k) s }
unfolding to_lines
to-lined rs k z s w count some few room = does _ (line_twin (84 * k) (flat rs ++ z)) s (plain-fine rs k z w count some few) (omega (arith, len)) ∙ outcome_path _ _ _ _ s len (lined_of rs k z w count some few)
  where
    len : length (line_twin (84 * k) (flat rs ++ z)) ≡ 86 * k
    len = ap length (lined_of rs k z w count some few) ∙ length-lined rs w ∙ ap (λ (j : ℕ). 86 * j) count

-- "Over and back gives the same bytes": what was written over, written back, whatever else stands in the targets
pub over-and-back : (used : ℕ) (b t s : List ℕ) (n : ℕ) → (to_lines used b t).answer ≡ given n → used ≤ length s → from_lines n (to_lines used b t).bytes s ≡ record { answer = given used; bytes = take used b ++ drop used s }
over-and-back used b t s n e l = ap₂ (λ (m : ℕ) (x : List ℕ). from_lines m x s) d.length_is d.bytes_are ∙ from-lined (chunks (used / 84) b) (used / 84) (drop (length (line_twin used b)) t) s (wide_84 used b d.form) (length-chunks (used / 84) b) (some_84 used b d.form) (few_84 used b d.form) (omega (arith, d.form.even)) ∙ outcome_path _ _ _ _ s (omega (arith, d.form.even)) (taken used b d.form)
  where
    d : Over used b t n
    d = over used b t n e

-- and the other way round
pub back-and-over : (used : ℕ) (b t s : List ℕ) (n : ℕ) → (from_lines used b t).answer ≡ given n → used ≤ length s → to_lines n (from_lines used b t).bytes s ≡ record { answer = given used; bytes = take used b ++ drop used s }
back-and-over used b t s n e l = ap₂ (λ (m : ℕ) (x : List ℕ). to_lines m x s) d.length_is d.bytes_are ∙ to-lined (map without_end (lines (used / 86) b)) (used / 86) (drop (length (plain_twin used b)) t) s (wide_86 used b d.form) (count_86 used b d.form) (some_86 used b d.form) (few_86 used b d.form) (omega (arith, d.form.even)) ∙ outcome_path _ _ _ _ s (omega (arith, d.form.even)) (ap flat (lined-plain 1 (lines (used / 86) b) d.ends) ∙ taken_86 used b d.form)
  where
    d : Back used b t n
    d = back used b t n e

-- ---- judging
-- bytes without anything behind them
bare : (x : List ℕ) → x ≡ x ++ []
bare x = sym (append-nil x)

-- a file that passes 1 and 18 is judged by its records without their ends
module _ (used : ℕ) (b : List ℕ) (fine : line_fault used b ≡ none) where
  abbrev rs : List (List ℕ)
  rs = map without_end (lines (used / 86) b)

  form : WholeOf 86 used b
  form = (lined-form used b fine).0

  twin_is : plain_twin used b ≡ flat rs ++ []
  unfolding plain_twin
  twin_is = bare (flat rs)

  pub sheet-records : judge_sheet_lines used b ≡ judge_records rs
  unfolding judge_sheet_lines
  sheet-records = ap (λ (x : Fault). otherwise x (judge_sheet (length (plain_twin used b)) (plain_twin used b))) fine ∙ ap₂ judge_sheet (length-plain_twin used b form) twin_is ∙ sheet_by rs (used / 86) [] (wide_86 used b form) (count_86 used b form) (some_86 used b form) (few_86 used b form)

  pub index-records : judge_index_lines used b ≡ judge_index_records rs
  unfolding judge_index_lines
  index-records = ap (λ (x : Fault). otherwise x (judge_index (length (plain_twin used b)) (plain_twin used b))) fine ∙ ap₂ judge_index (length-plain_twin used b form) twin_is ∙ index_by rs (used / 86) [] (wide_86 used b form) (count_86 used b form) (some_86 used b form) (few_86 used b form)

judged-lined : (rs : List (List ℕ)) (k : ℕ) (z : List ℕ) → Wide rs → length rs ≡ k → 0 < k → k ≤ 200000 → (judge_sheet_lines (86 * k) (flat (map with_end rs) ++ z) ≡ judge_records rs) × (judge_index_lines (86 * k) (flat (map with_end rs) ++ z) ≡ judge_index_records rs)
judged-lined rs k z w count some few = (
  sheet-records (86 * k) (flat (map with_end rs) ++ z) fine ∙ ap judge_records own,
  index-records (86 * k) (flat (map with_end rs) ++ z) fine ∙ ap judge_index_records own,
)
  where
    fine : line_fault (86 * k) (flat (map with_end rs) ++ z) ≡ none
    fine = lined-fine rs k z w count some few

    own : map without_end (lines (86 * k / 86) (flat (map with_end rs) ++ z)) ≡ rs
    own = ap (map without_end) (lines_at rs k z w count some few) ∙ plain-lined rs w

-- what was written over is judged as the plain file
pub judged-over : (used : ℕ) (b t : List ℕ) (n : ℕ) → (to_lines used b t).answer ≡ given n → (judge_sheet_lines n (to_lines used b t).bytes ≡ judge_sheet used b) × (judge_index_lines n (to_lines used b t).bytes ≡ judge_index used b)
judged-over used b t n e = (
  ap₂ judge_sheet_lines d.length_is d.bytes_are ∙ j.0 ∙ sym (sheet-own used b d.form),
  ap₂ judge_index_lines d.length_is d.bytes_are ∙ j.1 ∙ sym (index-own used b d.form),
)
  where
    d : Over used b t n
    d = over used b t n e

    j : (judge_sheet_lines (86 * (used / 84)) (flat (map with_end (chunks (used / 84) b)) ++ drop (length (line_twin used b)) t) ≡ judge_records (chunks (used / 84) b)) × (judge_index_lines (86 * (used / 84)) (flat (map with_end (chunks (used / 84) b)) ++ drop (length (line_twin used b)) t) ≡ judge_index_records (chunks (used / 84) b))
    j = judged-lined (chunks (used / 84) b) (used / 84) (drop (length (line_twin used b)) t) (wide_84 used b d.form) (length-chunks (used / 84) b) (some_84 used b d.form) (few_84 used b d.form)

-- and a file with line ends as what is written back from it
pub judged-back : (used : ℕ) (b t : List ℕ) (n : ℕ) → (from_lines used b t).answer ≡ given n → (judge_sheet_lines used b ≡ judge_sheet n (from_lines used b t).bytes) × (judge_index_lines used b ≡ judge_index n (from_lines used b t).bytes)
judged-back used b t n e = (
  sheet-records used b d.fine ∙ sym (ap₂ judge_sheet d.length_is d.bytes_are ∙ sheet_by _ _ (drop (length (plain_twin used b)) t) wide count some few),
  index-records used b d.fine ∙ sym (ap₂ judge_index d.length_is d.bytes_are ∙ index_by _ _ (drop (length (plain_twin used b)) t) wide count some few),
)
  where
    d : Back used b t n
    d = back used b t n e

    wide : Wide (map without_end (lines (used / 86) b))
    wide = wide_86 used b d.form

    count : length (map without_end (lines (used / 86) b)) ≡ used / 86
    count = count_86 used b d.form

    some : 0 < used / 86
    some = some_86 used b d.form

    few : used / 86 ≤ 200000
    few = few_86 used b d.form
