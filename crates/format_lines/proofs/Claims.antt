-- THE CLAIMS about files with line ends, each in a line; what their words mean stands in specs/LineEndsChecks.antt. All are of all bytes, used lengths and
-- targets, not of accepted files only. Assumes nothing.
use mathlib.Core.Path.{◌≡◌}
use mathlib.Core.Logic.{◌↔◌}
use mathlib.Core.List.{List, ◌++◌}
use Prim.Native.Nat.{ℕ, ◌*◌, ◌/◌, ◌≤◌, ◌<◌}
use lib.ListN.{length, take, drop}
use Rattle.format.specs.Basics.{given, refused}
use Rattle.format.specs.Judge.{Counts, judge_sheet, judge_index}
use Rattle.format.specs.Checks.{LengthFails, AnswersFirst, SheetRefusal, IndexRefusal}
use Rattle.format_lines.specs.LineEnds.{plain_twin, judge_sheet_lines, judge_index_lines, to_lines, from_lines}
use Rattle.format_lines.specs.LineEndsChecks.{Ended, LineRefusal, ShortTarget, over_checks, WrittenOver, WrittenBack}
use Rattle.format_lines.proofs.LineEnds as LineEnds
use Rattle.format_lines.proofs.LineEndsBytes as LineEndsBytes
use Rattle.format_lines.proofs.LineEndsRefused as LineEndsRefused

-- ---- "Over and back gives the same bytes"
-- whatever stands behind the file and in the two targets; and back and over
pub over-and-back : (used : ℕ) (buffer target second : List ℕ) (n : ℕ) → (to_lines used buffer target).answer ≡ given n → used ≤ length second → from_lines n (to_lines used buffer target).bytes second ≡ record { answer = given used; bytes = take used buffer ++ drop used second }
over-and-back = LineEnds.over-and-back

pub back-and-over : (used : ℕ) (buffer target second : List ℕ) (n : ℕ) → (from_lines used buffer target).answer ≡ given n → used ≤ length second → to_lines n (from_lines used buffer target).bytes second ≡ record { answer = given used; bytes = take used buffer ++ drop used second }
back-and-over = LineEnds.back-and-over

-- ---- "The judge otherwise answers as for the plain twin"
-- what was written over is judged as the plain file; a file with line ends as what is written back from it
pub judged-over : (used : ℕ) (buffer target : List ℕ) (n : ℕ) → (to_lines used buffer target).answer ≡ given n → (judge_sheet_lines n (to_lines used buffer target).bytes ≡ judge_sheet used buffer) × (judge_index_lines n (to_lines used buffer target).bytes ≡ judge_index used buffer)
judged-over = LineEnds.judged-over

pub judged-back : (used : ℕ) (buffer target : List ℕ) (n : ℕ) → (from_lines used buffer target).answer ≡ given n → (judge_sheet_lines used buffer ≡ judge_sheet n (from_lines used buffer target).bytes) × (judge_index_lines used buffer ≡ judge_index n (from_lines used buffer target).bytes)
judged-back = LineEnds.judged-back

-- ---- the order of checks: 1 at record 0 exactly when the length is wrong, else 18 exactly at the first record that does not end in 13, 10, else the twin's own
pub sheets-refused : (used : ℕ) (buffer : List ℕ) (number at : ℕ) → judge_sheet_lines used buffer ≡ refused number at ↔ LineRefusal used buffer (SheetRefusal (length (plain_twin used buffer)) (plain_twin used buffer)) number at
sheets-refused = LineEndsRefused.sheet-lines-refused

pub indexes-refused : (used : ℕ) (buffer : List ℕ) (number at : ℕ) → judge_index_lines used buffer ≡ refused number at ↔ LineRefusal used buffer (IndexRefusal (length (plain_twin used buffer)) (plain_twin used buffer)) number at
indexes-refused = LineEndsRefused.index-lines-refused

-- accepted exactly when neither applies and the twin is accepted, with its counts
pub sheets-accepted : (used : ℕ) (buffer : List ℕ) (counts : Counts) → judge_sheet_lines used buffer ≡ given counts ↔ ((LengthFails 86 used buffer → ⊥) × ((k : ℕ) → k < used / 86 → Ended buffer k) × (judge_sheet (length (plain_twin used buffer)) (plain_twin used buffer) ≡ given counts))
sheets-accepted = LineEndsRefused.sheet-lines-accepted

pub indexes-accepted : (used : ℕ) (buffer : List ℕ) (counts : Counts) → judge_index_lines used buffer ≡ given counts ↔ ((LengthFails 86 used buffer → ⊥) × ((k : ℕ) → k < used / 86 → Ended buffer k) × (judge_index (length (plain_twin used buffer)) (plain_twin used buffer) ≡ given counts))
indexes-accepted = LineEndsRefused.index-lines-accepted

-- ---- "The writers refuse by 1, 18 and 15 only": to this form 1, then 15, whatever the bytes are
pub over_in_order : (used : ℕ) (buffer target : List ℕ) → AnswersFirst (over_checks used buffer target) (to_lines used buffer target).answer
over_in_order = LineEndsRefused.to-lines-first

-- from it 1, then 18, then 15; else there is an answer
pub back-refused : (used : ℕ) (buffer target : List ℕ) (number at : ℕ) → (from_lines used buffer target).answer ≡ refused number at ↔ LineRefusal used buffer (ShortTarget (84 * (used / 86)) target) number at
back-refused = LineEndsRefused.from-lines-refused

-- a refusal leaves the target whole
pub over_unchanged : (used : ℕ) (buffer target : List ℕ) (number at : ℕ) → (to_lines used buffer target).answer ≡ refused number at → (to_lines used buffer target).bytes ≡ target
over_unchanged = LineEndsRefused.over_left

pub back_unchanged : (used : ℕ) (buffer target : List ℕ) (number at : ℕ) → (from_lines used buffer target).answer ≡ refused number at → (from_lines used buffer target).bytes ≡ target
back_unchanged = LineEndsRefused.back_left

-- ---- "answer the result's length, and leave the target past it as it stood": every byte
pub over-bytes : (used : ℕ) (buffer target : List ℕ) (n : ℕ) → (to_lines used buffer target).answer ≡ given n → (n ≡ 86 * (used / 84)) × WrittenOver used buffer target (to_lines used buffer target).bytes
over-bytes = LineEndsBytes.written_over

pub back-bytes : (used : ℕ) (buffer target : List ℕ) (n : ℕ) → (from_lines used buffer target).answer ≡ given n → (n ≡ 84 * (used / 86)) × WrittenBack used buffer target (from_lines used buffer target).bytes
back-bytes = LineEndsBytes.written_back
