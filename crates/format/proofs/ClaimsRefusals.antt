-- THE CLAIMS about refusals: which number at which record, of every call that judges a file. The words are those of specs/Checks.antt; the
-- other files that start with Checks are the proofs. Assumes nothing.
use mathlib.Core.Path.{◌≡◌, refl}
use mathlib.Core.Logic.{◌↔◌, inl, inr}
use mathlib.Core.List.{List, map}
use Prim.Native.Nat.{ℕ, suc, ◌+◌, ◌/◌}
use native.Mathlib.Omega.{arith}
use lib.IntN.{ℤ}
use Rattle.format.specs.Basics.{given, refused, chunks}
use Rattle.format.specs.Index.{due_a as index-a}
use Rattle.format.specs.Sheet.{due_a as sheet-a}
use Rattle.format.specs.Record.{H, view, type_of, count_index, data_columns}
use Rattle.format.specs.Layout.{number_at, header}
use Rattle.format.specs.Corner.{join}
use Rattle.format.specs.Judge.{file_of, headers_and_items, items, accepted, judge_sheet, judge_index}
use Rattle.format.specs.Edit.{block_item}
use Rattle.format.specs.Calls.{Edit}
use Rattle.format.specs.Above.{up}
use Rattle.format.specs.Run.{Buffer, call}
use Rattle.format.specs.Checks.{AnswersFirst, OneItem, edit_checks, way_up_checks, StageOneFails, StageTwo, IndexStageTwo, Ten, LeftOver, AllPass, Missing, due_behind_all, DueMeans, StageMeans, OpenLevel, header_or_item, FirstOf, in_order, header_or_item_faults, stated, join_checks, TypeMeans, count_of, JudgedBehind, sheet_walk, index_walk, of_part, SheetRefusal, IndexRefusal, stage_one, stage_two, stage_three}
use Rattle.format.proofs.AcceptedSheet.{accepted_by}
use Rattle.format.proofs.ChecksJudging.{sheet-refused, sheet-accepted, fault-number}
use Rattle.format.proofs.ChecksIndex.{index-refused, index-accepted}
use Rattle.format.proofs.ChecksAlone.{join_first, type_means, count_means}
use Rattle.format.proofs.ChecksData.{judged-behind}
use Rattle.format.proofs.ChecksDue.{due_means, open_means, stage_means}
use Rattle.format.proofs.ChecksEdits.{edit_first, block_item_lem, block_none}
use Rattle.format.proofs.ChecksWayUp.{way-up-first}

-- ---- Judging
-- "Three stages; the first failing stage answers": a sheet is refused with this number at this record exactly when its sentence applies there and
-- none applies before it
pub sheets_in_order : (used : ℕ) (buffer : List ℕ) (number at : ℕ) → judge_sheet used buffer ≡ refused number at ↔ SheetRefusal used buffer number at
sheets_in_order = sheet-refused

-- accepted exactly when none applies: "returns record and item counts"
pub sheets-accepted : (used : ℕ) (buffer : List ℕ) (n m : ℕ) → judge_sheet used buffer ≡ accepted n m ↔ (((number at : ℕ) → SheetRefusal used buffer number at → ⊥) × (n ≡ used / 84) × (m ≡ items (headers_and_items 0 (file_of (chunks (used / 84) buffer)).body)))
sheets-accepted = sheet-accepted

-- the same of an index: "items 0 for an index"
pub indexes_in_order : (used : ℕ) (buffer : List ℕ) (number at : ℕ) → judge_index used buffer ≡ refused number at ↔ IndexRefusal used buffer number at
indexes_in_order = index-refused

pub indexes-accepted : (used : ℕ) (buffer : List ℕ) (n m : ℕ) → judge_index used buffer ≡ accepted n m ↔ (((number at : ℕ) → IndexRefusal used buffer number at → ⊥) × (n ≡ used / 84) × (m ≡ 0))
indexes-accepted = index-accepted

-- 1 is given "exactly when" stage one fails, at record 0: no later stage answers 1
pub one_exactly : (used : ℕ) (buffer : List ℕ) (at : ℕ) → judge_sheet used buffer ≡ refused 1 at ↔ (StageOneFails used buffer × (at ≡ 0))
one_exactly used buffer at = (λ e. there ((sheet-refused used buffer 1 at).0 e), λ h. (sheet-refused used buffer 1 at).1 (stage_one h.0 refl h.1))
  where
    there : SheetRefusal used buffer 1 at → StageOneFails used buffer × (at ≡ 0)
    there (stage_one x a b) = (x, b)
    there (stage_two x (inl f)) = absurd (omega (arith, (fault-number sheet_walk (of_part sheet-a) 1 (chunks (used / 84) buffer) 1 at f).0))
    there (stage_two x (inr y)) = absurd (omega (arith, y.0))
    there (stage_three x y a t) = absurd (omega arith)

-- 3 exactly when every record that is there passes and one is missing
pub three_exactly : (used : ℕ) (buffer : List ℕ) (at : ℕ) → judge_sheet used buffer ≡ refused 3 at ↔ ((StageOneFails used buffer → ⊥) × AllPass sheet_walk (of_part sheet-a) (chunks (used / 84) buffer) × Missing (chunks (used / 84) buffer) at)
three_exactly used buffer at = (λ e. there ((sheet-refused used buffer 3 at).0 e), λ h. (sheet-refused used buffer 3 at).1 (stage_two h.0 (inr (refl, h.1, h.2))))
  where
    there : SheetRefusal used buffer 3 at → (StageOneFails used buffer → ⊥) × AllPass sheet_walk (of_part sheet-a) (chunks (used / 84) buffer) × Missing (chunks (used / 84) buffer) at
    there (stage_one x a b) = absurd (omega arith)
    there (stage_two x (inl f)) = absurd ((fault-number sheet_walk (of_part sheet-a) 1 (chunks (used / 84) buffer) 3 at f).2 refl)
    there (stage_two x (inr y)) = (x, y.1, y.2)
    there (stage_three x y a t) = absurd (omega arith)

-- 10 exactly when stages one and two pass and a count differs: record 2 before the first header
pub ten_exactly : (used : ℕ) (buffer : List ℕ) (at : ℕ) → judge_sheet used buffer ≡ refused 10 at ↔ ((StageOneFails used buffer → ⊥) × ((n k : ℕ) → StageTwo (chunks (used / 84) buffer) n k → ⊥) × Ten (file_of (chunks (used / 84) buffer)) at)
ten_exactly used buffer at = (λ e. there ((sheet-refused used buffer 10 at).0 e), λ h. (sheet-refused used buffer 10 at).1 (stage_three h.0 h.1 refl h.2))
  where
    there : SheetRefusal used buffer 10 at → (StageOneFails used buffer → ⊥) × ((n k : ℕ) → StageTwo (chunks (used / 84) buffer) n k → ⊥) × Ten (file_of (chunks (used / 84) buffer)) at
    there (stage_one x a b) = absurd (omega arith)
    there (stage_two x (inl f)) = absurd (omega (arith, (fault-number sheet_walk (of_part sheet-a) 1 (chunks (used / 84) buffer) 10 at f).1))
    there (stage_two x (inr y)) = absurd (omega (arith, y.0))
    there (stage_three x y a t) = (x, y, t)

-- of an index, at record 1, exactly when records are left over
pub left_over_exactly : (used : ℕ) (buffer : List ℕ) (at : ℕ) → judge_index used buffer ≡ refused 10 at ↔ ((StageOneFails used buffer → ⊥) × ((n k : ℕ) → IndexStageTwo (chunks (used / 84) buffer) n k → ⊥) × LeftOver index-a (chunks (used / 84) buffer) × (at ≡ 1))
left_over_exactly used buffer at = (λ e. there ((index-refused used buffer 10 at).0 e), λ h. (index-refused used buffer 10 at).1 (stage_three h.0 h.1 refl (h.2, h.3)))
  where
    there : IndexRefusal used buffer 10 at → (StageOneFails used buffer → ⊥) × ((n k : ℕ) → IndexStageTwo (chunks (used / 84) buffer) n k → ⊥) × LeftOver index-a (chunks (used / 84) buffer) × (at ≡ 1)
    there (stage_one x a b) = absurd (omega arith)
    there (stage_two x (inl f)) = absurd (omega (arith, (fault-number index_walk index-a 1 (chunks (used / 84) buffer) 10 at f).1))
    there (stage_two x (inr y)) = absurd (omega (arith, y.0))
    there (stage_three x y a t) = (x, y, t.0, t.1)

-- what is due when a record is reached is what document 01 says of the records in front: a, b, c, then sets, "this last set revisions + 1 times"
pub sheet_part_means : (front : List (List ℕ)) → DueMeans (due_behind_all sheet_walk (of_part sheet-a) front) front
sheet_part_means = due_means

-- the open level, behind these records of the body
pub open_level_means : (front : List (List ℕ)) (opened : ℕ) → due_behind_all sheet_walk (header_or_item 0) front ≡ header_or_item opened → OpenLevel (map view front) opened
open_level_means = open_means

-- an index
pub index_means : (front : List (List ℕ)) → StageMeans (due_behind_all index_walk index-a front) front
index_means = stage_means

-- a header or an item is what its first two bytes say
pub types_mean : (r : List ℕ) → TypeMeans (type_of r) r
types_mean = type_means

-- and a header counts it in the column of its own kind
pub own-kind : (h r : List ℕ) → type_of h ≡ H → (view h).count (count_index (view r).kind) ≡ number_at header (count_of (type_of r)) h
own-kind = count_means

-- the judged columns of a data record are those of the points or heights that its item's counts reach there, by data kind, rows and columns, or
-- triangles, with so many data records of the item in front of it and so many behind
pub data_means : (opened : ℕ) (start : List ℕ) → FirstOf (in_order (header_or_item_faults opened start)) 0 → (front more : ℕ) → front + suc more ≡ stated start → JudgedBehind (type_of start) start front (data_columns (view start).data_held more)
data_means = judged-behind

-- ---- Corners
-- "Called alone, joining checks in this order": 16, then 9, at record 0; the millimetres exactly where neither applies
pub joins_in_order : (unit : ℕ) (whole fraction : ℤ) → AnswersFirst (join_checks unit whole fraction) (join unit whole fraction)
joins_in_order = join_first

-- ---- Edits
-- "Insertion and removal judge the file first (1 to 10)": a sheet that judging refuses is refused so, and the buffer stays
pub edits-judge-first : (edit : Edit) (b : Buffer) (number at : ℕ) → judge_sheet b.used b.bytes ≡ refused number at → call edit b ≡ record { reply = refused number at; buffer = b }
unfolding call
edits-judge-first edit b number at e = rw e

-- a block alone is its first record's count and level exactly when it is "exactly one item that passes 4 to 9 but for nesting, level 2..9", else 12
pub blocks_that_are_items : (block : List ℕ) (o : OneItem block) → block_item block ≡ given (record { count_index = count_index (view o.start).kind; level = (view o.start).level })
blocks_that_are_items = block_item_lem

pub blocks_that_are_none : (block : List ℕ) → (OneItem block → ⊥) → block_item block ≡ refused 12 0
blocks_that_are_none = block_none

-- "then 11 to 15 in order": of an accepted sheet the first that applies, at record 0, and exactly where none applies the new used length. To a
-- removal only 11 ever does
pub edits_in_order : (edit : Edit) (b : Buffer) (n m : ℕ) → judge_sheet b.used b.bytes ≡ accepted n m → AnswersFirst (edit_checks edit b) (call edit b).reply
edits_in_order edit b n m e = edit_first b (accepted_by e) edit

-- ---- The way up
-- "The way up judges the sheet first (1 to 10)"
pub way-up-judges-first : (used : ℕ) (buffer : List ℕ) (number at record_number : ℕ) → judge_sheet used buffer ≡ refused number at → up used buffer record_number ≡ refused number at
unfolding up
way-up-judges-first used buffer number at record_number e = rw e

-- "then 17"
pub way_up_in_order : (b : Buffer) (n m : ℕ) → judge_sheet b.used b.bytes ≡ accepted n m → (number : ℕ) → AnswersFirst (way_up_checks b.used b.bytes number) (up b.used b.bytes number)
way_up_in_order b n m e = way-up-first b (accepted_by e)
