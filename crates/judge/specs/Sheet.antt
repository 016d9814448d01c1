-- An opened sheet: the verdict of judging, and of an accepted sheet the length of its sheet part, its unit and corners, and what stands before a place of
-- it. Assumes nothing.
use Rattle.std.specs.Prelude.{Result, Ok, Err, List, [], ◌∷◌, ℕ, zero, suc, ◌+◌, ◌-◌, ◌/◌, ℤ, pos, take, get_or, replicate}
use Rattle.format.specs.Basics.{Answer, given, refused, chunks}
use Rattle.format.specs.Record.{View}
use Rattle.format.specs.Layout.{number_at, sheet_b}
use Rattle.format.specs.Sheet.{corners}
use Rattle.format.specs.Judge.{Counts, File, file_of, judge_records, judge_sheet, after_stage_one}
use Rattle.format.specs.Edit.{due_behind, open_behind, last_header}
use Rattle.format.specs.Above.{last_start}
use Rattle.files.specs.declared.Stride.{Stride}
use Rattle.files.specs.Records.{records_of, length_ok}
use Rattle.format.specs.Reasons.{refusal_number}
use Rattle.format.specs.declared.Refusal.{Refusal}
use Rattle.judge.specs.declared.Sheet as Declared

-- what opening a sheet comes to: number and record of the refusal, 0 and 0 for none; and its values
pub record Sheet : Type 0 where
  pub fault : ℕ
  pub at : ℕ
  pub items : ℕ
  pub part : ℕ
  pub unit : ℕ
  pub corners : List ℤ
  pub due : ℕ
  pub open_level : ℕ
  pub start : ℕ
  pub headers : List ℕ

-- the values of a function, `count` of them from a number on
abbrev pub values : (count from : ℕ) → (ℕ → ℕ) → List ℕ
values zero from f = []
values (suc count) from f = f from ∷ values count (suc from) f

-- the records of the body that stand before a place, where `before` records of the file do
abbrev pub body_before : File → (before : ℕ) → List View
body_before f before = take (before - f.part_length) f.body

-- by their numbers in the file, the last header or item among them, and the last header of a level: the sheet part's last record where there is none
abbrev pub start_before : File → (before : ℕ) → ℕ
start_before f before = f.part_length + last_start 0 1 0 (body_before f before)

abbrev pub header_before : File → (before level : ℕ) → ℕ
header_before f before level = f.part_length + last_header level 0 1 0 (body_before f before)

-- "A refusal returns number and record only": no values
abbrev pub refused_sheet : (number at : ℕ) → Sheet
refused_sheet number at = record { fault = number; at = at; items = 0; part = 0; unit = 0; corners = replicate 8 (pos 0); due = 0; open_level = 0; start = 0; headers = values 9 0 (λ level. 0) }

-- the same as the code has it
abbrev pub sheet_said : Result Declared.Sheet Refusal → Sheet
sheet_said (Ok s) = record {
  fault = 0;
  at = 0;
  items = s.items;
  part = s.part;
  unit = s.unit;
  corners = s.corners;
  due = s.due;
  open_level = s.open_level;
  start = s.start;
  headers = s.headers;
}
sheet_said (Err r) = refused_sheet (refusal_number r.reason) r.at

abbrev pub accepted_sheet : (items unit : ℕ) → (corners : List ℤ) → File → (before : ℕ) → Sheet
accepted_sheet items unit corners f before = record {
  fault = 0;
  at = 0;
  items = items;
  part = f.part_length;
  unit = unit;
  corners = corners;
  due = due_behind 0 (body_before f before);
  open_level = open_behind 0 0 (body_before f before);
  start = start_before f before;
  headers = values 9 0 (header_before f before);
}

abbrev pub sheet_for : Answer Counts → (unit : ℕ) → (corners : List ℤ) → File → (before : ℕ) → Sheet
sheet_for (given counts) unit corners f before = accepted_sheet counts.items unit corners f before
sheet_for (refused number at) unit corners f before = refused_sheet number at

-- by the answer of judging and the records: the unit that record 2 states, and the corners
abbrev pub opened_sheet : Answer Counts → List (List ℕ) → (before : ℕ) → Sheet
opened_sheet answer records before = sheet_for answer (number_at sheet_b "unit" (get_or records 1 [])) (corners records) (file_of records) before

-- the sheet that a list of records is, and the place behind `before` of them
abbrev pub records_sheet : List (List ℕ) → (before : ℕ) → Sheet
records_sheet records before = opened_sheet (judge_records records) records before

-- the sheet file in the first `used` bytes of a buffer, and the place behind `before` of its records
unfoldable pub opened_in : (used : ℕ) → List ℕ → (before : ℕ) → Sheet
opened_in used buffer before = opened_sheet (judge_sheet used buffer) (chunks (used / 84) buffer) before

-- ---- Judging alone, of records at a stride: stage one, then the records
unfoldable pub judge_by : (List (List ℕ) → Answer Counts) → Stride → (used : ℕ) → List ℕ → Answer Counts
judge_by of_records stride used buffer = after_stage_one (length_ok stride used buffer) (of_records (records_of stride (take used buffer)))
