-- What the two public calls answer of a file's records, by format's `sheet_fault`, `part_length`, `corners` and `index_fault`. Assumes nothing.
use Rattle.std.specs.Prelude.{Result, Ok, Err, List, [], ℕ, ℤ, pos, replicate, get_or}
use Rattle.format.specs.Basics.{Fault, none, fault}
use Rattle.format.specs.Layout.{number_at, sheet_b}
use Rattle.format.specs.Sheet.{sheet_fault, part_length, corners, stated_elements, stated_records}
use Rattle.format.specs.Index.{index_fault}
use Rattle.format.specs.Reasons.{refusal_number}
use Rattle.format.specs.declared.Refusal.{Refusal}
use Rattle.part_and_index.specs.declared.SheetPart as Declared

-- what the sheet part of a file comes to: number and record of its first fault, 0 and 0 for none; and its values
pub record SheetPart : Type 0 where
  pub fault : ℕ
  pub at : ℕ
  pub length : ℕ
  pub stated_elements : ℕ
  pub stated_records : ℕ
  pub unit : ℕ
  pub corners : List ℤ

-- number and record of the first fault of an index; 0 and 0 for none
pub record IndexFault : Type 0 where
  pub number : ℕ
  pub at : ℕ

-- "A refusal returns number and record only"
abbrev pub refused_part : (number at : ℕ) → SheetPart
refused_part number at = record { fault = number; at = at; length = 0; stated_elements = 0; stated_records = 0; unit = 0; corners = replicate 8 (pos 0) }

-- how many records the part has, the two counts and the unit that record 2 states, and the corners
abbrev pub sound_part : (length : ℕ) → (second : List ℕ) → (corners : List ℤ) → SheetPart
sound_part n second cs = record { fault = 0; at = 0; length = n; stated_elements = stated_elements second; stated_records = stated_records second; unit = number_at sheet_b "unit" second; corners = cs }

-- the two answers of the code: a sheet part, or its refusal; no fault in an index, or the refusal
abbrev pub part_said : Result Declared.SheetPart Refusal → SheetPart
part_said (Ok p) = record { fault = 0; at = 0; length = p.length; stated_elements = p.stated_elements; stated_records = p.stated_records; unit = p.unit; corners = p.corners }
part_said (Err r) = refused_part (refusal_number r.reason) r.at

abbrev pub index_said : {A : Type 0} → Result A Refusal → IndexFault
index_said (Ok a) = record { number = 0; at = 0 }
index_said (Err r) = record { number = refusal_number r.reason; at = r.at }

-- the first fault of the part, or else those
abbrev pub part_answer : Fault → (length : ℕ) → (second : List ℕ) → (corners : List ℤ) → SheetPart
part_answer none n second cs = sound_part n second cs
part_answer (fault number at) n second cs = refused_part number at

-- "Records a, b, c, then d, e and the f records, this last set revisions + 1 times": the part that they are at the front of a file's records
unfoldable pub sheet_part_of : List (List ℕ) → SheetPart
sheet_part_of rs = part_answer (sheet_fault rs) (part_length rs) (get_or rs 1 []) (corners rs)

-- number and record of a fault; 0 and 0 for none
abbrev pub fault_answer : Fault → IndexFault
fault_answer none = record { number = 0; at = 0 }
fault_answer (fault number at) = record { number = number; at = at }

-- the first fault of an index file's records: that of the records in order, or else 10 where some are left over
unfoldable pub index_fault_of : List (List ℕ) → IndexFault
index_fault_of rs = fault_answer (index_fault rs)
