-- The normal form: "the same file with every judged integer in written form". What that says of every byte, with the columns of judging,
-- stands in JudgedColumns and is claimed in proofs/ClaimsNormal.antt. Assumes nothing.
use Rattle.std.specs.Prelude.{cond, List, [], ◌∷◌, ◌++◌, ℕ, zero, suc, ◌/◌, leb, length, take, drop}
use Rattle.format.specs.Basics.{Answer, given, refused, Outcome, chunks, flat}
use Rattle.format.specs.Column.{column_of, integer, written}
use Rattle.format.specs.Layout.{What, text, blank, integral, integral_or_spaces, Col, bytes_of, spaces, splice}
use Rattle.format.specs.Record.{Data, nothing, data_columns, type_of, type_columns, view}
use Rattle.format.specs.Sheet as Sheet
use Rattle.format.specs.Index as Index
use Rattle.format.specs.Judge.{due_after, held_after, Counts, judge_sheet, judge_index}

-- an integer's bytes in written form; "seven spaces in the value column stay"
abbrev pub normal_bytes : What → ℕ → List ℕ → List ℕ
normal_bytes text w bs = bs
normal_bytes blank w bs = bs
normal_bytes (integral rule) w bs = written w (integer (column_of bs))
normal_bytes integral_or_spaces w bs = cond (spaces bs) bs (written w (integer (column_of bs)))

-- a record with its judged columns in written form; all its other bytes stay
unfoldable pub normal_record : List Col → List ℕ → List ℕ
normal_record [] r = r
normal_record (c ∷ cs) r = normal_record cs (splice c.start c.width (normal_bytes c.what c.width (bytes_of c r)) r)

-- the judged columns of a record of the body, by how many data records are due and what they hold
abbrev pub body_columns : (due : ℕ) → Data → List ℕ → List Col
body_columns zero held r = type_columns (type_of r)
body_columns (suc due) held r = data_columns held due

-- the records of the body, of the sheet part, and of an index, each by the columns that are judged in it
abbrev pub normal_body : (due : ℕ) → Data → List (List ℕ) → List (List ℕ)
normal_body due held [] = []
normal_body due held (r ∷ rs) = normal_record (body_columns due held r) r ∷ normal_body (due_after due (view r)) (held_after due held (view r)) rs

abbrev pub normal_part : Sheet.Phase → List (List ℕ) → List (List ℕ)
normal_part p [] = []
normal_part p (r ∷ rs) = normal_record (Sheet.phase_columns p) r ∷ normal_part (Sheet.after p r) rs

abbrev pub normal_stage : Index.Stage → List (List ℕ) → List (List ℕ)
normal_stage p [] = []
normal_stage p (r ∷ rs) = normal_record (Index.stage_columns p) r ∷ normal_stage (Index.after p r) rs

unfoldable pub normal_sheet_records : List (List ℕ) → List (List ℕ)
normal_sheet_records rs = normal_part Sheet.due_a (take (Sheet.part_length rs) rs) ++ normal_body 0 nothing (drop (Sheet.part_length rs) rs)

unfoldable pub normal_index_records : List (List ℕ) → List (List ℕ)
normal_index_records rs = normal_stage Index.due_a rs

-- "judges, then writes to a second buffer (else 15) ..; the second buffer past the file stays": the answer is the bytes written, beside
-- it stands the whole second buffer afterwards
abbrev pub normal_to : Answer Counts → (used : ℕ) → List (List ℕ) → (second : List ℕ) → Outcome ℕ
normal_to (given counts) used records second =
    cond (leb used (length second))
    (record { answer = given used; bytes = flat records ++ drop used second })
    (record { answer = refused 15 0; bytes = second })
normal_to (refused number at) used records second = record { answer = refused number at; bytes = second }

unfoldable pub normal_sheet : (used : ℕ) → (buffer second : List ℕ) → Outcome ℕ
normal_sheet used buffer second = normal_to (judge_sheet used buffer) used (normal_sheet_records (chunks (used / 84) buffer)) second

unfoldable pub normal_index : (used : ℕ) → (buffer second : List ℕ) → Outcome ℕ
normal_index used buffer second = normal_to (judge_index used buffer) used (normal_index_records (chunks (used / 84) buffer)) second
