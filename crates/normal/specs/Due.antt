-- Which record of a file is due, as the code follows it: the records of a sheet part or of an index in the order of crate part_and_index, and those behind a
-- sheet part. Private functions cite it; that it ends in the normal form of an accepted file is shown in proofs/Files. Assumes nothing.
use Rattle.std.specs.Prelude.{cond, List, [], ◌∷◌, ◌++◌, ℕ, zero, suc, ◌+◌, ◌*◌, ◌/◌, eqb, leb, length, take, drop, get_or}
use Rattle.format.specs.Basics.{given, refused, Outcome, chunks, flat}
use Rattle.format.specs.Layout.{Col, index_a, index_b, index_c, sheet_a, sheet_b, sheet_c, sheet_d, sheet_e, sheet_f, header, element, grid_header, net_header}
use Rattle.format.specs.Record.{data_columns}
use Rattle.format.specs.Normal.{normal_record}
use Rattle.records.specs.declared.Held.{Held}
use Rattle.records.specs.Entry.{to_data, entry_of}
use Rattle.part_and_index.specs.declared.due.Due.{Due}
use Rattle.part_and_index.specs.declared.due.Due.TheVariants.{SheetA, SheetB, SheetC, SheetD, SheetE, SheetF, IndexA, IndexB, IndexC, Over}
use Rattle.part_and_index.specs.Due as Part
use Rattle.normal.specs.declared.due.FileDue.{FileDue}
use Rattle.normal.specs.declared.due.FileDue.TheVariants.{Sheet, Index, Entry, Data}

-- still in the sheet part, or behind it
abbrev pub behind_part : Due → FileDue
behind_part due = cond (Part.is_over due) Entry (Sheet due)

-- where so many data records of an item are left, the first of them is due, with one less behind it
abbrev pub due_data : Held → (data_records : ℕ) → FileDue
due_data held zero = Entry
due_data held (suc behind) = Data held behind

-- behind a header or an item
abbrev pub behind_entry : List ℕ → FileDue
behind_entry r = due_data (entry_of r).held (entry_of r).data_records

-- ---- behind a record, whatever was due there
abbrev pub next_in_file : FileDue → List ℕ → FileDue
next_in_file (Sheet due) r = behind_part (Part.next_due due r)
next_in_file (Index due) r = Index (Part.next_due due r)
next_in_file Entry r = behind_entry r
next_in_file (Data held behind) r = due_data held behind

-- ---- the columns of the record that is due
-- a header or an item, by its first byte: 'H' is 72, 'E' 69, 'G' 71, 'T' 84
abbrev pub letter_columns : List ℕ → List Col
letter_columns r =
    cond (eqb (get_or r 0 0) 72) header (
    cond (eqb (get_or r 0 0) 69) element (
    cond (eqb (get_or r 0 0) 71) grid_header (
    cond (eqb (get_or r 0 0) 84) net_header [])))

-- of a sheet part or of an index: format's `phase_columns` and `stage_columns`
abbrev pub part_columns : Due → List Col
part_columns SheetA = sheet_a
part_columns (SheetB sets) = sheet_b
part_columns (SheetC sets) = sheet_c
part_columns (SheetD sets) = sheet_d
part_columns (SheetE fs sets) = sheet_e
part_columns (SheetF fs sets) = sheet_f
part_columns IndexA = index_a
part_columns (IndexB bs cs) = index_b
part_columns (IndexC cs) = index_c
part_columns Over = []

abbrev pub columns_due : FileDue → List ℕ → List Col
columns_due (Sheet due) r = part_columns due
columns_due (Index due) r = part_columns due
columns_due Entry r = letter_columns r
columns_due (Data held behind) r = data_columns (to_data held) behind

-- ---- the records of a file, from the record that is due first
unfoldable pub rewritten : FileDue → List (List ℕ) → List (List ℕ)
rewritten due [] = []
rewritten due (r ∷ rs) = normal_record (columns_due due r) r ∷ rewritten (next_in_file due r) rs

-- "writes to a second buffer (else 15) ..; the second buffer past the file stays"
unfoldable pub written_to : (used : ℕ) → List (List ℕ) → (second : List ℕ) → Outcome ℕ
written_to used records second =
    cond (leb used (length second))
    (record { answer = given used; bytes = flat records ++ drop used second })
    (record { answer = refused 15 0; bytes = second })

-- the second buffer with these bytes for its record k, from 0
abbrev pub with_record : (k : ℕ) → (bytes second : List ℕ) → List ℕ
with_record k bytes second = take (84 * k) second ++ (bytes ++ drop (84 * (k + 1)) second)

-- the file in the first `used` bytes of a buffer so written, from the record that is due first
abbrev pub file_to : (used : ℕ) → FileDue → (buffer second : List ℕ) → Outcome ℕ
file_to used first buffer second = written_to used (rewritten first (chunks (used / 84) buffer)) second
