-- THE CLAIMS about the normal form, each in a line; what their words mean stands in specs/JudgedColumns.antt. Assumes nothing.
use mathlib.Core.Path.{◌≡◌, ap, sym, ◌∙◌}
use mathlib.Core.List.{List, [], ◌++◌, append-nil}
use Prim.Native.Nat.{ℕ, suc, ◌/◌, ◌≤◌, ◌<◌}
use lib.ListN.{length, take, drop}
use Rattle.format.specs.Basics.{given, refused, chunks}
use Rattle.format.specs.Layout.{Col}
use Rattle.format.specs.Record.{nothing}
use Rattle.format.specs.Part.{part_fault}
use Rattle.format.specs.Sheet as Sheet
use Rattle.format.specs.Index as Index
use Rattle.format.specs.Judge.{accepted, walk, file_of, judge_records, judge_index_records, judge_sheet, judge_index}
use Rattle.format.specs.Normal.{normal_sheet, normal_index, normal_sheet_records, normal_index_records}
use Rattle.format.specs.JudgedColumns.{sheet_judged, index_judged, sheet_wrong_by, index_wrong_by, part_fault_by, walk_by, NormalForm}
use Rattle.format.proofs.NormalColumns.{sheet-wrong, index-wrong, part-fault, body-walk, sheet-behind}
use Rattle.format.proofs.NormalFiles.{sheet-done, index-done}
use Rattle.format.proofs.NormalAgain.{sheet_twice, index_twice}
use Rattle.format.proofs.NormalCalls.{refused_as_judged, refused-short, call_normal, call_again, call-own}

-- ---- the judged columns are those of judging: stage two with them is stage two
-- in the sheet part of every file
pub part_columns_lem : (records : List (List ℕ)) → part_fault_by Sheet.sheet_machine sheet_wrong_by (sheet_judged records) Sheet.due_a 1 records ≡ Sheet.sheet_fault records
unfolding sheet_judged Sheet.sheet_fault
part_columns_lem records = part-fault Sheet.sheet_machine sheet_wrong_by Sheet.phase_columns sheet-wrong Sheet.due_a 1 records _

-- in the body of every file
pub body_columns_lem : (records : List (List ℕ)) → walk_by (drop (Sheet.part_length records) (sheet_judged records)) 0 0 nothing 0 (suc (Sheet.part_length records)) (drop (Sheet.part_length records) records) ≡ walk 0 0 nothing 0 (suc (Sheet.part_length records)) (file_of records).body
body_columns_lem records = rw (sheet-behind records) (body-walk 0 0 nothing 0 (suc (Sheet.part_length records)) (drop (Sheet.part_length records) records))

-- in every index
pub index_columns : (records : List (List ℕ)) → part_fault_by Index.index_machine index_wrong_by (index_judged records) Index.due_a 1 records ≡ part_fault Index.index_machine Index.due_a 1 records
unfolding index_judged
index_columns records = ap (λ (x : List (List Col)). part_fault_by Index.index_machine index_wrong_by x Index.due_a 1 records) (sym (append-nil (index_judged records))) ∙ part-fault Index.index_machine index_wrong_by Index.stage_columns index-wrong Index.due_a 1 records []

-- ---- a sheet: "judges, then writes to a second buffer (else 15) the same file with every judged integer in written form"
-- what judging refuses is refused so, by the same number at the same record, and the second buffer is as it was
pub sheet-refused : (used : ℕ) (buffer second : List ℕ) (number at : ℕ) → judge_sheet used buffer ≡ refused number at → normal_sheet used buffer second ≡ record { answer = refused number at; bytes = second }
unfolding normal_sheet
sheet-refused used buffer second number at e = refused_as_judged _ number at e used _ second

-- of an accepted file: 15 at record 0 where the second buffer is shorter than the file, and it is as it was
pub sheet_15 : (used : ℕ) (buffer second : List ℕ) (n m : ℕ) → judge_sheet used buffer ≡ accepted n m → length second < used → normal_sheet used buffer second ≡ record { answer = refused 15 0; bytes = second }
unfolding normal_sheet
sheet_15 used buffer second n m e l = refused-short _ n m e used _ second l

-- else the file's length, and the second buffer holds the normal form; "the second buffer past the file stays"
pub sheet_normal : (used : ℕ) (buffer second : List ℕ) (n m : ℕ) → judge_sheet used buffer ≡ accepted n m → used ≤ length second → ((normal_sheet used buffer second).answer ≡ given used) × NormalForm (sheet_judged (chunks (used / 84) buffer)) used buffer second (normal_sheet used buffer second).bytes
unfolding normal_sheet judge_sheet
sheet_normal used buffer second n m e l = call_normal judge_records sheet_judged normal_sheet_records sheet-done sheet_twice used buffer second n m e l

-- the normal form is accepted, with the same counts
pub sheet_again : (used : ℕ) (buffer second : List ℕ) (n m : ℕ) → judge_sheet used buffer ≡ accepted n m → used ≤ length second → judge_sheet used (normal_sheet used buffer second).bytes ≡ accepted n m
unfolding normal_sheet judge_sheet
sheet_again used buffer second n m e l = call_again judge_records sheet_judged normal_sheet_records sheet-done sheet_twice used buffer second n m e l

-- and is its own normal form
pub sheet-own : (used : ℕ) (buffer second : List ℕ) (n m : ℕ) → judge_sheet used buffer ≡ accepted n m → used ≤ length second → (third : List ℕ) → used ≤ length third → normal_sheet used (normal_sheet used buffer second).bytes third ≡ record { answer = given used; bytes = take used (normal_sheet used buffer second).bytes ++ drop used third }
unfolding normal_sheet judge_sheet
sheet-own used buffer second n m e l = call-own judge_records sheet_judged normal_sheet_records sheet-done sheet_twice used buffer second n m e l

-- ---- an index: "judges, then writes to a second buffer (else 15) the same file with every judged integer in written form"
-- what judging refuses is refused so, by the same number at the same record, and the second buffer is as it was
pub index-refused : (used : ℕ) (buffer second : List ℕ) (number at : ℕ) → judge_index used buffer ≡ refused number at → normal_index used buffer second ≡ record { answer = refused number at; bytes = second }
unfolding normal_index
index-refused used buffer second number at e = refused_as_judged _ number at e used _ second

-- of an accepted file: 15 at record 0 where the second buffer is shorter than the file, and it is as it was
pub index_15 : (used : ℕ) (buffer second : List ℕ) (n m : ℕ) → judge_index used buffer ≡ accepted n m → length second < used → normal_index used buffer second ≡ record { answer = refused 15 0; bytes = second }
unfolding normal_index
index_15 used buffer second n m e l = refused-short _ n m e used _ second l

-- else the file's length, and the second buffer holds the normal form; "the second buffer past the file stays"
pub index_normal : (used : ℕ) (buffer second : List ℕ) (n m : ℕ) → judge_index used buffer ≡ accepted n m → used ≤ length second → ((normal_index used buffer second).answer ≡ given used) × NormalForm (index_judged (chunks (used / 84) buffer)) used buffer second (normal_index used buffer second).bytes
unfolding normal_index judge_index
index_normal used buffer second n m e l = call_normal judge_index_records index_judged normal_index_records index-done index_twice used buffer second n m e l

-- the normal form is accepted, with the same counts
pub index_again : (used : ℕ) (buffer second : List ℕ) (n m : ℕ) → judge_index used buffer ≡ accepted n m → used ≤ length second → judge_index used (normal_index used buffer second).bytes ≡ accepted n m
unfolding normal_index judge_index
index_again used buffer second n m e l = call_again judge_index_records index_judged normal_index_records index-done index_twice used buffer second n m e l

-- and is its own normal form
pub index-own : (used : ℕ) (buffer second : List ℕ) (n m : ℕ) → judge_index used buffer ≡ accepted n m → used ≤ length second → (third : List ℕ) → used ≤ length third → normal_index used (normal_index used buffer second).bytes third ≡ record { answer = given used; bytes = take used (normal_index used buffer second).bytes ++ drop used third }
unfolding normal_index judge_index
index-own used buffer second n m e l = call-own judge_index_records index_judged normal_index_records index-done index_twice used buffer second n m e l
