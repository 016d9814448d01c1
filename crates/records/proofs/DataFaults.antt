-- Data records in the code's own words: the columns used decide the fault of points and heights; a note's direction is asked behind its columns.
-- Assumes nothing.
use mathlib.Core.Path.{◌≡◌, refl, ap, sym, ◌∙◌}
use mathlib.Core.Bool.{Bool, true, false, cond}
use mathlib.Core.List.{List}
use Prim.Native.Nat.{ℕ, ◌+◌, ◌*◌}
use native.Mathlib.Omega.{arith}
use borrow.Author.Tests.{eq-eqb, ne_eqb, le-leb}
use lib.IntN.{ℤ}
use lib.ListN.{length}
use mir.Syntax.{w64}
use mir.Val.{SFits, to_z, of_z}
use Rattle.format.specs.Basics.{unless}
use Rattle.format.specs.Reasons.{refusal_number}
use Rattle.format.specs.declared.Reason.{Reason}
use Rattle.format.specs.Column.{integer}
use Rattle.format.specs.Layout.{find, number_at, integer_at, all_formed, all_inside, column_fault, data_note, data_attribute}
use Rattle.format.specs.Record.{notes, data_columns, direction_ok, data_fault}
use Rattle.columns.specs.InRecord.{column_at, number_in}
use Rattle.format.proofs.Signed.{back}
use Rattle.form_columns.specs.Columns.{each_formed, columns_formed}
use Rattle.form_columns.proofs.Records.{alone, column_fault_3d, column_fault_2d, column_fault-net, column_fault-grid}
use Rattle.layout_faults.specs.Faults.{fault_in}
use Rattle.layout_faults.proofs.Laws.{fault_in_record, integer_is}
use Rattle.format.proofs.Basics.{first_some}
use Rattle.records.specs.declared.Held.{Held}
use Rattle.records.specs.declared.Held.TheVariants.{Nothing, Points3D, Points2D, Triangles, Heights, Notes, Attributes}
use Rattle.records.specs.Entry.{to_data, no_note, columns_fault_of, data_fault_of, columns_used}
use Rattle.records.specs.Steps.{direction_in}
use Rattle.records.proofs.Numbers.{stated}
use Rattle.format.proofs.Reasons.{not_zero}
use Rattle.records.proofs.Naturals.{note_writing}

-- ---- `check_note`

module _ (l : List ℕ) (whole : length l ≡ 84) where
  note_rule : (writing : ℕ) (direction : ℤ) → writing ≡ number_in l 0 1 → direction ≡ integer (column_at l 1 7) → direction_in writing direction ≡ direction_ok l
  unfolding direction_ok direction_in find data_note
  note_rule writing direction u d =
      let u' : writing ≡ number_at data_note "writing direction" l = u ∙ stated l whole data_note "writing direction" 0 1 _ refl refl in
      let d' : direction ≡ integer_at data_note "direction" l = d ∙ sym (integer_is data_note "direction" 1 7 _ refl refl l whole) in
      rw (u', d')

  note_record : data_fault_of l Notes 0 ≡ data_fault notes 0 l
  unfolding data_fault_of
  note_record = rw (eq-eqb (length l) 84 whole)

  own-note : column_fault data_note l ≡ fault_in data_note l
  own-note = sym (fault_in_record data_note l whole)

  pub note-refused : (reason : Reason) → refusal_number reason ≡ fault_in data_note l → refusal_number reason ≡ data_fault_of l Notes 0
  unfolding data_fault data_columns
  note-refused reason e = rw (note_record, own-note ∙ sym e) (first_some (refusal_number reason) (unless (direction_ok l) 6) (not_zero reason))

  judged : (writing : ℕ) (direction : ℤ) (r : Bool) → 0 ≡ fault_in data_note l → writing ≡ number_in l 0 1 → direction ≡ integer (column_at l 1 7) → SFits w64 direction → r ≡ direction_in writing (to_z w64 (of_z w64 direction)) → data_fault_of l Notes 0 ≡ unless r 6
  unfolding data_fault data_columns
  judged writing direction r none u d fits q =
      let p : r ≡ direction_in writing direction = q ∙ rw (back direction fits) in
      rw (note_record, own-note ∙ sym none, ← note_rule writing direction u d, ← p)

-- the record as the code has it, of 84 bytes
module _ (l l' : List ℕ) (same : l' ≡ l) (whole : length l ≡ 84) where
  pub note_refused : (reason : Reason) → refusal_number reason ≡ fault_in data_note l' → refusal_number reason ≡ data_fault_of l Notes 0
  note_refused reason e = note-refused l whole reason (rw same at e)

  module _ (writing : ℕ) (direction : ℤ) (r : Bool) (none : 0 ≡ fault_in data_note l') (u : writing ≡ number_in l' 0 1) (d : direction ≡ integer (column_at l' 1 7)) (fits : SFits w64 direction) (q : r ≡ direction_in writing (to_z w64 (of_z w64 direction))) where
    decides : data_fault_of l Notes 0 ≡ unless r 6
    decides = judged l whole writing direction r (rw same at none) (rw same at u) (rw same at d) fits q

    pub note-passed : r ≡ true → 0 ≡ data_fault_of l Notes 0
    note-passed t = sym (decides ∙ rw t)

    pub note-fails : r ≡ false → 6 ≡ data_fault_of l Notes 0
    note-fails t = sym (decides ∙ rw t)

-- ---- `check_columns`

-- what is no record
pub no_data_record : (l : List ℕ) (held : Held) (behind : ℕ) → (length l ≡ 84 → ⊥) → 5 ≡ data_fault_of l held behind
unfolding data_fault_of
no_data_record l held behind h = rw (ne_eqb (length l) 84 h)

pub no_columns_record : (l : List ℕ) (held : Held) (behind : ℕ) → (length l ≡ 84 → ⊥) → 5 ≡ columns_fault_of l held behind
unfolding columns_fault_of
no_columns_record l held behind h = no_data_record l (no_note held) behind h

module _ (l : List ℕ) (held : Held) (behind : ℕ) (whole : length l ≡ 84) where
  -- columns that are well formed have no other fault
  no_columns : columns_formed l 0 0 ≡ true
  unfolding columns_formed each_formed
  no_columns = rw (le-leb (0 + 0 * 7) (length l) (omega arith))

  by_columns : (h : Held) → data_fault (to_data (no_note h)) behind l ≡ cond (columns_formed l 0 (columns_used h behind)) 0 5
  unfolding data_fault data_columns columns_used column_fault all_formed all_inside data_attribute
  by_columns Nothing = rw no_columns
  by_columns (Points3D count) = column_fault_3d l l 0 (alone l whole) (omega arith) count behind
  by_columns (Points2D count) = column_fault_2d l l 0 (alone l whole) (omega arith) count behind
  by_columns (Triangles count) = column_fault-net l l 0 (alone l whole) (omega arith) count behind
  by_columns (Heights count) = column_fault-grid l l 0 (alone l whole) (omega arith) count behind
  by_columns Notes = rw no_columns
  by_columns Attributes = rw no_columns

  module _ (used : ℕ) (u : used ≡ columns_used held behind) (r : Bool) (e : r ≡ columns_formed l 0 used) where
    judged_by_columns : columns_fault_of l held behind ≡ cond r 0 5
    unfolding columns_fault_of data_fault_of
    judged_by_columns = rw (eq-eqb (length l) 84 whole, e, u) (by_columns held)

    pub columns_pass : r ≡ true → 0 ≡ columns_fault_of l held behind
    columns_pass g = sym (judged_by_columns ∙ rw g)

    pub columns_fail : r ≡ false → 5 ≡ columns_fault_of l held behind
    columns_fail g = sym (judged_by_columns ∙ rw g)

-- ---- `check_data`, and who asks for a note apart as it does

-- of a note it does not matter how many records stand behind it
pub of_note : (l : List ℕ) (held : Held) (behind r : ℕ) → held ≡ Notes → r ≡ data_fault_of l Notes 0 → r ≡ data_fault_of l held behind
unfolding data_fault_of data_fault data_columns
of_note l held behind r h e = rw h e

other_held : (h : Held) → (h ≡ Notes → ⊥) → no_note h ≡ h
other_held Nothing t = refl
other_held (Points3D count) t = refl
other_held (Points2D count) t = refl
other_held (Triangles count) t = refl
other_held (Heights count) t = refl
other_held Notes t = absurd (t refl)
other_held Attributes t = refl

pub of_columns : (l : List ℕ) (held : Held) (behind r : ℕ) → (held ≡ Notes → ⊥) → r ≡ columns_fault_of l held behind → r ≡ data_fault_of l held behind
unfolding columns_fault_of
of_columns l held behind r t e = e ∙ ap (λ (h : Held). data_fault_of l h behind) (other_held held t)

-- ---- what each function of the code stands on

pub ruleset columns_laws = (no_columns_record, columns_pass, columns_fail)

pub ruleset note_laws = (no_data_record, note_writing, note-passed, note-fails)

pub ruleset data_laws = (of_note, of_columns)
