-- Which record is due, of a sheet part or of an index, and which one behind it: by format's `Sheet.after` and `Index.after`, without what only
-- judging asks of them. Assumes nothing.
use Rattle.std.specs.Prelude.{Bool, true, false, cond, List, [], ℕ, eqb, length}
use Rattle.format.specs.Sheet as Sheet
use Rattle.format.specs.Index as Index
use Rattle.part_and_index.specs.declared.due.Due.{Due}
use Rattle.part_and_index.specs.declared.due.Due.TheVariants.{SheetA, SheetB, SheetC, SheetD, SheetE, SheetF, IndexA, IndexB, IndexC, Over}

-- the record that is due in a phase of a sheet part, and in a stage of an index
abbrev pub due_in : Sheet.Phase → Due
due_in Sheet.due_a = SheetA
due_in (Sheet.due_b level more) = SheetB more
due_in (Sheet.due_c unit wholes more) = SheetC more
due_in (Sheet.due_d unit wholes more) = SheetD more
due_in (Sheet.due_e unit wholes more fs) = SheetE fs more
due_in (Sheet.due_f unit wholes more fs) = SheetF fs more
due_in Sheet.body = Over

abbrev pub due_at : Index.Stage → Due
due_at Index.due_a = IndexA
due_at (Index.due_b bs cs) = IndexB bs cs
due_at (Index.due_c cs) = IndexC cs
due_at Index.over = Over

-- behind a whole record: what is due there does not ask for the level, the unit and the wholes, which are 0 and none here (proofs/DueLaws: due_phase)
abbrev pub next_of_whole : Due → List ℕ → Due
next_of_whole SheetA r = due_in (Sheet.after Sheet.due_a r)
next_of_whole (SheetB sets) r = due_in (Sheet.after (Sheet.due_b 0 sets) r)
next_of_whole (SheetC sets) r = due_in (Sheet.after (Sheet.due_c 0 [] sets) r)
next_of_whole (SheetD sets) r = due_in (Sheet.after (Sheet.due_d 0 [] sets) r)
next_of_whole (SheetE fs sets) r = due_in (Sheet.after (Sheet.due_e 0 [] sets fs) r)
next_of_whole (SheetF fs sets) r = due_in (Sheet.after (Sheet.due_f 0 [] sets fs) r)
next_of_whole IndexA r = due_at (Index.after Index.due_a r)
next_of_whole (IndexB bs cs) r = due_at (Index.after (Index.due_b bs cs) r)
next_of_whole (IndexC cs) r = due_at (Index.after (Index.due_c cs) r)
next_of_whole Over r = Over

-- "records of 84 bytes": behind bytes that are no whole record what was due is due still
unfoldable pub next_due : Due → List ℕ → Due
next_due due r = cond (eqb (length r) 84) (next_of_whole due r) due

-- nothing is due
abbrev pub is_over : Due → Bool
is_over SheetA = false
is_over (SheetB sets) = false
is_over (SheetC sets) = false
is_over (SheetD sets) = false
is_over (SheetE fs sets) = false
is_over (SheetF fs sets) = false
is_over IndexA = false
is_over (IndexB bs cs) = false
is_over (IndexC cs) = false
is_over Over = true
