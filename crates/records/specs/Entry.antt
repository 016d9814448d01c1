-- One record of a sheet's body, as judging asks for it: what a header or an item states, with its first fault of 4, 5 and 6; the first fault of a
-- data record, and how much of it is used; where a header has its counts, and whether it states those of a tally. Each is said by the view of the
-- record or its layout. Assumes nothing.
use Rattle.std.specs.Prelude.{Result, Ok, Err, Bool, false, cond, ◌&&◌, List, ℕ, ◌*◌, leb, eqb, length, get_or}
use Rattle.format.specs.Basics.{first, unless}
use Rattle.format.specs.Layout.{find, number_at, header}
use Rattle.format.specs.Record.{count_index, count_name, Data, nothing, points_3d, points_2d, triangles, heights, notes, attributes, used_in, data_fault, View, count_in, view}
use Rattle.format.specs.Judge.{sum, all}
use Rattle.format.specs.Reasons.{refusal_number}
use Rattle.format.specs.declared.Reason.{Reason}
use Rattle.records.specs.declared.items.Entry as Declared
use Rattle.records.specs.declared.Held.{Held}
use Rattle.records.specs.declared.Held.TheVariants.{Nothing, Points3D, Points2D, Triangles, Heights, Notes, Attributes}

-- what an item's data records hold, and the same as the code has it
abbrev pub to_data : Held → Data
to_data Nothing = nothing
to_data (Points3D count) = points_3d count
to_data (Points2D count) = points_2d count
to_data (Triangles count) = triangles count
to_data (Heights count) = heights count
to_data Notes = notes
to_data Attributes = attributes

abbrev pub to_held : Data → Held
to_held nothing = Nothing
to_held (points_3d count) = Points3D count
to_held (points_2d count) = Points2D count
to_held (triangles count) = Triangles count
to_held (heights count) = Heights count
to_held notes = Notes
to_held attributes = Attributes

-- the first of 4, 5 and 6 where a header or an item is due: 4, "not H, E1..E8, G or T where one is due"; then those of its own columns
unfoldable pub view_fault : View → ℕ
view_fault v = first (unless (leb (count_index v.kind) 9) 4) v.column_fault

-- what stands where a header or an item is due: its fault is 4, 5 or 6, with no values, and 0 for none; its rule's fault is 8 or 0
pub record Entry : Type 0 where
  pub fault : ℕ
  pub kind : ℕ
  pub level : ℕ
  pub data_records : ℕ
  pub held : Held
  pub rule_fault : ℕ

-- "A refusal returns number and record only": no values
abbrev pub refused_entry : ℕ → Entry
refused_entry number = record { fault = number; kind = 0; level = 0; data_records = 0; held = Nothing; rule_fault = 0 }

-- a header or an item: its kind by which a header counts it, its level, how many data records it states and what they hold, and 8 where its
-- data rule is broken
unfoldable pub entry_in : View → Entry
entry_in v =
    cond (eqb (view_fault v) 0)
    (record { fault = 0; kind = count_index v.kind; level = v.level; data_records = v.data_records; held = to_held v.data_held; rule_fault = v.rule_fault })
    (refused_entry (view_fault v))

-- the same as the code has it
abbrev pub entry_said : Result Declared.Entry Reason → Entry
entry_said (Ok e) = record { fault = 0; kind = e.kind; level = e.level; data_records = e.data_records; held = e.held; rule_fault = unless e.rule_kept 8 }
entry_said (Err reason) = refused_entry (refusal_number reason)

-- the same of bytes; what is no record of 84 bytes is neither header nor item
unfoldable pub entry_of : List ℕ → Entry
entry_of l = cond (eqb (length l) 84) (entry_in (view l)) (refused_entry 4)

-- the first of 5 and 6 where data is due, by what its item's data records hold and how many of them stand behind this one; what is no record
-- of 84 bytes is 5
unfoldable pub data_fault_of : List ℕ → Held → (behind : ℕ) → ℕ
data_fault_of l held behind = cond (eqb (length l) 84) (data_fault (to_data held) behind l) 5

-- what an item's data records hold, where a note counts as nothing
abbrev pub no_note : Held → Held
no_note Nothing = Nothing
no_note (Points3D count) = Points3D count
no_note (Points2D count) = Points2D count
no_note (Triangles count) = Triangles count
no_note (Heights count) = Heights count
no_note Notes = Nothing
no_note Attributes = Attributes

-- the fault of a data record where a note counts as nothing: of points, heights and attributes it is the same
unfoldable pub columns_fault_of : List ℕ → Held → (behind : ℕ) → ℕ
columns_fault_of l held behind = data_fault_of l (no_note held) behind

-- how many columns of seven bytes of a data record are used, by the same two: "Points or heights after the last used one are not judged". A point
-- in 3D has three columns, one in 2D two, a triangle three points in 3D, a height one
unfoldable pub columns_used : Held → (behind : ℕ) → ℕ
columns_used Nothing behind = 0
columns_used (Points3D count) behind = 3 * used_in 4 count behind
columns_used (Points2D count) behind = 2 * used_in 6 count behind
columns_used (Triangles count) behind = 3 * used_in 4 (3 * count) behind
columns_used (Heights count) behind = used_in 12 count behind
columns_used Notes behind = 0
columns_used Attributes behind = 0

-- where the count of a kind stands in a header, and how wide it is; 0 and 0 where no count is of that kind
unfoldable pub count_start : ℕ → ℕ
count_start kind = (find (count_name kind) header).start

unfoldable pub count_width : ℕ → ℕ
count_width kind = (find (count_name kind) header).width

-- the count of a kind that a header states; what is no record of 84 bytes states none
unfoldable pub stated_count : List ℕ → (kind : ℕ) → ℕ
stated_count l kind = cond (eqb (length l) 84) (count_in l kind) 0

-- a header states of a kind what the tally has
abbrev pub states_count : List ℕ → List ℕ → (kind : ℕ) → Bool
states_count l tally kind = eqb (count_in l kind) (get_or tally kind 0)

-- it does so of all ten kinds, and "total is the sum of the others"; what is no record of 84 bytes states nothing
unfoldable pub states_counts : List ℕ → List ℕ → Bool
states_counts l tally =
    cond (eqb (length l) 84) (all 10 (states_count l tally) && eqb (number_at header "total" l) (sum 10 (count_in l))) false
