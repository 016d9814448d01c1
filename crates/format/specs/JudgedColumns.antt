-- The columns that judging reads of each record of a file, and what the normal form is, said of every byte. Assumes nothing.
use Rattle.std.specs.Prelude.{◌≡◌, Bool, true, false, cond, ◌⊎◌, List, [], ◌∷◌, ◌++◌, ℕ, zero, suc, ◌+◌, ◌/◌, ◌≤◌, ◌<◌, eqb, ℤ, length, drop, get_or}
use Rattle.format.specs.declared.Column.TheVariants.{Value}
use Rattle.format.specs.Text.{begins}
use Rattle.format.specs.Basics.{first, unless, Fault, none, fault, or_else, to_fault, chunks}
use Rattle.format.specs.Column.{column_of, written}
use Rattle.format.specs.Layout.{What, text, blank, integral, integral_or_spaces, Col, bytes_of, spaces, column_fault, number_at, sheet_b, sheet_d}
use Rattle.format.specs.Record.{Data, nothing, view, is_header_or_item, type_of, type_columns, data_columns, data_rule}
use Rattle.format.specs.Part.{Machine}
use Rattle.format.specs.Sheet as Sheet
use Rattle.format.specs.Index as Index
use Rattle.format.specs.Judge.{open_after, due_after, held_after, owner_after, level_ok, missing}

-- ---- The judged columns of each record, by the walk of judging: that of a sheet part or an index, and that of the body
module _ (M : Machine) (columns : M.Phase → List Col) where
  abbrev pub part_judged : M.Phase → List (List ℕ) → List (List Col)
  part_judged p [] = []
  part_judged p (r ∷ rs) = cond (M.over p) [] (columns p ∷ part_judged (M.step p r) rs)

-- of a header or an item where no data is due, else of a data record that has so many behind it
abbrev pub columns_at : (due : ℕ) → Data → List ℕ → List Col
columns_at zero held r = type_columns (type_of r)
columns_at (suc due) held r = data_columns held due

abbrev pub body_judged : (due : ℕ) → Data → List (List ℕ) → List (List Col)
body_judged due held [] = []
body_judged due held (r ∷ rs) = columns_at due held r ∷ body_judged (due_after due (view r)) (held_after due held (view r)) rs

unfoldable pub sheet_judged : List (List ℕ) → List (List Col)
sheet_judged rs = part_judged Sheet.sheet_machine Sheet.phase_columns Sheet.due_a rs ++ body_judged 0 nothing (drop (Sheet.part_length rs) rs)

unfoldable pub index_judged : List (List ℕ) → List (List Col)
index_judged rs = part_judged Index.index_machine Index.stage_columns Index.due_a rs

-- ---- Stage two, told which columns to judge in each record: with those above it is stage two itself, for every file (`part_columns_lem`,
-- `body_columns_lem`, `index_columns` in proofs/ClaimsNormal.antt)
abbrev pub sheet_wrong_by : Sheet.Phase → List Col → List ℕ → ℕ
sheet_wrong_by Sheet.due_a columns r = first (unless (begins "M " r) 2) (column_fault columns r)
sheet_wrong_by (Sheet.due_b level more) columns r = first (column_fault columns r) (unless (eqb (number_at sheet_b "unit" r) (Sheet.unit_of level)) 6)
sheet_wrong_by (Sheet.due_c unit wholes more) columns r = column_fault columns r
sheet_wrong_by (Sheet.due_d unit wholes more) columns r = first (column_fault columns r) (unless (Sheet.f_count_ok (number_at sheet_d "courses" r) (number_at sheet_d "f records" r)) 6)
sheet_wrong_by (Sheet.due_e unit wholes more fs) columns r = first (column_fault columns r) (unless (Sheet.fractions_ok unit wholes (Sheet.fractions_of r)) 9)
sheet_wrong_by (Sheet.due_f unit wholes more fs) columns r = column_fault columns r
sheet_wrong_by Sheet.body columns r = 0

abbrev pub index_wrong_by : Index.Stage → List Col → List ℕ → ℕ
index_wrong_by Index.due_a columns r = first (unless (begins "I " r) 2) (first (column_fault columns r) (unless (Index.b_count_ok r) 6))
index_wrong_by (Index.due_b bs cs) columns r = column_fault columns r
index_wrong_by (Index.due_c cs) columns r = column_fault columns r
index_wrong_by Index.over columns r = 0

module _ (M : Machine) (wrong_by : M.Phase → List Col → List ℕ → ℕ) where
  abbrev pub part_fault_by : List (List Col) → M.Phase → ℕ → List (List ℕ) → Fault
  part_fault_by judged p i [] = cond (M.over p) none (fault 3 1)
  part_fault_by judged p i (r ∷ rs) = cond (M.over p) none (or_else (to_fault (wrong_by p (get_or judged 0 []) r) i) (part_fault_by (drop 1 judged) (M.step p r) (suc i) rs))

abbrev pub fault_by : List Col → (opened due : ℕ) → Data → List ℕ → ℕ
fault_by columns opened zero held r =
    first (unless (is_header_or_item (view r).kind) 4) (first (column_fault columns r) (first (unless (level_ok opened (view r)) 7) (view r).rule_fault))
fault_by columns opened (suc due) held r = first (column_fault columns r) (unless (data_rule held r) 6)

abbrev pub walk_by : List (List Col) → (opened due : ℕ) → Data → (owner number : ℕ) → List (List ℕ) → Fault
walk_by judged opened due held owner number [] = missing due owner
walk_by judged opened due held owner number (r ∷ rs) =
    or_else (to_fault (fault_by (get_or judged 0 []) opened due held r) number)
    (walk_by (drop 1 judged) (open_after opened due (view r)) (due_after due (view r)) (held_after due held (view r)) (owner_after due owner number) (suc number) rs)

-- ---- The normal form: "the same file with every judged integer in written form; seven spaces in the value column stay"
-- a column reads as a number, and is in written form of that number afterwards
abbrev pub WrittenAnew : (width : ℕ) → (before after : List ℕ) → Type 0
WrittenAnew width before after = (z : ℤ) × ((column_of before ≡ Value z) × (after ≡ written width z))

abbrev pub ColumnNormal : What → (width : ℕ) → (before after : List ℕ) → Type 0
ColumnNormal text width before after = after ≡ before
ColumnNormal blank width before after = after ≡ before
ColumnNormal (integral rule) width before after = WrittenAnew width before after
ColumnNormal integral_or_spaces width before after = ((spaces before ≡ true) × (after ≡ before)) ⊎ ((spaces before ≡ false) × WrittenAnew width before after)

abbrev pub EachColumn : List Col → (before after : List ℕ) → Type 0
EachColumn [] before after = Unit {0}
EachColumn (c ∷ cs) before after = ColumnNormal c.what c.width (bytes_of c before) (bytes_of c after) × EachColumn cs before after

abbrev pub is_integer : What → Bool
is_integer text = false
is_integer blank = false
is_integer (integral rule) = true
is_integer integral_or_spaces = true

-- byte i is in no integer column of these
abbrev pub InNoInteger : List Col → (i : ℕ) → Type 0
InNoInteger [] i = Unit {0}
InNoInteger (c ∷ cs) i = (is_integer c.what ≡ true → (i < c.start) ⊎ (c.start + c.width ≤ i)) × InNoInteger cs i

-- a record in which these columns are judged, and its normal form
pub record Normalised (columns : List Col) (before after : List ℕ) : Type 0 where
  pub long : length after ≡ length before
  pub judged : EachColumn columns before after
  pub others : (i : ℕ) → InNoInteger columns i → get_or after i 0 ≡ get_or before i 0

-- the second buffer afterwards, by the judged columns of each record: "the second buffer past the file stays"
pub record NormalForm (judged : List (List Col)) (used : ℕ) (buffer second after : List ℕ) : Type 0 where
  pub long : length after ≡ length second
  pub records : (k : ℕ) → k < used / 84 → Normalised (get_or judged k []) (get_or (chunks (used / 84) buffer) k []) (get_or (chunks (used / 84) after) k [])
  pub behind : drop used after ≡ drop used second
