-- The sheet part: "Records a, b, c, then d, e and the f records, this last set revisions + 1 times". Assumes nothing.
use Rattle.std.specs.Prelude.{◌≡◌, refl, Bool, true, false, cond, ◌&&◌, ◌||◌, List, [], ◌∷◌, ℕ, zero, suc, eqb, ℤ}
use Prim.Native.String.{String}
use Rattle.format.specs.Text.{begins}
use Rattle.format.specs.Basics.{round_up, first, unless, Fault}
use Rattle.format.specs.Corner.{fraction_ok, millimetres}
use Rattle.format.specs.Layout.{Col, has_all, column_fault, integer_at, number_at, sheet_a, sheet_b, sheet_c, sheet_d, sheet_e, sheet_f}
use Rattle.format.specs.Record.{rewrite}
use Rattle.format.specs.Part.{Machine, part_from, part_fault}

-- "Level 500 or 1000 goes with unit 1, 2500 or 5000 with 10, 10000 with 999"; record a has one of these five
abbrev pub unit_of : ℕ → ℕ
unit_of level = cond (eqb level 500 || eqb level 1000) 1 (cond (eqb level 2500 || eqb level 5000) 10 999)

-- the corners' columns, in the order of b; e has fractions by the same names
abbrev pub corner_names : List String
corner_names = "lower left X" ∷ "lower left Y" ∷ "upper right X" ∷ "upper right Y" ∷ "upper left X" ∷ "upper left Y" ∷ "lower right X" ∷ "lower right Y" ∷ []

abbrev pub all_at : List Col → List String → List ℕ → List ℤ
all_at l [] r = []
all_at l (n ∷ ns) r = integer_at l n r ∷ all_at l ns r

unfoldable pub wholes_of : List ℕ → List ℤ
wholes_of b = all_at sheet_b corner_names b

unfoldable pub fractions_of : List ℕ → List ℤ
fractions_of e = all_at sheet_e corner_names e

-- 9: "fraction too large or of opposite sign (against record b)"
abbrev pub fractions_ok : ℕ → List ℤ → List ℤ → Bool
fractions_ok unit [] fs = true
fractions_ok unit (w ∷ ws) [] = true
fractions_ok unit (w ∷ ws) (f ∷ fs) = fraction_ok unit w f && fractions_ok unit ws fs

-- "f records: 0, or courses divided by 3 rounded up"
abbrev pub f_count_ok : ℕ → ℕ → Bool
f_count_ok courses fs = eqb fs 0 || eqb fs (round_up courses 3)

-- what is due: a; b, at a level; c; d; e with so many f to follow it; f with so many more to follow; or the part is over.
-- `more` sets d, e, f come after this one; unit and wholes are those of record b
pub data Phase : Type 0 where
  due_a : Phase
  due_b : (level : ℕ) (more : ℕ) → Phase
  due_c : (unit : ℕ) (wholes : List ℤ) (more : ℕ) → Phase
  due_d : (unit : ℕ) (wholes : List ℤ) (more : ℕ) → Phase
  due_e : (unit : ℕ) (wholes : List ℤ) (more : ℕ) (fs : ℕ) → Phase
  due_f : (unit : ℕ) (wholes : List ℤ) (more : ℕ) (fs : ℕ) → Phase
  body : Phase

abbrev pub is_over : Phase → Bool
is_over due_a = false
is_over (due_b level more) = false
is_over (due_c unit wholes more) = false
is_over (due_d unit wholes more) = false
is_over (due_e unit wholes more fs) = false
is_over (due_f unit wholes more fs) = false
is_over body = true

abbrev pub after_set : ℕ → List ℤ → ℕ → Phase
after_set unit wholes zero = body
after_set unit wholes (suc more) = due_d unit wholes more

abbrev pub due_fs : ℕ → List ℤ → ℕ → ℕ → Phase
due_fs unit wholes more zero = after_set unit wholes more
due_fs unit wholes more (suc fs) = due_f unit wholes more fs

abbrev pub after : Phase → List ℕ → Phase
after due_a r = due_b (number_at sheet_a "level" r) (number_at sheet_a "revisions" r)
after (due_b level more) r = due_c (number_at sheet_b "unit" r) (wholes_of r) more
after (due_c unit wholes more) r = due_d unit wholes more
after (due_d unit wholes more) r = due_e unit wholes more (number_at sheet_d "f records" r)
after (due_e unit wholes more fs) r = due_fs unit wholes more fs
after (due_f unit wholes more fs) r = due_fs unit wholes more fs
after body r = body

-- the first fault of the record that is due, in the order 2, 5, 6, 9: "record 1 does not start with the asked type";
-- "another unit 6 at b"; "f count"
abbrev pub wrong_in : Phase → List ℕ → ℕ
wrong_in due_a r = first (unless (begins "M " r) 2) (column_fault sheet_a r)
wrong_in (due_b level more) r = first (column_fault sheet_b r) (unless (eqb (number_at sheet_b "unit" r) (unit_of level)) 6)
wrong_in (due_c unit wholes more) r = column_fault sheet_c r
wrong_in (due_d unit wholes more) r = first (column_fault sheet_d r) (unless (f_count_ok (number_at sheet_d "courses" r) (number_at sheet_d "f records" r)) 6)
wrong_in (due_e unit wholes more fs) r = first (column_fault sheet_e r) (unless (fractions_ok unit wholes (fractions_of r)) 9)
wrong_in (due_f unit wholes more fs) r = column_fault sheet_f r
wrong_in body r = 0

-- the judged columns of the record that is due
abbrev pub phase_columns : Phase → List Col
phase_columns due_a = sheet_a
phase_columns (due_b level more) = sheet_b
phase_columns (due_c unit wholes more) = sheet_c
phase_columns (due_d unit wholes more) = sheet_d
phase_columns (due_e unit wholes more fs) = sheet_e
phase_columns (due_f unit wholes more fs) = sheet_f
phase_columns body = []

abbrev pub sheet_machine : Machine
sheet_machine = record { Phase = Phase; start = due_a; over = is_over; step = after; wrong = wrong_in }

-- how many records the sheet part has, and its first fault
unfoldable pub part_length : List (List ℕ) → ℕ
part_length rs = part_from sheet_machine due_a rs

unfoldable pub sheet_fault : List (List ℕ) → Fault
sheet_fault rs = part_fault sheet_machine due_a 1 rs

-- "The last e record gives the corners (house rule); all are judged": eight numbers in millimetres, in the order of b. No call of
-- document 01 answers them; opening a sheet does, for order 8 of document 02. `latest` are the corners of the last e record so far
abbrev pub join_all : ℕ → List ℤ → List ℤ → List ℤ
join_all unit [] fs = []
join_all unit (w ∷ ws) [] = []
join_all unit (w ∷ ws) (f ∷ fs) = millimetres unit w f ∷ join_all unit ws fs

abbrev pub corners_at : Phase → List ℕ → List ℤ → List ℤ
corners_at due_a r latest = latest
corners_at (due_b level more) r latest = latest
corners_at (due_c unit wholes more) r latest = latest
corners_at (due_d unit wholes more) r latest = latest
corners_at (due_e unit wholes more fs) r latest = join_all unit wholes (fractions_of r)
corners_at (due_f unit wholes more fs) r latest = latest
corners_at body r latest = latest

abbrev pub corners_from : Phase → List ℤ → List (List ℕ) → List ℤ
corners_from p latest [] = latest
corners_from p latest (r ∷ rs) = corners_from (after p r) (corners_at p r latest) rs

unfoldable pub corners : List (List ℕ) → List ℤ
corners rs = corners_from due_a [] rs

-- the two counts that record 2 states, and record 2 with others in written form
unfoldable pub stated_elements : List ℕ → ℕ
stated_elements r = number_at sheet_b "element count" r

unfoldable pub stated_records : List ℕ → ℕ
stated_records r = number_at sheet_b "record count" r

unfoldable pub write_counts : ℕ → ℕ → List ℕ → List ℕ
write_counts e s r = rewrite sheet_b "record count" s (rewrite sheet_b "element count" e r)

-- every name that stands above is a column of its layout
names_there : has_all sheet_a ("level" ∷ "revisions" ∷ []) && has_all sheet_b ("unit" ∷ "element count" ∷ "record count" ∷ corner_names) && has_all sheet_d ("courses" ∷ "f records" ∷ []) && has_all sheet_e corner_names ≡ true
unfolding sheet_a sheet_b sheet_d sheet_e
names_there = refl
