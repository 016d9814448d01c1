-- The order of checks: which number is answered, at which record. In document 01's words ("Answer numbers and order"), by none of the tests that
-- judging and editing use. What a record reads as (its type, its numbers, the columns of its data records) is shared with them, and claimed for itself
-- (`types_mean`, `data_means`, Shape, Positions). That they answer so is proofs/ClaimsRefusals.antt. Assumes nothing.
use Rattle.std.specs.Prelude.{◌≡◌, ◌⊎◌, ◌≢◌, ◌↔◌, true, false, List, [], ◌∷◌, ◌++◌, ℕ, zero, suc, ◌+◌, ◌-◌, ◌*◌, ◌/◌, ◌%◌, ◌≤◌, ◌<◌, ℤ, pos, nat_abs, ◌≤ℤ◌, ◌<ℤ◌, length, take, replicate}
use Prim.Native.String.{String}
use Rattle.format.specs.Text.{bytes}
use Rattle.format.specs.Basics.{minus, Answer, given, refused, chunks}
use Rattle.format.specs.Column.{column_of}
use Rattle.format.specs.declared.Column.TheVariants.{Value}
use Rattle.format.specs.Shape.{TooLarge}
use Rattle.format.specs.Layout.{Rule, any_sign, at_least, range, within, one_of, What, text, blank, integral, integral_or_spaces, Col, bytes_of, integer_at, number_at, element, grid_header, net_header, data_3d, data_2d, data_note, data_attribute, data_grid, data_net, sheet_a, sheet_b, sheet_c, sheet_d, sheet_e, sheet_f, index_a, index_b, index_c}
use Rattle.format.specs.Record.{RecordType, H, E1, E2, E3, E4, E5, E6, E7, E8, G, T, other, type_of, Kind, head, item, neither, kind_of, type_columns, Data, nothing, points_3d, points_2d, triangles, heights, notes, attributes, data_columns, is_head, View, view}
use Rattle.format.specs.Sheet.{Phase, due_a, due_b, due_c, due_d, due_e, due_f, body, after, wholes_of, fractions_of}
use Rattle.format.specs.Index as Index
use Rattle.format.specs.Index.{Stage}
use Rattle.format.specs.Judge.{due_of, open_of, headers_and_items, items, sum, File, file_of}
use Rattle.format.specs.Edit.{due_behind, body_place}
use Rattle.format.specs.Calls.{Edit, insert, remove}
use Rattle.format.specs.Above.{HeaderAbove, count_with_above}
use Rattle.format.specs.Run.{Buffer, sheet_of}

-- ---- Checks in order
-- a number of the table, and what its sentence says of the case at hand
pub record Check : Type 1 where
  pub number : ℕ
  pub applies : Type 0

-- "in that order, and the first fault answers": the number of the first check that applies; 0 where none does
unfoldable pub FirstOf : List Check → ℕ → Type 0
FirstOf [] n = n ≡ 0
FirstOf (c ∷ cs) n = (c.applies × (n ≡ c.number)) ⊎ ((c.applies → ⊥) × FirstOf cs n)

-- something holds of one of a list
module _ {A : Type 0} where
  abbrev pub Some : (A → Type 0) → List A → Type 0
  Some P [] = ⊥
  Some P (x ∷ xs) = P x ⊎ Some P xs

-- a number is one of a list
abbrev pub OneOf : ℕ → List ℕ → Type 0
OneOf n ns = Some (λ (m : ℕ). n ≡ m) ns

-- ---- A record: what each number says of it
pub record Faults : Type 1 where
  -- 2: "record 1 does not start with the asked type"
  pub unasked : Type 0
  -- 4: "not H, E1..E8, G or T where one is due"
  pub not_due : Type 0
  -- 5: "an integer column is malformed"
  pub malformed : Type 0
  -- 6: "an integer outside its range or list; unit against level; f count; note direction; b count not sheets / 10 rounded up"
  pub outside : Type 0
  -- 7: "level rule broken"
  pub level : Type 0
  -- 8: "data rule broken"
  pub data_rule : Type 0
  -- 9: "fraction too large or of opposite sign (against record b)"
  pub fraction : Type 0

-- "a record is checked when reached, for 3, 2, 4, 5, 6, 7, 8, 9 in that order"; a record that is reached is not missing, so 3 stands below
abbrev pub in_order : Faults → List Check
in_order faults =
    record { number = 2; applies = faults.unasked } ∷
    record { number = 4; applies = faults.not_due } ∷
    record { number = 5; applies = faults.malformed } ∷
    record { number = 6; applies = faults.outside } ∷
    record { number = 7; applies = faults.level } ∷
    record { number = 8; applies = faults.data_rule } ∷
    record { number = 9; applies = faults.fraction } ∷ []

-- ---- 5 and 6 of columns
-- the bytes of a column are no integer
abbrev pub NoInteger : List ℕ → Type 0
NoInteger bytes = (z : ℤ) → column_of bytes ≡ Value z → ⊥

-- "A is text, X is blank; neither is judged here"; "value I7 (any sign) or seven spaces"
abbrev pub MalformedAs : What → List ℕ → Type 0
MalformedAs text bytes = ⊥
MalformedAs blank bytes = ⊥
MalformedAs (integral rule) bytes = NoInteger bytes
MalformedAs integral_or_spaces bytes = NoInteger bytes × (bytes ≢ replicate (length bytes) 32)

-- "an integer column is malformed"
abbrev pub Malformed : List Col → List ℕ → Type 0
Malformed layout r = Some (λ (column : Col). MalformedAs column.what (bytes_of column r)) layout

-- an integer is in its range or list
abbrev pub Inside : Rule → ℤ → Type 0
Inside any_sign z = Unit {0}
Inside (at_least n) z = pos n ≤ℤ z
Inside (range n m) z = (pos n ≤ℤ z) × (z ≤ℤ pos m)
Inside (within n) z = nat_abs z ≤ n
Inside (one_of ns) z = Some (λ (n : ℕ). z ≡ pos n) ns

abbrev pub OutsideAs : What → List ℕ → Type 0
OutsideAs text bytes = ⊥
OutsideAs blank bytes = ⊥
OutsideAs (integral rule) bytes = (z : ℤ) × (column_of bytes ≡ Value z) × (Inside rule z → ⊥)
OutsideAs integral_or_spaces bytes = ⊥

-- "an integer outside its range or list"
abbrev pub Outside : List Col → List ℕ → Type 0
Outside layout r = Some (λ (column : Col). OutsideAs column.what (bytes_of column r)) layout

-- ---- A record where a header or an item is due
-- "A layer header has level 1, a group header 2 to 8. An item ..; its level is 2 to 9. Other levels are 7"
abbrev pub lowest : Kind → ℕ
lowest head = 1
lowest (item k) = 2
lowest neither = 2

abbrev pub highest : Kind → ℕ
highest head = 8
highest (item k) = 9
highest neither = 9

-- "A record's level may be at most the open level plus 1"
abbrev pub LevelBroken : (opened : ℕ) → Kind → (level : ℕ) → Type 0
LevelBroken opened kind level = ((level < lowest kind) ⊎ (highest kind < level)) ⊎ (opened + 1 < level)

-- n divided by d, rounded up
abbrev pub RoundedUp : (n d result : ℕ) → Type 0
RoundedUp n d result = (n ≤ d * result) × (d * result < n + d)

-- "kind 2, 3 or 6"
abbrev pub Coordinates : (kind : ℕ) → Type 0
Coordinates kind = OneOf kind (2 ∷ 3 ∷ 6 ∷ [])

-- "E1, E2: kind 2, 3 or 6, count at least 1. E3, E4: the same kinds, count 3. E6: the same kinds, count even, at least 2. E5: kind 0 or 1 with
-- count 0, or 2, 3, 6 with at least 1. E7: kind 4, E8: kind 5, both with at least 1"
abbrev pub KindAndCount : RecordType → (kind count : ℕ) → Type 0
KindAndCount H kind count = Unit {0}
KindAndCount E1 kind count = Coordinates kind × (1 ≤ count)
KindAndCount E2 kind count = Coordinates kind × (1 ≤ count)
KindAndCount E3 kind count = Coordinates kind × (count ≡ 3)
KindAndCount E4 kind count = Coordinates kind × (count ≡ 3)
KindAndCount E5 kind count = (OneOf kind (0 ∷ 1 ∷ []) × (count ≡ 0)) ⊎ (Coordinates kind × (1 ≤ count))
KindAndCount E6 kind count = (Coordinates kind × (count % 2 ≡ 0)) × (2 ≤ count)
KindAndCount E7 kind count = (kind ≡ 4) × (1 ≤ count)
KindAndCount E8 kind count = (kind ≡ 5) × (1 ≤ count)
KindAndCount G kind count = Unit {0}
KindAndCount T kind count = Unit {0}
KindAndCount other kind count = Unit {0}

-- "Records: kind 0, 1: none; 2: count / 6 rounded up; 3, 6: count / 4 rounded up; 4: count / 64 rounded up; 5: count"
pub record Records (kind count records : ℕ) : Type 0 where
  pub kinds01 : OneOf kind (0 ∷ 1 ∷ []) → records ≡ 0
  pub kind2 : kind ≡ 2 → RoundedUp count 6 records
  pub kinds36 : OneOf kind (3 ∷ 6 ∷ []) → RoundedUp count 4 records
  pub kind4 : kind ≡ 4 → RoundedUp count 64 records
  pub kind5 : kind ≡ 5 → records ≡ count

abbrev pub ElementKept : RecordType → List ℕ → Type 0
ElementKept type r =
    KindAndCount type (number_at element "data kind" r) (number_at element "data count" r)
    × Records (number_at element "data kind" r) (number_at element "data count" r) (number_at element "records" r)

-- "A grid has (repeat - 1) x 10,000 + records, which equals rows x columns / 12 rounded up. A net has 3 x triangles / 4 rounded up"
abbrev pub DataRuleKept : RecordType → List ℕ → Type 0
DataRuleKept H r = Unit {0}
DataRuleKept E1 r = ElementKept E1 r
DataRuleKept E2 r = ElementKept E2 r
DataRuleKept E3 r = ElementKept E3 r
DataRuleKept E4 r = ElementKept E4 r
DataRuleKept E5 r = ElementKept E5 r
DataRuleKept E6 r = ElementKept E6 r
DataRuleKept E7 r = ElementKept E7 r
DataRuleKept E8 r = ElementKept E8 r
DataRuleKept G r = RoundedUp (number_at grid_header "rows" r * number_at grid_header "columns" r) 12 ((number_at grid_header "repeat" r - 1) * 10000 + number_at grid_header "records" r)
DataRuleKept T r = RoundedUp (3 * number_at net_header "triangles" r) 4 (number_at net_header "records" r)
DataRuleKept other r = Unit {0}

abbrev pub faults_as : (opened : ℕ) → RecordType → List ℕ → Faults
faults_as opened type r = record {
  unasked = ⊥;
  not_due = type ≡ other;
  malformed = Malformed (type_columns type) r;
  outside = Outside (type_columns type) r;
  level = LevelBroken opened (kind_of type) (number_at (type_columns type) "level" r);
  data_rule = DataRuleKept type r → ⊥;
  fraction = ⊥;
}

abbrev pub header_or_item_faults : (opened : ℕ) → List ℕ → Faults
header_or_item_faults opened r = faults_as opened (type_of r) r

-- ---- A record that is judged by its columns, with what else is 2, 6 or 9 of it
abbrev pub column_faults : (unasked : Type 0) → List Col → (also_outside fraction : Type 0) → List ℕ → Faults
column_faults unasked layout also_outside fraction r = record {
  unasked = unasked;
  not_due = ⊥;
  malformed = Malformed layout r;
  outside = Outside layout r ⊎ also_outside;
  level = ⊥;
  data_rule = ⊥;
  fraction = fraction;
}

-- ---- A data record, by what its item's data records hold and how many of them stand behind this one
-- "A note direction is -45..45 when the first column is 0, -135..-45 when it is 1"
abbrev pub DirectionKept : List ℕ → Type 0
DirectionKept r =
    (number_at data_note "writing direction" r ≡ 0 → (minus 45 ≤ℤ integer_at data_note "direction" r) × (integer_at data_note "direction" r ≤ℤ pos 45))
    × (number_at data_note "writing direction" r ≡ 1 → (minus 135 ≤ℤ integer_at data_note "direction" r) × (integer_at data_note "direction" r ≤ℤ minus 45))

abbrev pub NoteWrong : Data → List ℕ → Type 0
NoteWrong nothing r = ⊥
NoteWrong (points_3d count) r = ⊥
NoteWrong (points_2d count) r = ⊥
NoteWrong (triangles count) r = ⊥
NoteWrong (heights count) r = ⊥
NoteWrong notes r = DirectionKept r → ⊥
NoteWrong attributes r = ⊥

abbrev pub data_faults : Data → (behind : ℕ) → List ℕ → Faults
data_faults held behind r = column_faults ⊥ (data_columns held behind) (NoteWrong held r) ⊥ r

-- ---- Records of the sheet part
-- record 1 starts with this type
abbrev pub Starts : String → List ℕ → Type 0
Starts type r = take 2 r ≡ bytes type

-- "Level 500 or 1000 goes with unit 1, 2500 or 5000 with 10, 10000 with 999": record a has one of the five levels
abbrev pub UnitWrong : (level unit : ℕ) → Type 0
UnitWrong level unit =
    (OneOf level (500 ∷ 1000 ∷ []) × (unit ≢ 1))
    ⊎ (OneOf level (2500 ∷ 5000 ∷ []) × (unit ≢ 10))
    ⊎ ((OneOf level (500 ∷ 1000 ∷ []) → ⊥) × (OneOf level (2500 ∷ 5000 ∷ []) → ⊥) × (unit ≢ 999))

-- "f records: 0, or courses divided by 3 rounded up"
abbrev pub FCountKept : (courses fs : ℕ) → Type 0
FCountKept courses fs = (fs ≡ 0) ⊎ RoundedUp courses 3 fs

-- "The fraction is in mm for unit 1, at most 999 in size; otherwise in cm, at most 99. Whole and fraction never have opposite signs"
abbrev pub FractionWrong : (unit : ℕ) → (whole fraction : ℤ) → Type 0
FractionWrong unit whole fraction =
    (((unit ≡ 1) × (999 < nat_abs fraction)) ⊎ ((unit ≢ 1) × (99 < nat_abs fraction)))
    ⊎ (((whole <ℤ pos 0) × (pos 0 <ℤ fraction)) ⊎ ((pos 0 <ℤ whole) × (fraction <ℤ pos 0)))

-- of one of the eight, "corners in the order of b"
abbrev pub SomeFractionWrong : (unit : ℕ) → (wholes fractions : List ℤ) → Type 0
SomeFractionWrong unit [] fractions = ⊥
SomeFractionWrong unit (w ∷ ws) [] = ⊥
SomeFractionWrong unit (w ∷ ws) (f ∷ fs) = FractionWrong unit w f ⊎ SomeFractionWrong unit ws fs

abbrev pub part_faults : Phase → List ℕ → Faults
part_faults due_a r = column_faults (Starts "M " r → ⊥) sheet_a ⊥ ⊥ r
part_faults (due_b level more) r = column_faults ⊥ sheet_b (UnitWrong level (number_at sheet_b "unit" r)) ⊥ r
part_faults (due_c unit wholes more) r = column_faults ⊥ sheet_c ⊥ ⊥ r
part_faults (due_d unit wholes more) r = column_faults ⊥ sheet_d (FCountKept (number_at sheet_d "courses" r) (number_at sheet_d "f records" r) → ⊥) ⊥ r
part_faults (due_e unit wholes more fs) r = column_faults ⊥ sheet_e ⊥ (SomeFractionWrong unit wholes (fractions_of r)) r
part_faults (due_f unit wholes more fs) r = column_faults ⊥ sheet_f ⊥ ⊥ r
part_faults body r = column_faults ⊥ [] ⊥ ⊥ r

-- ---- Records of an index: "b count not sheets / 10 rounded up". Where nothing is due, nothing is judged
abbrev pub index_faults : Stage → List ℕ → Faults
index_faults Index.due_a r = column_faults (Starts "I " r → ⊥) index_a (RoundedUp (number_at index_a "sheets" r) 10 (number_at index_a "b records" r) → ⊥) ⊥ r
index_faults (Index.due_b bs cs) r = column_faults ⊥ index_b ⊥ ⊥ r
index_faults (Index.due_c cs) r = column_faults ⊥ index_c ⊥ ⊥ r
index_faults Index.over r = column_faults ⊥ [] ⊥ ⊥ r

-- ---- Stage one: "used length 0, above the buffer, not a multiple of 84, or above 200,000 records"; of records that have so many bytes
abbrev pub LengthFails : (width used : ℕ) → List ℕ → Type 0
LengthFails width used buffer = (used ≡ 0) ⊎ (length buffer < used) ⊎ (used % width ≢ 0) ⊎ (width * 200000 < used)

abbrev pub StageOneFails : (used : ℕ) → List ℕ → Type 0
StageOneFails used buffer = LengthFails 84 used buffer

-- ---- Stage two: "a walk from the front"
-- what is due when a record is reached, and what its faults are
pub record Walk : Type 1 where
  pub Due : Type 0
  pub next : Due → List ℕ → Due
  pub faults : Due → List ℕ → Faults

module _ (W : Walk) where
  -- behind some records
  abbrev pub due_behind_all : W.Due → List (List ℕ) → W.Due
  due_behind_all due [] = due
  due_behind_all due (r ∷ rs) = due_behind_all (W.next due r) rs

  -- every record passes when it is reached
  abbrev pub AllPass : W.Due → List (List ℕ) → Type 0
  AllPass due records = (front : List (List ℕ)) (r : List ℕ) (behind : List (List ℕ)) → records ≡ front ++ r ∷ behind → FirstOf (in_order (W.faults (due_behind_all due front) r)) 0

  -- "a record is checked when reached .. and the first fault answers": this number at this record, all before it pass. The first of the
  -- records has the number `from`
  pub record FirstFault (due : W.Due) (from : ℕ) (records : List (List ℕ)) (number at : ℕ) : Type 0 where
    pub front : List (List ℕ)
    pub it : List ℕ
    pub behind : List (List ℕ)
    pub whole : records ≡ front ++ it ∷ behind
    pub passed : AllPass due front
    pub fails : FirstOf (in_order (W.faults (due_behind_all due front) it)) number
    pub some : number ≢ 0
    pub is : at ≡ from + length front

-- of a sheet: a record of the sheet part; a header or an item; or data of an item, with so many more of it behind
pub data Due : Type 0 where
  of_part : Phase → Due
  header_or_item : (opened : ℕ) → Due
  data_due : (opened : ℕ) → Data → (more : ℕ) → Due

abbrev pub faults_due : Due → List ℕ → Faults
faults_due (of_part phase) r = part_faults phase r
faults_due (header_or_item opened) r = header_or_item_faults opened r
faults_due (data_due opened held more) r = data_faults held more r

-- behind the sheet part a header or an item is due, "0 before the first layer"
abbrev pub enter : Phase → Due
enter due_a = of_part due_a
enter (due_b level more) = of_part (due_b level more)
enter (due_c unit wholes more) = of_part (due_c unit wholes more)
enter (due_d unit wholes more) = of_part (due_d unit wholes more)
enter (due_e unit wholes more fs) = of_part (due_e unit wholes more fs)
enter (due_f unit wholes more fs) = of_part (due_f unit wholes more fs)
enter body = header_or_item 0

abbrev pub due_again : (opened : ℕ) → Data → (left : ℕ) → Due
due_again opened held zero = header_or_item opened
due_again opened held (suc more) = data_due opened held more

-- so many data records a header or an item has
abbrev pub stated : List ℕ → ℕ
stated r = due_of (view r).kind (view r).data_records

abbrev pub due_next : Due → List ℕ → Due
due_next (of_part phase) r = enter (after phase r)
due_next (header_or_item opened) r = due_again (open_of (view r).kind (view r).level) (view r).data_held (stated r)
due_next (data_due opened held more) r = due_again opened held more

abbrev pub sheet_walk : Walk
sheet_walk = record { Due = Due; next = due_next; faults = faults_due }

-- 3: "a needed record is missing", at "its item's header; in sheet part or index, 1": the records end in the sheet part, or before an item
-- has as many data records as it states
pub data Missing (records : List (List ℕ)) (at : ℕ) : Type 0 where
  from_part : (phase : Phase) → due_behind_all sheet_walk (of_part due_a) records ≡ of_part phase → at ≡ 1 → Missing records at
  from_item : (front : List (List ℕ)) (it : List ℕ) (rest : List (List ℕ)) (opened : ℕ) → records ≡ front ++ it ∷ rest → due_behind_all sheet_walk (of_part due_a) front ≡ header_or_item opened → length rest < stated it → at ≡ suc (length front) → Missing records at

-- "A missing record is reached past the end, after those before it"
abbrev pub StageTwo : List (List ℕ) → (number at : ℕ) → Type 0
StageTwo records number at = FirstFault sheet_walk (of_part due_a) 1 records number at ⊎ ((number ≡ 3) × AllPass sheet_walk (of_part due_a) records × Missing records at)

-- ---- What is due, by the records in front. That the walks go by it is `sheet_part_means`, `index_means` and `open_level_means` in the claims
-- whole sets of d, e and the f records that d states, so many
abbrev pub Sets : (count : ℕ) → List (List ℕ) → Type 0
Sets zero records = records ≡ []
Sets (suc count) records = (before : List (List ℕ)) × (d : List ℕ) × (e : List ℕ) × (fs : List (List ℕ)) × (records ≡ before ++ d ∷ e ∷ fs) × (length fs ≡ number_at sheet_d "f records" d) × Sets count before

-- "Records a, b, c, then d, e and the f records, this last set revisions + 1 times": a, b, c, whole sets and the records of one that is not
-- whole; so many sets are still to end. Unit and wholes are those of record b
pub record InFront (records : List (List ℕ)) (unit : ℕ) (wholes : List ℤ) (to_come : ℕ) (started : List (List ℕ)) : Type 0 where
  pub a : List ℕ
  pub b : List ℕ
  pub c : List ℕ
  pub sets : List (List ℕ)
  pub ended : ℕ
  pub whole : records ≡ a ∷ b ∷ c ∷ (sets ++ started)
  pub are_sets : Sets ended sets
  pub count : ended + to_come ≡ number_at sheet_a "revisions" a + 1
  pub unit_of_b : unit ≡ number_at sheet_b "unit" b
  pub wholes_of_b : wholes ≡ wholes_of b

abbrev pub PhaseMeans : Phase → List (List ℕ) → Type 0
PhaseMeans due_a records = records ≡ []
PhaseMeans (due_b level more) records = (a : List ℕ) × (records ≡ a ∷ []) × (level ≡ number_at sheet_a "level" a) × (more ≡ number_at sheet_a "revisions" a)
PhaseMeans (due_c unit wholes more) records = (a : List ℕ) × (b : List ℕ) × (records ≡ a ∷ b ∷ []) × (more ≡ number_at sheet_a "revisions" a) × (unit ≡ number_at sheet_b "unit" b) × (wholes ≡ wholes_of b)
PhaseMeans (due_d unit wholes more) records = InFront records unit wholes (suc more) []
PhaseMeans (due_e unit wholes more fs) records = (d : List ℕ) × InFront records unit wholes (suc more) (d ∷ []) × (fs ≡ number_at sheet_d "f records" d)
PhaseMeans (due_f unit wholes more fs) records = (d : List ℕ) × (e : List ℕ) × (done : List (List ℕ)) × InFront records unit wholes (suc more) (d ∷ e ∷ done) × (length done + suc fs ≡ number_at sheet_d "f records" d)
PhaseMeans body records = (part : List (List ℕ)) × (rest : List (List ℕ)) × (unit : ℕ) × (wholes : List ℤ) × (records ≡ part ++ rest) × InFront part unit wholes 0 []

-- a header, an item or data is due behind the whole sheet part alone
abbrev pub DueMeans : Due → List (List ℕ) → Type 0
DueMeans (of_part phase) records = PhaseMeans phase records
DueMeans (header_or_item opened) records = PhaseMeans body records
DueMeans (data_due opened held more) records = PhaseMeans body records

-- an index: record a, its b records, its c records
abbrev pub StageMeans : Stage → List (List ℕ) → Type 0
StageMeans Index.due_a records = records ≡ []
StageMeans (Index.due_b bs cs) records = (a : List ℕ) × (done : List (List ℕ)) × (records ≡ a ∷ done) × (length done + suc bs ≡ number_at index_a "b records" a) × (cs ≡ number_at index_a "c records" a)
StageMeans (Index.due_c cs) records = (a : List ℕ) × (done : List (List ℕ)) × (records ≡ a ∷ done) × (length done + suc cs ≡ number_at index_a "b records" a + number_at index_a "c records" a)
StageMeans Index.over records = (a : List ℕ) × (done : List (List ℕ)) × (rest : List (List ℕ)) × (records ≡ a ∷ (done ++ rest)) × (length done ≡ number_at index_a "b records" a + number_at index_a "c records" a)

-- ---- Stage three of a sheet
-- "Sheet element count: all items. Sheet record count: all records but the sheet part"
abbrev pub SheetCountsDiffer : File → Type 0
SheetCountsDiffer f = (f.stated_elements ≢ items (headers_and_items 0 f.body)) ⊎ (f.stated_records ≢ length f.body)

-- "a header counts what stands one level below under it, by kind; total is the sum of the others": one of the ten differs from the headers and
-- items of that kind whose header above it is, or the total from the sum
abbrev pub CountsDiffer : File → (nth : ℕ) → View → Type 0
CountsDiffer f nth h = ((kind : ℕ) × (kind < 10) × (h.count kind ≢ count_with_above nth kind [] 0 f.body)) ⊎ (h.total ≢ sum 10 h.count)

-- a header stands behind these records of the body
pub record HeaderBehind (f : File) (front : List View) : Type 0 where
  pub it : View
  pub behind : List View
  pub whole : f.body ≡ front ++ it ∷ behind
  pub due : due_behind 0 front ≡ 0
  pub header : is_head it.kind ≡ true

-- "10, lowest record first": the first header whose counts differ has this record number
pub record FirstDiffers (f : File) (number : ℕ) : Type 0 where
  pub front : List View
  pub here : HeaderBehind f front
  pub is : number ≡ f.part_length + suc (length front)
  pub differs : CountsDiffer f (suc (length front)) here.it
  pub earlier : (before : List View) → length before < length front → (h : HeaderBehind f before) → CountsDiffer f (suc (length before)) h.it → ⊥

-- 10 of a sheet, at this record: "header; 2", and record 2 is the lower
abbrev pub Ten : File → (at : ℕ) → Type 0
Ten f at = (SheetCountsDiffer f × (at ≡ 2)) ⊎ ((SheetCountsDiffer f → ⊥) × FirstDiffers f at)

-- ---- A sheet
-- "Three stages; the first failing stage answers": refused with this number at this record, by what each stage says. "Stage one: 1", at record 0;
-- "Stage three: 10"
pub data Refusal (One : Type 0) (Two : (number at : ℕ) → Type 0) (Three : (at : ℕ) → Type 0) (number at : ℕ) : Type 0 where
  stage_one : One → number ≡ 1 → at ≡ 0 → Refusal One Two Three number at
  stage_two : (One → ⊥) → Two number at → Refusal One Two Three number at
  stage_three : (One → ⊥) → ((n k : ℕ) → Two n k → ⊥) → number ≡ 10 → Three at → Refusal One Two Three number at

abbrev pub SheetRefusal : (used : ℕ) → List ℕ → (number at : ℕ) → Type 0
SheetRefusal used buffer = Refusal (StageOneFails used buffer) (StageTwo (chunks (used / 84) buffer)) (Ten (file_of (chunks (used / 84) buffer)))

-- ---- An index
abbrev pub index_walk : Walk
index_walk = record { Due = Stage; next = Index.after; faults = index_faults }

abbrev pub IndexStageTwo : List (List ℕ) → (number at : ℕ) → Type 0
IndexStageTwo records number at = FirstFault index_walk Index.due_a 1 records number at ⊎ ((number ≡ 3) × AllPass index_walk Index.due_a records × (due_behind_all index_walk Index.due_a records ≢ Index.over) × (at ≡ 1))

-- "index with records left over": a record is reached when nothing is due
pub record LeftOver (due : Stage) (records : List (List ℕ)) : Type 0 where
  pub front : List (List ℕ)
  pub it : List ℕ
  pub behind : List (List ℕ)
  pub whole : records ≡ front ++ it ∷ behind
  pub ended : due_behind_all index_walk due front ≡ Index.over

-- 10 at record 1
abbrev pub IndexRefusal : (used : ℕ) → List ℕ → (number at : ℕ) → Type 0
IndexRefusal used buffer = Refusal (StageOneFails used buffer) (IndexStageTwo (chunks (used / 84) buffer)) (λ (at : ℕ). LeftOver Index.due_a (chunks (used / 84) buffer) × (at ≡ 1))

-- ---- What a call answers, by checks in order: at record 0 the number of the first that applies; its values exactly when none does
pub record AnswersFirst {A : Type 0} (checks : List Check) (answer : Answer A) : Type 0 where
  pub refusal : (number at : ℕ) → answer ≡ refused number at ↔ ((at ≡ 0) × (number ≢ 0) × FirstOf checks number)
  pub values : ((value : A) × (answer ≡ given value)) ↔ FirstOf checks 0

-- ---- Edits of an accepted sheet: "then 11 to 15 in order"
-- a header or an item starts at this place, a record number
pub record StartsAt (f : File) (place : ℕ) : Type 0 where
  pub front : List View
  pub it : View
  pub behind : List View
  pub whole : f.body ≡ front ++ it ∷ behind
  pub due : due_behind 0 front ≡ 0
  pub number : place ≡ f.part_length + suc (length front)

-- "exactly one item that passes 4 to 9 but for nesting, level 2..9": at open level 8 every level of an item nests
pub record OneItem (block : List ℕ) : Type 0 where
  pub start : List ℕ
  pub rest : List (List ℕ)
  pub size : length block ≡ 84 * suc (length rest)
  pub records : chunks (suc (length rest)) block ≡ start ∷ rest
  pub is_item : type_of start ≢ H
  pub passes : FirstOf (in_order (header_or_item_faults 8 start)) 0
  pub as_many : length rest ≡ (view start).data_records
  pub rest_passes : (front : List (List ℕ)) (r : List ℕ) (behind : List (List ℕ)) → rest ≡ front ++ r ∷ behind → FirstOf (in_order (data_faults (view start).data_held (length behind) r)) 0

-- "The open level is that of the last header, or one less than the last item's; 0 before the first layer": behind these records
pub data OpenLevel (before : List View) (opened : ℕ) : Type 0 where
  before_first : headers_and_items 0 before ≡ [] → opened ≡ 0 → OpenLevel before opened
  behind_header : (front : List View) (last : View) → headers_and_items 0 before ≡ front ++ last ∷ [] → is_head last.kind ≡ true → opened ≡ last.level → OpenLevel before opened
  behind_item : (front : List View) (last : View) → headers_and_items 0 before ≡ front ++ last ∷ [] → is_head last.kind ≡ false → opened ≡ last.level - 1 → OpenLevel before opened

module _ (b : Buffer) (place : ℕ) (block : List ℕ) where
  -- the records of the body before the place, and the block's first record
  abbrev pub before_place : List View
  before_place = take (body_place (sheet_of b) place) (sheet_of b).body

  abbrev pub block_start : List ℕ
  block_start = take 84 block

  -- "edit place is no item or header start, nor (insertion) one past the end"
  abbrev pub NoPlace : Type 0
  NoPlace = (StartsAt (sheet_of b) place → ⊥) × (place ≢ suc (b.used / 84))

  -- "block level above the open level plus 1 at that place, or below the level of the record now there"
  abbrev pub LevelWrong : Type 0
  LevelWrong =
      ((opened : ℕ) × OpenLevel before_place opened × (opened + 1 < (view block_start).level))
      ⊎ ((now : StartsAt (sheet_of b) place) × ((view block_start).level < now.it.level))

  -- "header total would pass 99,999, its grid and net count 9, or the file 200,000 records"
  abbrev pub TooMany : Type 0
  TooMany =
      ((above : HeaderAbove (view block_start).level before_place) × ((99999 < above.it.total + 1) ⊎ (((type_of block_start ≡ G) ⊎ (type_of block_start ≡ T)) × (9 < above.it.count 9 + 1))))
      ⊎ (200000 < b.used / 84 + length block / 84)

  -- "a buffer is too short for the result"
  abbrev pub TooShort : Type 0
  TooShort = length b.bytes < b.used + length block

-- "12 to 15 never apply to a removal"
abbrev pub edit_checks : Edit → Buffer → List Check
edit_checks (insert place block) b =
    record { number = 11; applies = NoPlace b place block } ∷
    record { number = 12; applies = OneItem block → ⊥ } ∷
    record { number = 13; applies = LevelWrong b place block } ∷
    record { number = 14; applies = TooMany b place block } ∷
    record { number = 15; applies = TooShort b place block } ∷ []
edit_checks (remove place) b =
    record { number = 11; applies = (StartsAt (sheet_of b) place → ⊥) ⊎ ((now : StartsAt (sheet_of b) place) × (is_head now.it.kind ≡ true)) } ∷ []

-- ---- The way up of an accepted sheet: 17, "record number outside the file, or in the sheet part"
abbrev pub way_up_checks : (used : ℕ) → List ℕ → (number : ℕ) → List Check
way_up_checks used buffer number =
    record { number = 17; applies = (number ≡ 0) ⊎ (number ≤ (file_of (chunks (used / 84) buffer)).part_length) ⊎ (used / 84 < number) } ∷ []

-- ---- Joining alone, "in this order: unit not 1, 10 or 999, or whole or fraction not fitting its column: 16; fraction too large or of opposite sign:
-- 9". A whole's column is I7, a fraction's I4
abbrev pub join_checks : (unit : ℕ) → (whole fraction : ℤ) → List Check
join_checks unit whole fraction =
    record { number = 16; applies = ((OneOf unit (1 ∷ 10 ∷ 999 ∷ []) → ⊥) ⊎ TooLarge 7 whole) ⊎ TooLarge 4 fraction } ∷
    record { number = 9; applies = FractionWrong unit whole fraction } ∷ []

-- ---- The type of a record: its first two bytes, "H, E1..E8, G or T"
abbrev pub letters : List String
letters = "H " ∷ "E1" ∷ "E2" ∷ "E3" ∷ "E4" ∷ "E5" ∷ "E6" ∷ "E7" ∷ "E8" ∷ "G " ∷ "T " ∷ []

abbrev pub TypeMeans : RecordType → List ℕ → Type 0
TypeMeans H r = Starts "H " r
TypeMeans E1 r = Starts "E1" r
TypeMeans E2 r = Starts "E2" r
TypeMeans E3 r = Starts "E3" r
TypeMeans E4 r = Starts "E4" r
TypeMeans E5 r = Starts "E5" r
TypeMeans E6 r = Starts "E6" r
TypeMeans E7 r = Starts "E7" r
TypeMeans E8 r = Starts "E8" r
TypeMeans G r = Starts "G " r
TypeMeans T r = Starts "T " r
TypeMeans other r = Some (λ (two : String). Starts two r) letters → ⊥

-- ---- The judged columns of a data record, by its item's first record and how many data records of the item stand in front of it
-- "Points or heights after the last used one are not judged": a record takes `each` of the `count` in all, and the next record goes on
abbrev pub Used : (each count front used : ℕ) → Type 0
Used each count front used = (used ≤ each) × ((nth : ℕ) → nth < each → (nth < used) ↔ (each * front + nth < count))

-- "3D and net, four points of three I7; 2D, six points of two I7; grid, twelve I7"
abbrev pub Judged3D : (count front : ℕ) → (layout columns : List Col) → Type 0
Judged3D count front layout columns = (used : ℕ) × Used 4 count front used × (columns ≡ take (3 * used) layout)

abbrev pub Judged2D : (count front : ℕ) → (layout columns : List Col) → Type 0
Judged2D count front layout columns = (used : ℕ) × Used 6 count front used × (columns ≡ take (2 * used) layout)

abbrev pub JudgedGrid : (count front : ℕ) → (layout columns : List Col) → Type 0
JudgedGrid count front layout columns = (used : ℕ) × Used 12 count front used × (columns ≡ take used layout)

-- of an element, by its data kind
pub record JudgedByKind (kind count front : ℕ) (columns : List Col) : Type 0 where
  pub kind2 : kind ≡ 2 → Judged2D count front data_2d columns
  pub kinds36 : OneOf kind (3 ∷ 6 ∷ []) → Judged3D count front data_3d columns
  pub kind4 : kind ≡ 4 → columns ≡ data_note
  pub kind5 : kind ≡ 5 → columns ≡ data_attribute

abbrev pub JudgedElement : List ℕ → (front : ℕ) → List Col → Type 0
JudgedElement start front columns = JudgedByKind (number_at element "data kind" start) (number_at element "data count" start) front columns

abbrev pub JudgedBehind : RecordType → List ℕ → (front : ℕ) → List Col → Type 0
JudgedBehind H start front columns = Unit {0}
JudgedBehind E1 start front columns = JudgedElement start front columns
JudgedBehind E2 start front columns = JudgedElement start front columns
JudgedBehind E3 start front columns = JudgedElement start front columns
JudgedBehind E4 start front columns = JudgedElement start front columns
JudgedBehind E5 start front columns = JudgedElement start front columns
JudgedBehind E6 start front columns = JudgedElement start front columns
JudgedBehind E7 start front columns = JudgedElement start front columns
JudgedBehind E8 start front columns = JudgedElement start front columns
JudgedBehind G start front columns = JudgedGrid (number_at grid_header "rows" start * number_at grid_header "columns" start) front data_grid columns
JudgedBehind T start front columns = Judged3D (3 * number_at net_header "triangles" start) front data_net columns
JudgedBehind other start front columns = Unit {0}

-- ---- The count of a header that a header or an item belongs to: its own kind, by the column's name
abbrev pub count_of : RecordType → String
count_of H = "groups"
count_of E1 = "area"
count_of E2 = "line"
count_of E3 = "circle"
count_of E4 = "arc"
count_of E5 = "point"
count_of E6 = "direction"
count_of E7 = "note"
count_of E8 = "attribute"
count_of G = "grid and net"
count_of T = "grid and net"
count_of other = "none"
