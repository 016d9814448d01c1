-- One record of the body, seen through its columns. Assumes nothing.
use Rattle.std.specs.Prelude.{◌≡◌, refl, Bool, true, false, cond, not, ◌&&◌, ◌||◌, List, [], ◌∷◌, ℕ, zero, suc, ◌+◌, ◌-◌, ◌*◌, ◌%◌, leb, eqb, pos, take, get_or}
use Prim.Native.String.{String}
use Rattle.std.specs.Int.Signed.{le_z}
use Rattle.format.specs.Text.{begins}
use Rattle.format.specs.Basics.{member, round_up, minus, first, unless}
use Rattle.format.specs.Column.{written}
use Rattle.format.specs.Layout.{Col, splice, has, has_all, find, integer_at, number_at, column_fault, header, element, grid_header, net_header, data_3d, data_2d, data_note, data_attribute, data_grid, data_net}

-- ---- The type of a header or an item: its first two bytes, "H, E1..E8, G or T" (a single letter is followed by a space)
pub data RecordType : Type 0 where
  H E1 E2 E3 E4 E5 E6 E7 E8 G T other : RecordType

unfoldable pub type_of : List ℕ → RecordType
type_of r =
    cond (begins "H " r) H (
    cond (begins "E1" r) E1 (
    cond (begins "E2" r) E2 (
    cond (begins "E3" r) E3 (
    cond (begins "E4" r) E4 (
    cond (begins "E5" r) E5 (
    cond (begins "E6" r) E6 (
    cond (begins "E7" r) E7 (
    cond (begins "E8" r) E8 (
    cond (begins "G " r) G (
    cond (begins "T " r) T other))))))))))

-- the kind of a record, by which a header counts it: a header; an item, 0 to 7 for the elements E1 to E8, 8 for a grid or a net, which
-- share a count; or neither of the two
pub data Kind : Type 0 where
  head : Kind
  item : ℕ → Kind
  neither : Kind

abbrev pub kind_of : RecordType → Kind
kind_of H = head
kind_of E1 = item 0
kind_of E2 = item 1
kind_of E3 = item 2
kind_of E4 = item 3
kind_of E5 = item 4
kind_of E6 = item 5
kind_of E7 = item 6
kind_of E8 = item 7
kind_of G = item 8
kind_of T = item 8
kind_of other = neither

abbrev pub is_head : Kind → Bool
is_head head = true
is_head (item k) = false
is_head neither = false

-- the count of a header that a record belongs to: 0 groups, 1 to 8 the elements by type, 9 grid and net; 10 is no count
abbrev pub count_index : Kind → ℕ
count_index head = 0
count_index (item k) = suc k
count_index neither = 10

-- a header has these ten counts, so a record of another is neither header nor item
abbrev pub is_header_or_item : Kind → Bool
is_header_or_item kind = leb (count_index kind) 9

-- the name of that count's column in the header
unfoldable pub count_name : ℕ → String
count_name j = get_or ("groups" ∷ "area" ∷ "line" ∷ "circle" ∷ "arc" ∷ "point" ∷ "direction" ∷ "note" ∷ "attribute" ∷ "grid and net" ∷ []) j "none"

-- ---- What the data records of an item hold: so many points in 3D or 2D, triangles or heights; a note; attributes
pub data Data : Type 0 where
  nothing : Data
  points_3d : ℕ → Data
  points_2d : ℕ → Data
  triangles : ℕ → Data
  heights : ℕ → Data
  notes : Data
  attributes : Data

-- by an element's data kind and data count
abbrev pub data_of : (kind count : ℕ) → Data
data_of kind count =
    cond (eqb kind 2) (points_2d count) (
    cond (member kind (3 ∷ 6 ∷ [])) (points_3d count) (
    cond (eqb kind 4) notes (
    cond (eqb kind 5) attributes nothing)))

-- how many points or heights are used in a data record that has so many data records behind it, where a record takes `each` of the
-- `count` in all: the last record takes what the full ones before it leave. Of 7 points in 2D, six to a record, the first record of two
-- uses `used_in 6 7 1`, which is 6, and the last `used_in 6 7 0`, which is 7 - 6 x (2 - 1), 1; of 12 it uses 6
abbrev pub used_in : (each count behind : ℕ) → ℕ
used_in each count zero = count - each * (round_up count each - 1)
used_in each count (suc behind) = each

-- the judged columns of such a data record: "Points or heights after the last used one are not judged". A net has three points a
-- triangle
unfoldable pub data_columns : Data → (behind : ℕ) → List Col
data_columns nothing behind = []
data_columns (points_3d count) behind = take (3 * used_in 4 count behind) data_3d
data_columns (points_2d count) behind = take (2 * used_in 6 count behind) data_2d
data_columns (triangles count) behind = take (3 * used_in 4 (3 * count) behind) data_net
data_columns (heights count) behind = take (used_in 12 count behind) data_grid
data_columns notes behind = data_note
data_columns attributes behind = data_attribute

-- "A note direction is -45..45 when the first column is 0, -135..-45 when it is 1"
unfoldable pub direction_ok : List ℕ → Bool
direction_ok r =
    cond (eqb (number_at data_note "writing direction" r) 0)
    (le_z (minus 45) (integer_at data_note "direction" r) && le_z (integer_at data_note "direction" r) (pos 45))
    (le_z (minus 135) (integer_at data_note "direction" r) && le_z (integer_at data_note "direction" r) (minus 45))

abbrev pub data_rule : Data → List ℕ → Bool
data_rule nothing r = true
data_rule (points_3d count) r = true
data_rule (points_2d count) r = true
data_rule (triangles count) r = true
data_rule (heights count) r = true
data_rule notes r = direction_ok r
data_rule attributes r = true

-- the first of 5 and 6 in a data record, 0 for none
unfoldable pub data_fault : Data → (behind : ℕ) → List ℕ → ℕ
data_fault held behind r = first (column_fault (data_columns held behind) r) (unless (data_rule held r) 6)

-- ---- Data rules, 8
-- "E1, E2: kind 2, 3 or 6, count at least 1. E3, E4: the same kinds, count 3. E6: the same kinds, count even, at least 2.
-- E5: kind 0 or 1 with count 0, or 2, 3, 6 with at least 1. E7: kind 4, E8: kind 5, both with at least 1"
abbrev pub coordinates : ℕ → Bool
coordinates kind = member kind (2 ∷ 3 ∷ 6 ∷ [])

abbrev pub kind_and_count : RecordType → (kind count : ℕ) → Bool
kind_and_count H kind count = true
kind_and_count E1 kind count = coordinates kind && leb 1 count
kind_and_count E2 kind count = coordinates kind && leb 1 count
kind_and_count E3 kind count = coordinates kind && eqb count 3
kind_and_count E4 kind count = coordinates kind && eqb count 3
kind_and_count E5 kind count = (member kind (0 ∷ 1 ∷ []) && eqb count 0) || (coordinates kind && leb 1 count)
kind_and_count E6 kind count = coordinates kind && eqb (count % 2) 0 && leb 2 count
kind_and_count E7 kind count = eqb kind 4 && leb 1 count
kind_and_count E8 kind count = eqb kind 5 && leb 1 count
kind_and_count G kind count = true
kind_and_count T kind count = true
kind_and_count other kind count = true

-- "Records: kind 0, 1: none; 2: count / 6 rounded up; 3, 6: count / 4 rounded up; 4: count / 64 rounded up; 5: count"
unfoldable pub element_records : ℕ → ℕ → ℕ
element_records kind count =
    cond (eqb kind 2) (round_up count 6) (
    cond (member kind (3 ∷ 6 ∷ [])) (round_up count 4) (
    cond (eqb kind 4) (round_up count 64) (
    cond (eqb kind 5) count 0)))

unfoldable pub element_rule : RecordType → List ℕ → Bool
element_rule t r =
    kind_and_count t (number_at element "data kind" r) (number_at element "data count" r)
    && eqb (number_at element "records" r) (element_records (number_at element "data kind" r) (number_at element "data count" r))

-- "A grid has (repeat - 1) x 10,000 + records, which equals rows x columns / 12 rounded up"
unfoldable pub grid_states : ℕ → ℕ → ℕ
grid_states repeat records = (repeat - 1) * 10000 + records

unfoldable pub grid_needs : ℕ → ℕ → ℕ
grid_needs rows columns = round_up (rows * columns) 12

-- "A net has 3 x triangles / 4 rounded up"
unfoldable pub net_needs : ℕ → ℕ
net_needs count = round_up (3 * count) 4

-- ---- The view of a record: all that judging and editing ask of it.
-- Where a header or an item is due: its kind and level; how many data records it states, and what they hold; the first of 5 and 6 in
-- its columns; 8, if its data rule is broken; the total and the counts by kind that a header states. Fault numbers are 0 for none.
-- Where data is due: the first of 5 and 6, by what the item's data records hold and how many of them stand behind this one
pub record View : Type 0 where
  pub kind : Kind
  pub level : ℕ
  pub data_records : ℕ
  pub data_held : Data
  pub column_fault : ℕ
  pub rule_fault : ℕ
  pub fault_as_data : Data → (behind : ℕ) → ℕ
  pub total : ℕ
  pub count : (kind : ℕ) → ℕ

abbrev pub count_in : List ℕ → ℕ → ℕ
count_in r j = number_at header (count_name j) r

abbrev pub no_counts : ℕ → ℕ
no_counts j = 0

abbrev pub as_data : List ℕ → Data → (behind : ℕ) → ℕ
as_data r held behind = data_fault held behind r

unfoldable pub header_view : List ℕ → View
header_view r = record {
  kind = head;
  level = number_at header "level" r;
  data_records = 0;
  data_held = nothing;
  column_fault = column_fault header r;
  rule_fault = 0;
  fault_as_data = as_data r;
  total = number_at header "total" r;
  count = count_in r;
}

unfoldable pub element_view : RecordType → List ℕ → View
element_view t r = record {
  kind = kind_of t;
  level = number_at element "level" r;
  data_records = number_at element "records" r;
  data_held = data_of (number_at element "data kind" r) (number_at element "data count" r);
  column_fault = column_fault element r;
  rule_fault = unless (element_rule t r) 8;
  fault_as_data = as_data r;
  total = 0;
  count = no_counts;
}

unfoldable pub grid_view : List ℕ → View
grid_view r = record {
  kind = item 8;
  level = number_at grid_header "level" r;
  data_records = grid_states (number_at grid_header "repeat" r) (number_at grid_header "records" r);
  data_held = heights (number_at grid_header "rows" r * number_at grid_header "columns" r);
  column_fault = column_fault grid_header r;
  rule_fault = unless (eqb (grid_states (number_at grid_header "repeat" r) (number_at grid_header "records" r)) (grid_needs (number_at grid_header "rows" r) (number_at grid_header "columns" r))) 8;
  fault_as_data = as_data r;
  total = 0;
  count = no_counts;
}

unfoldable pub net_view : List ℕ → View
net_view r = record {
  kind = item 8;
  level = number_at net_header "level" r;
  data_records = number_at net_header "records" r;
  data_held = triangles (number_at net_header "triangles" r);
  column_fault = column_fault net_header r;
  rule_fault = unless (eqb (number_at net_header "records" r) (net_needs (number_at net_header "triangles" r))) 8;
  fault_as_data = as_data r;
  total = 0;
  count = no_counts;
}

-- no header and no item
unfoldable pub other_view : List ℕ → View
other_view r = record {
  kind = neither;
  level = 0;
  data_records = 0;
  data_held = nothing;
  column_fault = 0;
  rule_fault = 0;
  fault_as_data = as_data r;
  total = 0;
  count = no_counts;
}

abbrev pub view_as : RecordType → List ℕ → View
view_as H r = header_view r
view_as E1 r = element_view E1 r
view_as E2 r = element_view E2 r
view_as E3 r = element_view E3 r
view_as E4 r = element_view E4 r
view_as E5 r = element_view E5 r
view_as E6 r = element_view E6 r
view_as E7 r = element_view E7 r
view_as E8 r = element_view E8 r
view_as G r = grid_view r
view_as T r = net_view r
view_as other r = other_view r

unfoldable pub view : List ℕ → View
view r = view_as (type_of r) r

-- the judged columns of such a record
abbrev pub type_columns : RecordType → List Col
type_columns H = header
type_columns E1 = element
type_columns E2 = element
type_columns E3 = element
type_columns E4 = element
type_columns E5 = element
type_columns E6 = element
type_columns E7 = element
type_columns E8 = element
type_columns G = grid_header
type_columns T = net_header
type_columns other = []

-- ---- "rewrites .. columns in written form"
-- a column of a layout with another number in it
unfoldable pub rewrite : List Col → (name : String) → (number : ℕ) → List ℕ → List ℕ
rewrite layout name number r = splice (find name layout).start (find name layout).width (written (find name layout).width (pos number)) r

-- "total and own kind in the header above": one more, one less of this kind
unfoldable pub raise : (kind : ℕ) → List ℕ → List ℕ
raise kind r = rewrite header (count_name kind) (count_in r kind + 1) (rewrite header "total" (number_at header "total" r + 1) r)

unfoldable pub lower : (kind : ℕ) → List ℕ → List ℕ
lower kind r = rewrite header (count_name kind) (count_in r kind - 1) (rewrite header "total" (number_at header "total" r - 1) r)

-- every name that stands above is a column of its layout
names_there : has_all header ("level" ∷ "total" ∷ "groups" ∷ "area" ∷ "line" ∷ "circle" ∷ "arc" ∷ "point" ∷ "direction" ∷ "note" ∷ "attribute" ∷ "grid and net" ∷ []) && not (has header "none") && has_all element ("level" ∷ "data kind" ∷ "data count" ∷ "records" ∷ []) && has_all grid_header ("level" ∷ "rows" ∷ "columns" ∷ "records" ∷ "repeat" ∷ []) && has_all net_header ("level" ∷ "triangles" ∷ "records" ∷ []) && has_all data_note ("writing direction" ∷ "direction" ∷ []) ≡ true
unfolding header element grid_header net_header data_note
names_there = refl
