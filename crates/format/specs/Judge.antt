-- Judging, in three stages: "the first failing stage answers". Assumes nothing.
use Rattle.std.specs.Prelude.{◌≡◌, Bool, true, false, cond, not, ◌&&◌, ◌||◌, List, [], ◌∷◌, map, ℕ, zero, suc, pred, ◌+◌, ◌/◌, leb, eqb, length, drop, get_or}
use Rattle.format.specs.Basics.{Answer, given, refused, first, unless, Fault, none, fault, or_else, to_fault, chunks, stage_one_ok}
use Rattle.format.specs.Record.{Kind, is_head, is_header_or_item, count_index, Data, nothing, View, view}
use Rattle.format.specs.Sheet.{part_length, sheet_fault, stated_elements, stated_records}
use Rattle.format.specs.Index.{index_fault}

-- ---- Stage two: "a walk from the front; a record is checked when reached"
-- The walk keeps, behind the records that it has passed: the open level; how many data records are due; what they hold; and the
-- number of the last header or item, the owner of that data. Where no data is due, a header or an item is

-- so many data records are due behind a header or an item that states `data_records`
abbrev pub due_of : Kind → ℕ → ℕ
due_of kind data_records = cond (is_head kind) 0 data_records

-- "The open level is that of the last header, or one less than the last item's"
abbrev pub open_of : Kind → ℕ → ℕ
open_of kind level = cond (is_head kind) level (pred level)

-- "A layer header has level 1, a group header 2 to 8. An item ..; its level is 2 to 9"
abbrev pub lowest_level : Kind → ℕ
lowest_level kind = cond (is_head kind) 1 2

abbrev pub highest_level : Kind → ℕ
highest_level kind = cond (is_head kind) 8 9

-- what the walk keeps behind one record more: a header or an item sets all of it anew, of data records one less is due
abbrev pub open_after : (opened due : ℕ) → View → ℕ
open_after opened zero r = open_of r.kind r.level
open_after opened (suc due) r = opened

abbrev pub due_after : (due : ℕ) → View → ℕ
due_after zero r = due_of r.kind r.data_records
due_after (suc due) r = due

abbrev pub held_after : (due : ℕ) → Data → View → Data
held_after zero held r = r.data_held
held_after (suc due) held r = held

abbrev pub owner_after : (due owner number : ℕ) → ℕ
owner_after zero owner number = number
owner_after (suc due) owner number = owner

-- 7: "Other levels are 7. .. A record's level may be at most the open level plus 1"; so "a body may hold groups", as deep as level 8
abbrev pub level_ok : (opened : ℕ) → View → Bool
level_ok opened r = leb (lowest_level r.kind) r.level && leb r.level (highest_level r.kind) && leb r.level (suc opened)

-- the first fault of the record reached, 0 for none: where a header or an item is due, 4, 5, 6, 7, 8 in that order; where data is
-- due, 5 and 6. 4: "not H, E1..E8, G or T where one is due"
abbrev pub fault_at : (opened due : ℕ) → Data → View → ℕ
fault_at opened zero held r =
    first (unless (is_header_or_item r.kind) 4) (first r.column_fault (first (unless (level_ok opened r) 7) r.rule_fault))
fault_at opened (suc due) held r = r.fault_as_data held due

-- 3: "a needed record is missing", at "its item's header"
abbrev pub missing : (due owner : ℕ) → Fault
missing zero owner = none
missing (suc due) owner = fault 3 owner

-- the first fault of the records from the one with this number on: "A missing record is reached past the end, after those before it". They may end
-- behind any header, and before the first: "Empty layers, groups and sheets are allowed"
abbrev pub walk : (opened due : ℕ) → Data → (owner number : ℕ) → List View → Fault
walk opened due held owner number [] = missing due owner
walk opened due held owner number (r ∷ rs) =
    or_else (to_fault (fault_at opened due held r) number)
    (walk (open_after opened due r) (due_after due r) (held_after due held r) (owner_after due owner number) (suc number) rs)

-- ---- Stage three: "10, lowest record first"
-- the headers and items, in order, without their data records; so many of those are due at first
abbrev pub headers_and_items : (due : ℕ) → List View → List View
headers_and_items due [] = []
headers_and_items zero (r ∷ rs) = r ∷ headers_and_items (due_after zero r) rs
headers_and_items (suc due) (r ∷ rs) = headers_and_items due rs

-- a header of this level
abbrev pub is_header_at : (level : ℕ) → View → Bool
is_header_at level r = is_head r.kind && eqb r.level level

-- "a header counts what stands one level below under it, by kind": of the headers and items that follow a header of this level, those
-- one level below and of this kind, up to the next header of its level. That these are the ones that have it for their header above,
-- "the last one before it with level one less", is `counts_mean` in proofs/Claims.antt
abbrev pub counts_for : (level kind : ℕ) → View → ℕ
counts_for level kind r = cond (eqb r.level (suc level) && eqb (count_index r.kind) kind) 1 0

abbrev pub count_under : (level kind : ℕ) → List View → ℕ
count_under level kind [] = 0
count_under level kind (r ∷ rs) = cond (is_header_at level r) 0 (counts_for level kind r + count_under level kind rs)

-- the sum, and the test, of the first n numbers of a function
abbrev pub sum : ℕ → (ℕ → ℕ) → ℕ
sum zero f = 0
sum (suc n) f = f n + sum n f

abbrev pub all : ℕ → (ℕ → Bool) → Bool
all zero f = true
all (suc n) f = f n && all n f

-- a header states of a kind what stands under it; `behind` are the headers and items that follow it
abbrev pub count_agrees : View → (behind : List View) → (kind : ℕ) → Bool
count_agrees header behind kind = eqb (header.count kind) (count_under header.level kind behind)

-- it does so of all ten kinds, and "total is the sum of the others"
abbrev pub counts_agree : View → (behind : List View) → Bool
counts_agree header behind = all 10 (count_agrees header behind) && eqb header.total (sum 10 header.count)

abbrev pub header_count_fault : View → (behind : List View) → ℕ
header_count_fault r behind = unless (not (is_head r.kind) || counts_agree r behind) 10

-- the first header whose counts differ, among the records from the one with this number on
abbrev pub count_fault : (due number : ℕ) → List View → Fault
count_fault due number [] = none
count_fault zero number (r ∷ rs) =
    or_else (to_fault (header_count_fault r (headers_and_items (due_after zero r) rs)) number) (count_fault (due_after zero r) (suc number) rs)
count_fault (suc due) number (r ∷ rs) = count_fault due (suc number) rs

-- how many items there are among headers and items
abbrev pub one_if_item : Kind → ℕ
one_if_item kind = cond (is_head kind) 0 1

abbrev pub items : List View → ℕ
items [] = 0
items (r ∷ rs) = one_if_item r.kind + items rs

-- ---- A sheet: how many records its sheet part has, the two counts that record 2 states, and the records behind the sheet part
pub record File : Type 0 where
  pub part_length : ℕ
  pub stated_elements : ℕ
  pub stated_records : ℕ
  pub body : List View

abbrev pub file_of : List (List ℕ) → File
file_of records = record {
  part_length = part_length records;
  stated_elements = stated_elements (get_or records 1 []);
  stated_records = stated_records (get_or records 1 []);
  body = map view (drop (part_length records) records);
}

-- "Sheet element count: all items. Sheet record count: all records but the sheet part": else 10 at record 2
abbrev pub sheet_count_fault : File → ℕ
sheet_count_fault f =
    unless (eqb f.stated_elements (items (headers_and_items 0 f.body)) && eqb f.stated_records (length f.body)) 10

-- stage two behind the sheet part, from open level "0 before the first layer"; then stage three
abbrev pub body_fault : File → Fault
body_fault f =
    or_else (walk 0 0 nothing 0 (suc f.part_length) f.body)
    (or_else (to_fault (sheet_count_fault f) 2) (count_fault 0 (suc f.part_length) f.body))

-- "Accepted judging returns record and item counts, items 0 for an index"
pub record Counts : Type 0 where
  pub records : ℕ
  pub items : ℕ

abbrev pub accepted : (records items : ℕ) → Answer Counts
accepted records items = given (record { records = records; items = items })

abbrev pub verdict : Fault → (records items : ℕ) → Answer Counts
verdict none records items = accepted records items
verdict (fault number at) records items = refused number at

-- the body of a sheet whose sheet part is in order
unfoldable pub judge : File → Answer Counts
judge f = verdict (body_fault f) (f.part_length + length f.body) (items (headers_and_items 0 f.body))

-- a fault of the sheet part comes before those of the body
abbrev pub after_part : Fault → Answer Counts → Answer Counts
after_part none answer = answer
after_part (fault number at) answer = refused number at

unfoldable pub judge_records : List (List ℕ) → Answer Counts
judge_records records = after_part (sheet_fault records) (judge (file_of records))

unfoldable pub judge_index_records : List (List ℕ) → Answer Counts
judge_index_records records = verdict (index_fault records) (length records) 0

-- "Three stages; the first failing stage answers. Stage one: 1", at record 0
abbrev pub after_stage_one : Bool → Answer Counts → Answer Counts
after_stage_one true answer = answer
after_stage_one false answer = refused 1 0

-- a sheet file, and an index file, in the first `used` bytes of a buffer
unfoldable pub judge_sheet : (used : ℕ) → List ℕ → Answer Counts
judge_sheet used buffer = after_stage_one (stage_one_ok used buffer) (judge_records (chunks (used / 84) buffer))

-- the sheet in the first `used` bytes of a buffer
abbrev pub sheet_in : (used : ℕ) → List ℕ → File
sheet_in used buffer = file_of (chunks (used / 84) buffer)

-- one that judging accepts
pub record AcceptedSheet (used : ℕ) (buffer : List ℕ) : Type 0 where
  pub counts : Counts
  pub judged : judge_sheet used buffer ≡ given counts

unfoldable pub judge_index : (used : ℕ) → List ℕ → Answer Counts
judge_index used buffer = after_stage_one (stage_one_ok used buffer) (judge_index_records (chunks (used / 84) buffer))
