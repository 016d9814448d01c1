-- What one insertion or one removal does to a plain record list, and why it is refused. Assumes nothing.
use Rattle.std.specs.Prelude.{Bool, true, cond, not, ◌&&◌, ◌||◌, List, [], ◌∷◌, ◌++◌, map, ℕ, zero, suc, pred, ◌+◌, ◌-◌, ◌*◌, ◌/◌, ◌%◌, leb, ltb, eqb, length, take, drop, get_or, replicate}
use Rattle.format.specs.Basics.{Answer, given, refused, first, unless, fine, chunks}
use Rattle.format.specs.Record.{head, is_head, count_index, nothing, View, view, raise, lower}
use Rattle.format.specs.Sheet.{write_counts}
use Rattle.format.specs.Judge.{open_after, due_after, walk, is_header_at, File, file_of}

-- behind a list of records: how many data records are still due, and the open level
abbrev pub due_behind : (due : ℕ) → List View → ℕ
due_behind due [] = due
due_behind due (r ∷ rs) = due_behind (due_after due r) rs

abbrev pub open_behind : (opened due : ℕ) → List View → ℕ
open_behind opened due [] = opened
open_behind opened due (r ∷ rs) = open_behind (open_after opened due r) (due_after due r) rs

-- the number of the last header of a level in a list whose first record has this number; `latest` where it has none
abbrev pub last_header : (level due number latest : ℕ) → List View → ℕ
last_header level due number latest [] = latest
last_header level zero number latest (r ∷ rs) = last_header level (due_after zero r) (suc number) (cond (is_header_at level r) number latest) rs
last_header level (suc due) number latest (r ∷ rs) = last_header level due (suc number) latest rs

-- "The header above a record is the last one before it with level one less": its place, counted from 1, in the records `before`
-- a record of this level; 0 where there is none
abbrev pub above_in : (level : ℕ) → (before : List View) → ℕ
above_in level before = last_header (pred level) 0 1 0 before

-- what stands for a record where there is none
abbrev pub absent : View
absent = record { kind = head; level = 0; data_records = 0; data_held = nothing; column_fault = 0; rule_fault = 0; fault_as_data = λ held behind. 0; total = 0; count = λ kind. 0 }

-- ---- The refusals 12 to 14 of a block
-- 12: "block is not exactly one item that passes 4 to 9 but for nesting, level 2..9": at open level 8 every level of an item nests
abbrev pub is_block : View → List View → Bool
is_block item_view data_views = not (is_head item_view.kind) && (fine (walk 8 0 nothing 0 0 (item_view ∷ data_views)) && eqb (length data_views) item_view.data_records)

abbrev pub fault12 : List View → ℕ
fault12 [] = 12
fault12 (item_view ∷ data_views) = unless (is_block item_view data_views) 12

-- 13: "block level above the open level plus 1 at that place, or below the level of the record now there"
abbrev pub not_below : (level : ℕ) → (after : List View) → Bool
not_below level [] = true
not_below level (r ∷ rs) = leb r.level level

abbrev pub fault13 : (opened : ℕ) → View → (after : List View) → ℕ
fault13 opened item_view after = unless (leb item_view.level (suc opened) && not_below item_view.level after) 13

-- 14: "header total would pass 99,999, its grid and net count 9, or the file 200,000 records": by the header above the block, the count
-- that the block belongs to, the records there would be, and the limit of these
abbrev pub has_room : (total kind count records limit : ℕ) → Bool
has_room total kind count records limit = leb (total + 1) 99999 && (not (eqb kind 9) || leb (count + 1) 9) && leb records limit

abbrev pub fault14 : (above : View) → (kind records limit : ℕ) → ℕ
fault14 above kind records limit = unless (has_room above.total kind (above.count kind) records limit) 14

-- 15: "a buffer is too short for the result"; behind the records stand the bytes of `tail`
abbrev pub insert15 : (tail : List ℕ) → List View → ℕ
insert15 tail block = unless (leb (84 * length block) (length tail)) 15

-- ---- A place of a sheet is a record number, "Records number from 1": so many records of the body stand before it
abbrev pub body_place : File → (place : ℕ) → ℕ
body_place f place = place - suc f.part_length

module _ (f : File) (place : ℕ) where
  abbrev pub before : List View
  before = take (body_place f place) f.body

  abbrev pub after : List View
  after = drop (body_place f place) f.body

  -- 11: "edit place is no item or header start, nor (insertion) one past the end"
  abbrev pub insert11 : ℕ
  insert11 = unless (ltb f.part_length place && leb (body_place f place) (length f.body) && eqb (due_behind 0 before) 0) 11

  -- 11: the same of a removal, and "removal at a header"; "12 to 15 never apply to a removal"
  abbrev pub remove11 : ℕ
  remove11 =
      unless (ltb f.part_length place && ltb (body_place f place) (length f.body) && eqb (due_behind 0 before) 0 && not (is_head (get_or f.body (body_place f place) absent).kind)) 11

  -- 13 and 14 of a block there, by its first record and the header above it
  abbrev pub insert13 : List View → ℕ
  insert13 block = fault13 (open_behind 0 0 before) (get_or block 0 absent) after

  abbrev pub above_block : List View → View
  above_block block = get_or before (pred (above_in (get_or block 0 absent).level before)) absent

  abbrev pub insert14 : List View → (limit : ℕ) → ℕ
  insert14 block limit = fault14 (above_block block) (count_index (get_or block 0 absent).kind) (f.part_length + length f.body + length block) limit

  -- "then 11 to 15 in order", with a limit of the records; 0 where nothing refuses the block
  abbrev pub insert_fault : (tail : List ℕ) → List View → (limit : ℕ) → ℕ
  insert_fault tail block limit = first insert11 (first (fault12 block) (first (insert13 block) (first (insert14 block limit) (insert15 tail block))))

-- ---- "The plain record list keeps records and behind them a tail"
pub record RecordList : Type 0 where
  pub records : List (List ℕ)
  pub tail : List ℕ

-- a list with its record i changed, counted from 0
module _ {A : Type 0} where
  abbrev pub alter_at : (A → A) → ℕ → List A → List A
  alter_at change i [] = []
  alter_at change zero (r ∷ rs) = change r ∷ rs
  alter_at change (suc i) (r ∷ rs) = r ∷ alter_at change i rs

module _ (list : RecordList) (place : ℕ) where
  abbrev pub file : File
  file = file_of list.records

  abbrev pub part_records : List (List ℕ)
  part_records = take file.part_length list.records

  abbrev pub body_records : List (List ℕ)
  body_records = drop file.part_length list.records

  -- the body's records before the place, with the header above an item there changed in the item's count
  abbrev pub changed : ((kind : ℕ) → List ℕ → List ℕ) → View → List (List ℕ)
  changed change item_view = alter_at (change (count_index item_view.kind)) (pred (above_in item_view.level (before file place))) (take (body_place file place) body_records)

  abbrev pub first_view : List (List ℕ) → View
  first_view block = get_or (map view block) 0 absent

  -- "the block goes in before the record at the place, or at the end; the tail loses as many bytes at its front". "Then total and own kind
  -- in the header above that item and the element count in record 2 rise .. by one, the record count there by the item's records"
  abbrev pub inserted : List (List ℕ) → RecordList
  inserted block = record {
    records = alter_at (write_counts (file.stated_elements + 1) (file.stated_records + length block)) 1 part_records ++ (changed raise (first_view block) ++ (block ++ drop (body_place file place) body_records));
    tail = drop (84 * length block) list.tail;
  }

  abbrev pub removed_item : View
  removed_item = get_or file.body (body_place file place) absent

  -- "the item at the place goes out; the tail gains as many spaces at its front", and the four columns fall
  abbrev pub removed : RecordList
  removed = record {
    records = alter_at (write_counts (file.stated_elements - 1) (file.stated_records - suc removed_item.data_records)) 1 part_records ++ (changed lower removed_item ++ drop (suc removed_item.data_records) (drop (body_place file place) body_records));
    tail = replicate (84 * suc removed_item.data_records) 32 ++ list.tail;
  }

-- the records of a block; one that is no whole number of records is no item, like the empty one: 12
abbrev pub block_of : List ℕ → List (List ℕ)
block_of block = cond (eqb (length block % 84) 0) (chunks (length block / 84) block) []

-- ---- A block alone: the item that it is, by which of a header's ten counts counts it, and its level; else 12, "block is not exactly one item that
-- passes 4 to 9 but for nesting, level 2..9"
pub record BlockItem : Type 0 where
  pub count_index : ℕ
  pub level : ℕ

abbrev pub item_in : List View → Answer BlockItem
item_in block =
    cond (eqb (fault12 block) 0)
    (given (record { count_index = count_index (get_or block 0 absent).kind; level = (get_or block 0 absent).level }))
    (refused 12 0)

unfoldable pub block_item : List ℕ → Answer BlockItem
block_item block = item_in (map view (block_of block))
