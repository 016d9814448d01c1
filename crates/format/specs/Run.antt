-- The public edit on a buffer, and lists of edits, on a buffer and on the plain record list. Assumes nothing.
use Rattle.std.specs.Prelude.{◌≡◌, Bool, false, ◌&&◌, ◌||◌, List, [], ◌∷◌, ◌++◌, ℕ, suc, pred, ◌+◌, ◌*◌, ◌/◌, ◌≤◌, ◌<◌, leb, ltb, length, take, drop, get_or, replicate}
use Rattle.format.specs.Basics.{Answer, given, refused, chunks, flat}
use Rattle.format.specs.Layout.{Col, find, header, sheet_b}
use Rattle.format.specs.Record.{View, count_index, count_name}
use Rattle.format.specs.Sheet.{stated_elements}
use Rattle.format.specs.Judge.{Counts, File, file_of, sheet_in, accepted, judge_sheet}
use Rattle.format.specs.Edit.{RecordList, above_in, before, block_of, first_view, removed_item}
use Rattle.format.specs.Calls.{Edit, insert, remove, PlainStep, plain}
use Rattle.format.specs.Above.{up, WayAnswered}

-- a lent buffer and the used length
pub record Buffer : Type 0 where
  pub bytes : List ℕ
  pub used : ℕ

-- "at the end the buffer equals its records followed by its tail"
abbrev pub buffer_of : RecordList → Buffer
buffer_of list = record { bytes = flat list.records ++ list.tail; used = 84 * length list.records }

-- "at first the sheet's records and the buffer's other bytes"
abbrev pub list_of : Buffer → RecordList
list_of b = record { records = chunks (b.used / 84) b.bytes; tail = drop b.used b.bytes }

pub record Step : Type 0 where
  pub reply : Answer ℕ
  pub buffer : Buffer

-- "Insertion and removal judge the file first (1 to 10), then 11 to 15 in order"; after a refusal "every lent buffer is byte for byte as before";
-- an accepted edit "moves the rest unchanged. Removal fills the freed end with spaces; bytes past that, or past the new length after an
-- insertion, stay"
abbrev pub after_judging : Answer Counts → PlainStep → Buffer → Step
after_judging (given counts) step b = record { reply = step.reply; buffer = buffer_of step.list }
after_judging (refused number at) step b = record { reply = refused number at; buffer = b }

unfoldable pub call : Edit → Buffer → Step
call edit b = after_judging (judge_sheet b.used b.bytes) (plain edit (list_of b)) b

-- "Each call gets the buffer and used length that the last one returned or left"
abbrev pub run_buffer : List Edit → Buffer → Buffer
run_buffer [] b = b
run_buffer (c ∷ cs) b = run_buffer cs (call c b).buffer

abbrev pub replies_buffer : List Edit → Buffer → List (Answer ℕ)
replies_buffer [] b = []
replies_buffer (c ∷ cs) b = (call c b).reply ∷ replies_buffer cs (call c b).buffer

-- the same list of calls on the plain record list
abbrev pub run_plain : List Edit → RecordList → RecordList
run_plain [] g = g
run_plain (c ∷ cs) g = run_plain cs (plain c g).list

abbrev pub replies_plain : List Edit → RecordList → List (Answer ℕ)
replies_plain [] g = []
replies_plain (c ∷ cs) g = (plain c g).reply ∷ replies_plain cs (plain c g).list

-- accepted insertions, and accepted removals, of a run
abbrev pub insertions : Edit → Answer ℕ → ℕ
insertions (insert p bs) (given u) = 1
insertions (insert p bs) (refused n r) = 0
insertions (remove p) (given u) = 0
insertions (remove p) (refused n r) = 0

abbrev pub removals : Edit → Answer ℕ → ℕ
removals (insert p bs) (given u) = 0
removals (insert p bs) (refused n r) = 0
removals (remove p) (given u) = 1
removals (remove p) (refused n r) = 0

abbrev pub sum_of : (Edit → Answer ℕ → ℕ) → List Edit → List (Answer ℕ) → ℕ
sum_of g [] rs = 0
sum_of g (c ∷ cs) [] = 0
sum_of g (c ∷ cs) (r ∷ rs) = g c r + sum_of g cs rs

-- the element count that record 2 states
abbrev pub element_count : Buffer → ℕ
element_count b = stated_elements (get_or (list_of b).records 1 [])

-- ---- "moves the rest unchanged": every byte is kept but those of four columns
-- the item that an edit puts in or takes out, and its place
abbrev pub place_of : Edit → ℕ
place_of (insert place block) = place
place_of (remove place) = place

abbrev pub item_of : Edit → RecordList → View
item_of (insert place block) list = first_view list place (block_of block)
item_of (remove place) list = removed_item list place

-- the record number of the header above an item there
abbrev pub header_above : RecordList → (place : ℕ) → (item_view : View) → ℕ
header_above list place item_view = (file_of list.records).part_length + above_in item_view.level (before (file_of list.records) place)

-- byte i of a buffer lies in this column of this record
abbrev pub in_column : (number : ℕ) → Col → (i : ℕ) → Bool
in_column number column i = leb (84 * pred number + column.start) i && ltb i (84 * pred number + column.start + column.width)

-- "rewrites four columns .. (total and own kind in the header above, both sheet counts)": byte i lies in one of them
abbrev pub in_four : (above : ℕ) → (item_view : View) → (i : ℕ) → Bool
in_four above item_view i =
    (in_column above (find "total" header) i || in_column above (find (count_name (count_index item_view.kind)) header) i)
    || (in_column 2 (find "element count" sheet_b) i || in_column 2 (find "record count" sheet_b) i)

abbrev pub in_four_columns : Edit → RecordList → (i : ℕ) → Bool
in_four_columns edit list i = in_four (header_above list (place_of edit) (item_of edit list)) (item_of edit list) i

-- the block put in at a place, or the item there taken out, and nothing else
abbrev pub with_block : RecordList → (place : ℕ) → (block : List (List ℕ)) → RecordList
with_block list place block = record {
  records = take (pred place) list.records ++ (block ++ drop (pred place) list.records);
  tail = drop (84 * length block) list.tail;
}

abbrev pub without_item : RecordList → (place : ℕ) → RecordList
without_item list place = record {
  records = take (pred place) list.records ++ drop (suc (removed_item list place).data_records) (drop (pred place) list.records);
  tail = replicate (84 * suc (removed_item list place).data_records) 32 ++ list.tail;
}

abbrev pub moved : Edit → RecordList → RecordList
moved (insert place block) list = with_block list place (block_of block)
moved (remove place) list = without_item list place

abbrev pub byte_at : Buffer → (i : ℕ) → ℕ
byte_at b i = get_or b.bytes i 0

-- the bytes that a call which answered so leaves: of an accepted one all but those of the four columns are where the move put them, a
-- refused one leaves all as it was
abbrev pub KeepsBytes : Answer ℕ → Edit → (old new : Buffer) → Type 0
KeepsBytes (given used) edit old new =
    (i : ℕ) → in_four_columns edit (list_of old) i ≡ false → byte_at new i ≡ byte_at (buffer_of (moved edit (list_of old))) i
KeepsBytes (refused number at) edit old new = new ≡ old

-- and no call makes the buffer longer or shorter
pub record Keeps (reply : Answer ℕ) (edit : Edit) (old new : Buffer) : Type 0 where
  pub size : length new.bytes ≡ length old.bytes
  pub bytes : KeepsBytes reply edit old new

-- each call of a list, in order, keeps so of the buffer that it got
abbrev pub EachKeeps : List Edit → Buffer → Type 0
EachKeeps [] b = Unit {0}
EachKeeps (c ∷ cs) b = Keeps (call c b).reply c b (call c b).buffer × EachKeeps cs (call c b).buffer

-- ---- What holds of an accepted sheet at every moment
abbrev pub sheet_of : Buffer → File
sheet_of b = sheet_in b.used b.bytes

pub record Sound (b : Buffer) : Type 0 where
  -- accepted, with the records that its length makes and the items that record 2 states
  pub accepts : judge_sheet b.used b.bytes ≡ accepted (b.used / 84) (element_count b)
  -- the way up from any record after the sheet part
  pub ways : (number : ℕ) → (sheet_of b).part_length < number → number ≤ b.used / 84 → WayAnswered (sheet_of b) number (up b.used b.bytes number)
  -- the next call, whatever it is
  pub keeps : (edit : Edit) → Keeps (call edit b).reply edit b (call edit b).buffer

-- ---- DEMAND 3, of a list of calls, from a sheet in a buffer
pub record Runs (cs : List Edit) (b : Buffer) : Type 0 where
  -- "Each answer equals its answer"
  pub replies : replies_buffer cs b ≡ replies_plain cs (list_of b)
  -- "at the end the buffer equals its records followed by its tail"
  pub buffer : run_buffer cs b ≡ buffer_of (run_plain cs (list_of b))
  -- every call of the list kept every byte but those of its four columns, and the buffer's length
  pub kept : EachKeeps cs b
  -- the file is still accepted, the way up still right, and the next call keeps as much
  pub sound : Sound (run_buffer cs b)
  -- the element count is the first one, with the accepted insertions and without the accepted removals
  pub counts : element_count (run_buffer cs b) + sum_of removals cs (replies_buffer cs b) ≡ element_count b + sum_of insertions cs (replies_buffer cs b)
