-- What the private functions of the walk ensure, over the flat walk of format's Judge and the folds of its Edit and Above. Public functions cite nothing
-- of this. Assumes nothing.
use Rattle.std.specs.Prelude.{◌≡◌, Option, Some, None, Result, Ok, Err, Bool, true, cond, ◌&&◌, List, [], ◌∷◌, map, ℕ, suc, ◌+◌, ◌-◌, ◌*◌, ◌≤◌, ◌<◌, leb, ltb, eqb, length, take, drop, get_or, set, replicate}
use Rattle.format.specs.Basics.{Fault, none, fault, or_else, first, unless}
use Rattle.format.specs.Record.{Data, nothing, View, view, is_head, count_index}
use Rattle.format.specs.Judge.{walk, fault_at, headers_and_items, items, count_under, count_fault, File, accepted, judge}
use Rattle.format.specs.Edit.{last_header}
use Rattle.format.specs.Above.{last_start}
use Rattle.format_directory.specs.declared.Edition.{Edition}
use Rattle.format_directory.specs.Directory.{Layer, layer_body, layers_from, layers_of, per_layer}
use Rattle.files.specs.Records.{records_of}
use Rattle.format.specs.Reasons.{refusal_number}
use Rattle.format.specs.declared.Refusal.{Refusal}
use Rattle.records.specs.declared.items.Entry as Items
use Rattle.records.specs.Entry.{Entry, entry_said, entry_of}
use Rattle.part_and_index.specs.Result.{SheetPart}
use Rattle.judge.specs.declared.body_records.Extent.{Extent}
use Rattle.judge.specs.declared.walk.Seen.{Seen}
use Rattle.judge.specs.declared.walk as Declared
use Rattle.judge.specs.declared.opening as Opening
use Rattle.judge.specs.Sheet.{Sheet}
use Rattle.judge.specs.Sheet.{values, start_before, header_before, refused_sheet, sheet_said, accepted_sheet, sheet_for, records_sheet}
use Rattle.judge.specs.Listed.{first_unlisted, first_numbers, kept_layers, unlisted_said}

-- ---- The records of a file, which count from 0 here; record k has number k + 1
-- the file has as many records as the walk is told
pub record ExtentOf (file : List ℕ) (x : Extent) : Type 0 where
  pub counted : x.records ≡ length (records_of x.stride file)
  pub few : 84 * x.records ≤ length file

abbrev pub record_at : List ℕ → Extent → ℕ → List ℕ
record_at file x k = get_or (records_of x.stride file) k []

-- the views of the records from k on
unfoldable pub views_from : List ℕ → Extent → ℕ → List View
views_from file x k = map view (drop k (records_of x.stride file))

-- the first fault of a walk from here, where no data is due; the first record has number i
abbrev pub fault_from : (open_level i : ℕ) → List View → Fault
fault_from open_level i rs = walk open_level 0 nothing 0 i rs

-- the headers and items from here, where no data is due
abbrev pub entries : List View → List View
entries rs = headers_and_items 0 rs

-- a header with a wrong count, by its number
abbrev pub wrong_at : Option ℕ → Fault
wrong_at None = none
wrong_at (Some i) = fault 10 i

-- ---- One record where a header or an item is due, by its entry: kind 0 is a header
unfoldable pub lowest_of : (kind : ℕ) → ℕ
lowest_of kind = cond (eqb kind 0) 1 2

unfoldable pub highest_of : (kind : ℕ) → ℕ
highest_of kind = cond (eqb kind 0) 8 9

unfoldable pub level_fits : (kind level open_level : ℕ) → Bool
level_fits kind level open_level = leb (lowest_of kind) level && leb level (highest_of kind) && leb level (open_level + 1)

-- the first of its fault, of 7, and of the fault of its data rule
unfoldable pub entry_fault : Entry → (open_level : ℕ) → ℕ
entry_fault e open_level = first e.fault (first (unless (level_fits e.kind e.level open_level) 7) e.rule_fault)

-- what `entry_due` ensures: the header or item, which passes at this open level, or its first fault, at its own number
abbrev pub EntryDue : List ℕ → Extent → (k open_level : ℕ) → Result Items.Entry Refusal → Type 0
EntryDue file x k open_level (Ok e) = (entry_said (Ok e) ≡ entry_of (record_at file x k)) × (entry_fault (entry_said (Ok e)) open_level ≡ 0)
EntryDue file x k open_level (Err r) = (refusal_number r.reason ≡ entry_fault (entry_of (record_at file x k)) open_level) × (r.at ≡ k + 1)

-- ---- What stands before a place, behind `before` records of the file: those of a list whose first record has number i
abbrev pub up_to : (before i : ℕ) → List View → List View
up_to before i rs = take (suc before - i) rs

-- the number of record k where that stands before the place, else `latest`
unfoldable pub last_before : (k before latest : ℕ) → ℕ
last_before k before latest = cond (ltb k before) (suc k) latest

-- what is seen with one more item at record k, and with a header of a level there
abbrev pub with_item : Seen → (k before : ℕ) → Seen
with_item s k before = record { items = s.items + 1; start = last_before k before s.start; headers = s.headers }

abbrev pub with_header : Seen → (k before level : ℕ) → Seen
with_header s k before level = record { items = s.items; start = last_before k before s.start; headers = set s.headers level (last_before k before (get_or s.headers level 0)) }

-- where the walk begins, behind a sheet part
abbrev pub seen_none : (part : ℕ) → Seen
seen_none part = record { items = 0; start = part; headers = replicate 9 part }

-- no more items than records so far
pub record SeenUpTo (k : ℕ) (s : Seen) : Type 0 where
  pub few : s.items ≤ k
  pub nine : length s.headers ≡ 9

-- ---- Data records: of those due at rs, so many are left at rs', and none between them is wrong
pub record Through (held : Data) (owner due i : ℕ) (rs : List View) (left i' : ℕ) (rs' : List View) : Type 0 where
  pub same : (open_level : ℕ) → walk open_level due held owner i rs ≡ walk open_level left held owner i' rs'
  pub behind : headers_and_items due rs ≡ headers_and_items left rs'
  pub wrong : count_fault due i rs ≡ count_fault left i' rs'
  pub start : (before latest : ℕ) → last_start due i latest (up_to before i rs) ≡ last_start left i' latest (up_to before i' rs')
  pub header : (before level latest : ℕ) → last_header level due i latest (up_to before i rs) ≡ last_header level left i' latest (up_to before i' rs')
  pub layers : layers_from due i rs ≡ layers_from left i' rs'

-- ---- Headers and items: from rs at one open level to rs' at another nothing is wrong; `low` is the first header between them whose counts differ. Counts are those of a file in which stage two finds nothing: that is the premise of `wrong`. What stands between counts for no header of a level
-- lower than the open one, and in a layer no other begins
pub record Joins (open_level i : ℕ) (rs : List View) (open_level' i' : ℕ) (rs' : List View) (low : Option ℕ) : Type 0 where
  pub same : fault_from open_level i rs ≡ fault_from open_level' i' rs'
  pub wrong : fault_from open_level' i' rs' ≡ none → count_fault 0 i rs ≡ or_else (wrong_at low) (count_fault 0 i' rs')
  pub deeper : (level kind : ℕ) → level < open_level → count_under level kind (entries rs) ≡ count_under level kind (entries rs')
  pub layers : 0 < open_level → layers_from 0 i rs ≡ layers_from 0 i' rs'

-- what is seen at rs, and what is seen then at rs': how many items, the last header or item before the place, the last header of each level
pub record Sees (before i : ℕ) (rs : List View) (s : Seen) (i' : ℕ) (rs' : List View) (s' : Seen) : Type 0 where
  pub all : s.items + items (entries rs) ≡ s'.items + items (entries rs')
  pub no_fewer : s.items ≤ s'.items
  pub last : last_start 0 i s.start (up_to before i rs) ≡ last_start 0 i' s'.start (up_to before i' rs')
  pub above : (level : ℕ) → level ≤ 8 → last_header level 0 i (get_or s.headers level 0) (up_to before i rs) ≡ last_header level 0 i' (get_or s'.headers level 0) (up_to before i' rs')

-- ---- What the walks come to: number and record of the fault, 0 and 0 for none; else the record past the walk and what it found
pub record Walked : Type 0 where
  pub number : ℕ
  pub at : ℕ
  pub next : ℕ

-- `low` is the first header with a wrong count
pub record WalkedGroup : Type 0 where
  pub number : ℕ
  pub at : ℕ
  pub next : ℕ
  pub low : Option ℕ
  pub seen : Seen

-- `tally` counts, by kind, what stands one level below the open one
pub record WalkedBody : Type 0 where
  pub number : ℕ
  pub at : ℕ
  pub next : ℕ
  pub low : Option ℕ
  pub tally : List ℕ
  pub seen : Seen

-- `layers` counts them; `unlisted` is the first of them, counted from 1, that a directory does not list, or 0; `first_numbers` is what one of its edition
-- lists of the first ones
pub record WalkedLayers : Type 0 where
  pub number : ℕ
  pub at : ℕ
  pub low : Option ℕ
  pub seen : Seen
  pub layers : ℕ
  pub unlisted : ℕ
  pub first_numbers : List ℕ

-- a walk that came to the record `next` without a fault
abbrev pub passed_of : (next : ℕ) → Walked
passed_of next = record { number = 0; at = 0; next = next }

abbrev pub passed_group_of : (next : ℕ) (low : Option ℕ) → Seen → WalkedGroup
passed_group_of next low seen = record { number = 0; at = 0; next = next; low = low; seen = seen }

abbrev pub passed_body_of : (next : ℕ) (low : Option ℕ) → (tally : List ℕ) → Seen → WalkedBody
passed_body_of next low tally seen = record { number = 0; at = 0; next = next; low = low; tally = tally; seen = seen }

abbrev pub passed_layers_of : (low : Option ℕ) → Seen → (layers unlisted : ℕ) → List ℕ → WalkedLayers
passed_layers_of low seen layers unlisted first-numbers = record { number = 0; at = 0; low = low; seen = seen; layers = layers; unlisted = unlisted; first_numbers = first-numbers }

-- the same as the code has them; a refusal has no values
abbrev pub walked_said : Result ℕ Refusal → Walked
walked_said (Ok next) = passed_of next
walked_said (Err r) = record { number = refusal_number r.reason; at = r.at; next = 0 }

abbrev pub group_said : Result Declared.WalkedGroup.WalkedGroup Refusal → WalkedGroup
group_said (Ok w) = passed_group_of w.next w.low w.seen
group_said (Err r) = record { number = refusal_number r.reason; at = r.at; next = 0; low = None; seen = seen_none 0 }

abbrev pub body_said : Result Declared.WalkedBody.WalkedBody Refusal → WalkedBody
body_said (Ok w) = passed_body_of w.next w.low w.tally w.seen
body_said (Err r) = record { number = refusal_number r.reason; at = r.at; next = 0; low = None; tally = []; seen = seen_none 0 }

abbrev pub layers_said : Result Declared.WalkedLayers.WalkedLayers Refusal → WalkedLayers
layers_said (Ok w) = passed_layers_of w.low w.seen w.layers (unlisted_said w.unlisted) w.first_numbers
layers_said (Err r) = record { number = refusal_number r.reason; at = r.at; low = None; seen = seen_none 0; layers = 0; unlisted = 0; first_numbers = [] }

-- the walk of an item, as that of a group
abbrev pub item_as_group : Walked → Seen → WalkedGroup
item_as_group w seen = record { number = w.number; at = w.at; next = w.next; low = None; seen = seen }

-- ---- Contracts
-- the walk from record k at an open level, to record `next` at another
abbrev pub JoinsTo : List ℕ → Extent → (k open_level next after : ℕ) (low : Option ℕ) → Type 0
JoinsTo file x k open_level next after low = Joins open_level (suc k) (views_from file x k) after (suc next) (views_from file x next) low

abbrev pub SeesTo : List ℕ → Extent → (k : ℕ) → Seen → (next : ℕ) → Seen → Type 0
SeesTo file x k s next s' = Sees x.before (suc k) (views_from file x k) s (suc next) (views_from file x next) s'

abbrev pub Fails : List ℕ → Extent → (k open_level number at : ℕ) → Type 0
Fails file x k open_level number at = fault_from open_level (suc k) (views_from file x k) ≡ fault number at

-- what `walk_item` ensures of the data records behind the item at record k
pub record Item (file : List ℕ) (x : Extent) (k due : ℕ) (held : Data) (w : Walked) : Type 0 where
  pub fails : (w.number ≡ 0 → ⊥) → (open_level : ℕ) → walk open_level due held (suc k) (suc (suc k)) (views_from file x (k + 1)) ≡ fault w.number w.at
  pub passes : w.number ≡ 0 → Through held (suc k) due (suc (suc k)) (views_from file x (k + 1)) 0 (suc w.next) (views_from file x w.next)
  pub start : w.number ≡ 0 → k < w.next
  pub within : w.number ≡ 0 → w.next ≤ x.records

-- record k is a header that passes, one level below the open one
pub record HeaderAt (file : List ℕ) (x : Extent) (k open_level : ℕ) : Type 0 where
  pub well : fault_at open_level 0 nothing (view (record_at file x k)) ≡ 0
  pub header : is_head (view (record_at file x k)).kind ≡ true
  pub deep : (view (record_at file x k)).level ≡ suc open_level

-- the layers from record k on
abbrev pub layers_at : List ℕ → Extent → (k : ℕ) → List Layer
layers_at file x k = layers_from 0 (suc k) (views_from file x k)

-- one header or item a level below the open one, at record k, with all that belongs to it
pub record Child (file : List ℕ) (x : Extent) (k open_level : ℕ) (s : Seen) (w : WalkedGroup) : Type 0 where
  pub fails : (w.number ≡ 0 → ⊥) → Fails file x k open_level w.number w.at
  pub passes : w.number ≡ 0 → JoinsTo file x k open_level w.next open_level w.low
  pub sees : w.number ≡ 0 → SeesTo file x k s w.next w.seen
  pub seen_then : w.number ≡ 0 → SeenUpTo w.next w.seen
  pub further : w.number ≡ 0 → k < w.next
  pub within : w.number ≡ 0 → w.next ≤ x.records
  pub counts : w.number ≡ 0 → (kind : ℕ) → count_under open_level kind (entries (views_from file x k)) ≡ cond (eqb (count_index (view (record_at file x k)).kind) kind) 1 0 + count_under open_level kind (entries (views_from file x w.next))
  pub layers : w.number ≡ 0 → open_level ≡ 0 → layers_at file x k ≡ record { header = suc k; body = layer_body 0 (views_from file x (k + 1)) } ∷ layers_at file x w.next

-- what `walk_body` ensures: all that stands below the open level from record k on. It stops at a record that the level above may hold, or
-- at the end
pub record Body (file : List ℕ) (x : Extent) (k open_level : ℕ) (s : Seen) (w : WalkedBody) : Type 0 where
  pub fails : (w.number ≡ 0 → ⊥) → Fails file x k open_level w.number w.at
  pub passes : w.number ≡ 0 → JoinsTo file x k open_level w.next (open_level - 1) w.low
  pub sees : w.number ≡ 0 → SeesTo file x k s w.next w.seen
  pub seen_then : w.number ≡ 0 → SeenUpTo w.next w.seen
  pub onward : w.number ≡ 0 → k ≤ w.next
  pub within : w.number ≡ 0 → w.next ≤ x.records
  pub counts : w.number ≡ 0 → fault_from (open_level - 1) (suc w.next) (views_from file x w.next) ≡ none → (kind : ℕ) → count_under open_level kind (entries (views_from file x k)) ≡ get_or w.tally kind 0

-- what `walk_layers` ensures of all that stands from record k on: as a body at open level 0, which only the end ends
pub record WholeBody (file : List ℕ) (x : Extent) (k : ℕ) (w : WalkedLayers) : Type 0 where
  pub fails : (w.number ≡ 0 → ⊥) → Fails file x k 0 w.number w.at
  pub passes : w.number ≡ 0 → JoinsTo file x k 0 x.records 0 w.low
  pub sees : w.number ≡ 0 → SeesTo file x k (seen_none k) x.records w.seen
  pub seen_then : w.number ≡ 0 → SeenUpTo x.records w.seen

-- numbers put into a list from place k on
abbrev pub put_in : List ℕ → (k : ℕ) → List ℕ → List ℕ
put_in kept k [] = kept
put_in kept k (n ∷ ns) = put_in (set kept k n) (suc k) ns

-- what is listed of layer n, counted from 0, kept where there is room for it
unfoldable pub kept_in : Edition → List ℕ → (n : ℕ) → (numbers : List ℕ) → List ℕ
kept_in e kept n numbers = cond (ltb n (kept_layers e)) (put_in kept (per_layer e * n) numbers) kept

-- and of the layers against the records of a directory
pub record Listing (file : List ℕ) (x : Extent) (k : ℕ) (directory : List (List ℕ)) (e : Edition) (layers unlisted : ℕ) (first-numbers : List ℕ) : Type 0 where
  pub count : layers ≡ length (layers_at file x k)
  pub first_is : unlisted ≡ first_unlisted e directory 0 (layers_at file x k)
  pub kept : first-numbers ≡ first_numbers e (kept_layers e) (layers_at file x k)

-- what `walk_layers` ensures, too, of the layers against the records of a directory
pub record WholeListed (file : List ℕ) (x : Extent) (k : ℕ) (directory : List (List ℕ)) (e : Edition) (w : WalkedLayers) : Type 0 where
  pub whole : WholeBody file x k w
  pub listing : w.number ≡ 0 → Listing file x k directory e w.layers w.unlisted w.first_numbers

-- a sheet, by what its sheet part came to
abbrev pub body_of : List ℕ → Extent → SheetPart → File
body_of file x part = record { part_length = part.length; stated_elements = part.stated_elements; stated_records = part.stated_records; body = views_from file x part.length }

-- the record of its two counts where they differ
unfoldable pub wrong_sheet_of : SheetPart → (found records : ℕ) → Option ℕ
wrong_sheet_of part found records = cond (eqb part.stated_elements found && eqb part.stated_records records) None (Some 2)

-- ---- What stands before the place, by the last header or item there: that it has so many data records, and what it opens
unfoldable pub due_of_entry : Entry → ℕ
due_of_entry e = cond (eqb e.kind 0) 0 e.data_records

unfoldable pub open_of_entry : Entry → ℕ
open_of_entry e = cond (eqb e.kind 0) e.level (e.level - 1)

-- how many records stand before the place, or before the end where that comes first
unfoldable pub place_in : Extent → ℕ
place_in x = cond (ltb x.before x.records) x.before x.records

abbrev pub sheet_with : SheetPart → (due open_level : ℕ) → Seen → Sheet
sheet_with part due open_level seen = record { fault = 0; at = 0; items = seen.items; part = part.length; unit = part.unit; corners = part.corners; due = due; open_level = open_level; start = seen.start; headers = seen.headers }

-- what the walk of a body that nothing is wrong with leaves to say
pub record Stands (file : List ℕ) (x : Extent) (part : SheetPart) (s : Seen) : Type 0 where
  pub judged : judge (body_of file x part) ≡ accepted x.records s.items
  pub start_is : s.start ≡ start_before (body_of file x part) x.before
  pub headers_are : s.headers ≡ values 9 0 (header_before (body_of file x part) x.before)

abbrev pub standing_sheet : List ℕ → Extent → SheetPart → Seen → Sheet
standing_sheet file x part s = accepted_sheet s.items part.unit part.corners (body_of file x part) x.before

-- what opening answers of a body
abbrev pub body_sheet : List ℕ → Extent → SheetPart → Sheet
body_sheet file x part = sheet_for (judge (body_of file x part)) part.unit part.corners (body_of file x part) x.before

-- a sheet that is opened against a directory: how many layers it has, the first of them, counted from 1, that the directory does not list, or 0, and what one
-- of its edition lists of the first ones
pub record Against : Type 0 where
  pub sheet : Sheet
  pub layers : ℕ
  pub unlisted : ℕ
  pub first_numbers : List ℕ

abbrev pub against_said : Result Opening.Against.Against Refusal → Against
against_said (Ok a) = record { sheet = sheet_said (Ok a.sheet); layers = a.layers; unlisted = unlisted_said a.unlisted; first_numbers = a.first_numbers }
against_said (Err r) = record { sheet = refused_sheet (refusal_number r.reason) r.at; layers = 0; unlisted = 0; first_numbers = [] }

-- the same against the records of a directory
pub record BodyAgainst (file : List ℕ) (x : Extent) (part : SheetPart) (directory : List (List ℕ)) (e : Edition) (r : Against) : Type 0 where
  pub sheet_is : r.sheet ≡ body_sheet file x part
  pub listing : r.sheet.fault ≡ 0 → Listing file x part.length directory e r.layers r.unlisted r.first_numbers

pub record OpenedAgainst (records : List (List ℕ)) (before : ℕ) (directory : List (List ℕ)) (e : Edition) (r : Against) : Type 0 where
  pub sheet_is : r.sheet ≡ records_sheet records before
  pub count : r.sheet.fault ≡ 0 → r.layers ≡ length (layers_of records)
  pub first_is : r.sheet.fault ≡ 0 → r.unlisted ≡ first_unlisted e directory 0 (layers_of records)
  pub kept : r.sheet.fault ≡ 0 → r.first_numbers ≡ first_numbers e (kept_layers e) (layers_of records)
