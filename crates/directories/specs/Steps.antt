-- The steps of the code: a record's letters and spaces, the first record that differs, the layers from a record on, and records put behind a sheet. Public
-- functions cite nothing of this. Assumes nothing.
use Rattle.std.specs.Prelude.{◌≡◌, Bool, true, false, cond, ◌&&◌, Option, Some, None, Result, Ok, Err, List, [], ◌∷◌, ◌++◌, map, ℕ, suc, ◌+◌, ◌-◌, ◌*◌, ◌/◌, ◌%◌, ◌≤◌, ◌<◌, min, ltb, eqb, pos, length, take, drop, get_or}
use Rattle.format.specs.Text.{same}
use Rattle.format.specs.declared.Reason.{Reason}
use Rattle.format.specs.declared.Refusal.{Refusal}
use Rattle.format.specs.Reasons.{refusal_for}
use Rattle.format.specs.Answers.{refused_by}
use Rattle.format.specs.Basics.{Answer, given, Fault, none, fault, chunks, flat}
use Rattle.format.specs.Column.{written}
use Rattle.format.specs.Layout.{column, spaces, splice}
use Rattle.format.specs.Record.{View, view}
use Rattle.format.specs.Judge.{Counts, headers_and_items, items}
use Rattle.format_directory.specs.declared.Edition.{Edition}
use Rattle.format_directory.specs.declared.Edition.TheVariants.{One, Two}
use Rattle.format_directory.specs.Directory.{Layer, layer_body, layers_from, layers_of, records_before, end_letters, end_columns, end_listed, listed, per_layer, per_record, row, shared, directory_of, last_record, number_in, is_written, pointer_in, layer_count, differs, judge_from, judge_directory, edition_of, edition_ok, judge_either_edition}
use Rattle.format_directory.proofs.DirectoryRecords.{AllFit}
use Rattle.format_directory.proofs.DirectoryJudged.{RightDirectory}
use Rattle.files.specs.declared.Stride.TheVariants.{Plain}
use Rattle.files.specs.Records.{records_of}
use Rattle.directory_columns.specs.declared.LayerNumbers.{LayerNumbers}
use Rattle.directory_columns.specs.Numbers.{numbers_are, listed_of}
use Rattle.judge.specs.Listed.{first_unlisted, first_numbers, kept_layers, unlisted_said}
use Rattle.records.specs.Outline.{Outline}
use Rattle.directories.specs.declared.Found.{Found}
use Rattle.directories.specs.declared.writing.Row.{Row}
use Rattle.directories.specs.declared.writing.Passed.{Passed}

-- ---- One record
-- a record of 84 bytes: two letters, so many columns of seven bytes, and spaces behind them
unfoldable pub framed : (letters : List ℕ) → (columns : ℕ) → List ℕ → Bool
framed letters columns r = eqb (length r) 84 && (same (take 2 r) letters && spaces (drop (2 + 7 * columns) r))

-- the columns of a closing record behind its pointer are in written form
abbrev pub others_written : Edition → List ℕ → Bool
others_written One r = is_written (column (2 + 7 * 1) 7 r)
others_written Two r = is_written (column (2 + 7 * 1) 7 r) && is_written (column (2 + 7 * 2) 7 r)

unfoldable pub closing_is : Edition → (pointer count : ℕ) → List ℕ → Bool
closing_is e pointer count r = framed (end_letters e) (end_columns e) r && numbers_are r 0 (end_listed e pointer count)

-- ---- The first record that differs, counted from 0
abbrev pub right_rows : Edition → (rows : ℕ) → (unlisted : Option ℕ) → ℕ
right_rows e rows (Some n) = n / per_record e
right_rows e rows None = rows

abbrev pub in_row : Edition → (layers i : ℕ) → ℕ
in_row e layers i = min (layers - per_record e * i) (per_record e)

abbrev pub behind_rows : Edition → (directory : List (List ℕ)) → (pointer layers rows : ℕ) → Option ℕ
behind_rows e directory pointer layers rows =
    cond (closing_is e pointer layers (get_or directory rows [])) (cond (ltb (rows + 1) (length directory)) (Some (rows + 1)) None) (Some rows)

abbrev pub difference_at : (different : Option ℕ) → (number : ℕ) → Fault
difference_at None number = none
difference_at (Some i) number = fault 19 (number + i)

-- some layers are so many, this is the first of them that the directory does not list, and seven digits hold their numbers
pub record Against (directory : List (List ℕ)) (e : Edition) (pointer layers : ℕ) (unlisted : Option ℕ) (ls : List Layer) : Type 0 where
  pub count : layers ≡ length ls
  pub first_is : unlisted_said unlisted ≡ first_unlisted e directory 0 ls
  pub fit : AllFit ls
  pub small : pointer < 10000000

-- the first record that differs from the right directory of any such layers
abbrev pub FirstDifferent : (directory : List (List ℕ)) → Edition → (pointer layers : ℕ) → (unlisted different : Option ℕ) → Type 0
FirstDifferent directory e pointer layers unlisted different = (ls : List Layer) → Against directory e pointer layers unlisted ls → differs pointer directory (directory_of e pointer ls) ≡ difference_at different pointer

-- ---- A sheet with its directory
-- the edition that the last record names
abbrev pub EditionNamed : (last : List ℕ) → (number : ℕ) → Result Edition Refusal → Type 0
EditionNamed last number (Ok e) = (edition_ok last ≡ true) × (e ≡ edition_of last)
EditionNamed last number (Err w) = (edition_ok last ≡ false) × (w ≡ refusal_for Reason.Edition number)

abbrev pub found_counts : Found → Counts
found_counts f = record { records = f.pointer - 1; items = f.items }

-- from a pointer on
pub record FromPointer (e : Edition) (pointer used : ℕ) (buffer : List ℕ) (f : Found) : Type 0 where
  pub answer_is : given (found_counts f) ≡ judge_from e pointer used buffer
  pub edition_is : f.edition ≡ e
  pub pointer_is : f.pointer ≡ pointer
  pub count_is : f.layers ≡ length (layers_of (records_before pointer buffer))

abbrev pub FoundFrom : Edition → (pointer used : ℕ) → (buffer : List ℕ) → Result Found Refusal → Type 0
FoundFrom e pointer used buffer (Ok f) = FromPointer e pointer used buffer f
FoundFrom e pointer used buffer (Err w) = refused_by w ≡ judge_from e pointer used buffer

-- in a whole file
pub record Behind (used : ℕ) (buffer : List ℕ) (f : Found) : Type 0 where
  pub pointer_is : f.pointer ≡ pointer_in (last_record used buffer)
  pub count_is : f.layers ≡ layer_count (last_record used buffer)
  pub right : RightDirectory f.edition used buffer (found_counts f)

-- that is judged so, by this edition
pub record FoundRight (answer : Answer Counts) (e : Edition) (used : ℕ) (buffer : List ℕ) (f : Found) : Type 0 where
  pub answer_is : given (found_counts f) ≡ answer
  pub edition_is : f.edition ≡ e
  pub behind : Behind used buffer f

abbrev pub FoundAs : (answer : Answer Counts) → Edition → (used : ℕ) → (buffer : List ℕ) → Result Found Refusal → Type 0
FoundAs answer e used buffer (Ok f) = FoundRight answer e used buffer f
FoundAs answer e used buffer (Err w) = refused_by w ≡ answer

-- by the first edition, and by the one that the last record names
abbrev pub FoundFirst : (used : ℕ) → (buffer : List ℕ) → Result Found Refusal → Type 0
FoundFirst used buffer r = FoundAs (judge_directory used buffer) One used buffer r

abbrev pub FoundEither : (used : ℕ) → (buffer : List ℕ) → Result Found Refusal → Type 0
FoundEither used buffer r = FoundAs (judge_either_edition used buffer) (edition_of (last_record used buffer)) used buffer r

-- number i of a layer, counted from 1, stands in a record of the file
pub record Reaches (used : ℕ) (buffer : List ℕ) (r : Found) (layer i : ℕ) : Type 0 where
  pub inside : used ≤ length buffer
  pub low : 1 ≤ r.pointer
  pub some : 1 ≤ layer
  pub there : r.pointer - 1 + (layer - 1) / per_record r.edition < used / 84
  pub own : i < per_layer r.edition

unfoldable pub number_for : (used : ℕ) → (buffer : List ℕ) → Found → (layer i : ℕ) → ℕ
number_for used buffer r layer i =
    number_in (per_layer r.edition * ((layer - 1) % per_record r.edition) + i) (get_or (chunks (used / 84) buffer) (r.pointer - 1 + (layer - 1) / per_record r.edition) [])

-- ---- The layers of a file's records from record k on, where a header or an item is due
unfoldable pub views_in : List ℕ → (k : ℕ) → List View
views_in file k = map view (drop k (records_of Plain file))

abbrev pub layers_in : List ℕ → (k : ℕ) → List Layer
layers_in file k = layers_from 0 (suc k) (views_in file k)

abbrev pub is_layer : Outline → Bool
is_layer o = eqb o.kind 0 && eqb o.level 1

abbrev pub item_of : Outline → ℕ
item_of o = cond (eqb o.kind 0) 0 1

abbrev pub behind_entry : Outline → (k : ℕ) → ℕ
behind_entry o k = cond (eqb o.kind 0) (k + 1) (k + 1 + o.data_records)

-- from record k on the layers begin at another, and between them stand so many items
pub record NextLayer (file : List ℕ) (k : ℕ) (r : Passed) : Type 0 where
  pub within : r.next ≤ length (records_of Plain file)
  pub found : r.next < length (records_of Plain file) → layers_in file k ≡ record { header = suc r.next; body = layer_body 0 (views_in file (r.next + 1)) } ∷ layers_in file (r.next + 1)
  pub none_left : length (records_of Plain file) ≤ r.next → layers_in file k ≡ []
  pub body_long : k ≤ length (records_of Plain file) → k + length (layer_body 0 (views_in file k)) ≡ r.next
  pub items_are : items (headers_and_items 0 (layer_body 0 (views_in file k))) ≡ r.items

-- the record from which the layers behind one with these numbers are looked for
abbrev pub behind_layer : Edition → LayerNumbers → ℕ
behind_layer One n = n.header
behind_layer Two n = n.last

-- these numbers have at most seven digits, as far as the edition lists them
abbrev pub SmallNumbers : Edition → LayerNumbers → Type 0
SmallNumbers One n = n.header ≤ 9999999
SmallNumbers Two n = (n.header ≤ 9999999) × (n.total ≤ 9999999) × (n.last ≤ 9999999)

-- the first layer from record k on, by what is listed of it, and those behind it
pub record FirstLayer (file : List ℕ) (e : Edition) (k : ℕ) (n : LayerNumbers) : Type 0 where
  pub layer : Layer
  pub split : layers_in file k ≡ layer ∷ layers_in file (behind_layer e n)
  pub numbers_are_lem : listed_of e n ≡ listed e layer

abbrev pub LayerFrom : (file : List ℕ) → Edition → (k : ℕ) → Option LayerNumbers → Type 0
LayerFrom file e k (Some n) = FirstLayer file e k n
LayerFrom file e k None = layers_in file k ≡ []

-- what is listed of a file's first layers, where so many layers stand before record k
pub record Kept (file : List ℕ) (e : Edition) (first : List ℕ) (before k : ℕ) : Type 0 where
  pub part : ℕ
  pub are : first ≡ first_numbers e (kept_layers e) (layers_in file part)
  pub left : layers_in file k ≡ drop before (layers_in file part)

-- numbers written into the columns of a record from k on
abbrev pub numbers_put : (k : ℕ) → List ℕ → List ℕ → List ℕ
numbers_put k [] r = r
numbers_put k (n ∷ ns) r = numbers_put (suc k) ns (splice (2 + 7 * k) 7 (written 7 (pos n)) r)

unfoldable pub layer_put : Edition → (before : ℕ) → LayerNumbers → List ℕ → List ℕ
layer_put e before n r = numbers_put (per_layer e * before) (listed_of e n) r

-- what is listed of a sheet's first layers, in a buffer, where its body starts behind `part` records
abbrev pub FirstKept : Edition → (used part : ℕ) → (first buffer : List ℕ) → Type 0
FirstKept e used part first buffer = first ≡ first_numbers e (kept_layers e) (layers_in (take used buffer) part)

pub record RowFrom (file : List ℕ) (e : Edition) (k : ℕ) (r : Row) : Type 0 where
  pub bytes_are : r.bytes ≡ row e (take (per_record e) (layers_in file k))
  pub left : layers_in file r.next ≡ drop (per_record e) (layers_in file k)

-- ---- Records put behind a sheet
unfoldable pub rows_put : Edition → (used k rows : ℕ) → (buffer : List ℕ) → List ℕ
rows_put e used k rows buffer = (take used buffer ++ flat (map (row e) (shared (per_record e) rows (layers_in (take used buffer) k)))) ++ drop (used + 84 * rows) buffer

unfoldable pub directory_put : Edition → (used part : ℕ) → (buffer : List ℕ) → List ℕ
directory_put e used part buffer =
    take used buffer ++ (flat (directory_of e (suc (used / 84)) (layers_in (take used buffer) part)) ++ drop (used + 84 * length (directory_of e (suc (used / 84)) (layers_in (take used buffer) part))) buffer)
