-- Order 5, a directory of layers at the end of a sheet: what is right, judging it, appending it, jumping by it; order 13, its second edition. Assumes nothing.
use Rattle.std.specs.Prelude.{Bool, true, false, cond, not, ◌&&◌, ◌||◌, List, [], ◌∷◌, ◌++◌, map, ℕ, zero, suc, pred, ◌+◌, ◌-◌, ◌*◌, ◌/◌, ◌%◌, leb, ltb, eqb, pos, length, take, drop, get_or, replicate}
use Rattle.format.specs.Text.{bytes, same}
use Rattle.format.specs.Basics.{Answer, given, refused, Outcome, unless, Fault, none, fault, or_else, to_fault, chunks, flat, round_up}
use Rattle.format.specs.Column.{column_of, formed, integer, number_of, written}
use Rattle.format.specs.Layout.{column, spaces}
use Rattle.format.specs.Record.{View}
use Rattle.format.specs.Judge.{due_after, headers_and_items, is_header_at, items, file_of, Counts, verdict, after_stage_one, judge_sheet}
use Rattle.format_directory.specs.declared.Edition.{Edition}
use Rattle.format_directory.specs.declared.Edition.TheVariants.{One, Two}

-- ---- The layers of a sheet, counted from the front
-- "A layer or group is a header followed by its body": the header's record number, and the records of the body
pub record Layer : Type 0 where
  pub header : ℕ
  pub body : List View

-- the records up to the next layer header; so many data records are due at first
abbrev pub layer_body : (due : ℕ) → List View → List View
layer_body due [] = []
layer_body zero (r ∷ rs) = cond (is_header_at 1 r) [] (r ∷ layer_body (due_after zero r) rs)
layer_body (suc due) (r ∷ rs) = r ∷ layer_body due rs

-- the layer that begins with a record of this number, if that is a layer header
abbrev pub layer_at : (number : ℕ) → View → (behind : List View) → List Layer
layer_at number r behind = cond (is_header_at 1 r) (record { header = number; body = layer_body 0 behind } ∷ []) []

-- the layers among the records from the one with this number on
abbrev pub layers_from : (due number : ℕ) → List View → List Layer
layers_from due number [] = []
layers_from zero number (r ∷ rs) = layer_at number r rs ++ layers_from (due_after zero r) (suc number) rs
layers_from (suc due) number (r ∷ rs) = layers_from due (suc number) rs

unfoldable pub layers_of : List (List ℕ) → List Layer
layers_of records = layers_from 0 (suc (file_of records).part_length) (file_of records).body

-- order 13: "each layer's item total, at any depth, and last record"
unfoldable pub total_of : Layer → ℕ
total_of layer = items (headers_and_items 0 layer.body)

unfoldable pub last_of : Layer → ℕ
last_of layer = layer.header + length layer.body

-- ---- What one edition of the directory has of its own
-- "records that start "Z "", "then one record "ZE""; "Edition 2 records start "Y "", "it ends in "YE""
abbrev pub letters : Edition → List ℕ
letters One = bytes "Z "
letters Two = bytes "Y "

abbrev pub end_letters : Edition → List ℕ
end_letters One = bytes "ZE"
end_letters Two = bytes "YE"

-- what is listed of a layer, and so many numbers these are: "record numbers of layer headers"; "three I7 numbers a layer (header, total, last)"
abbrev pub listed : Edition → Layer → List ℕ
listed One layer = layer.header ∷ []
listed Two layer = layer.header ∷ total_of layer ∷ last_of layer ∷ []

abbrev pub per_layer : Edition → ℕ
per_layer One = 1
per_layer Two = 3

-- so many layers to a record: "each with up to eleven"; "up to three layers"
abbrev pub per_record : Edition → ℕ
per_record One = 11
per_record Two = 3

-- "the number of the first "Z " record, or of "ZE" itself for no layers, and the layer count"; "back pointer, layer count and edition 2"; and so many columns
-- these are
abbrev pub end_listed : Edition → (pointer count : ℕ) → List ℕ
end_listed One pointer count = pointer ∷ count ∷ []
end_listed Two pointer count = pointer ∷ count ∷ 2 ∷ []

abbrev pub end_columns : Edition → ℕ
end_columns One = 2
end_columns Two = 3

-- ---- The right directory of some layers
-- "both I7"; "Columns are in written form only"
abbrev pub columns_of : List ℕ → List ℕ
columns_of [] = []
columns_of (n ∷ ns) = written 7 (pos n) ++ columns_of ns

-- a record: two letters, the numbers, "and the rest spaces"
abbrev pub record_of : (letters numbers : List ℕ) → List ℕ
record_of letters numbers = letters ++ (columns_of numbers ++ replicate (82 - 7 * length numbers) 32)

abbrev pub listed_all : Edition → List Layer → List ℕ
listed_all e [] = []
listed_all e (l ∷ ls) = listed e l ++ listed_all e ls

unfoldable pub row : Edition → List Layer → List ℕ
row e layers = record_of (letters e) (listed_all e layers)

unfoldable pub closing : Edition → (pointer count : ℕ) → List ℕ
closing e pointer count = record_of (end_letters e) (end_listed e pointer count)

-- "Only the last "Z " record may hold fewer than eleven numbers, at least one, with no gap before them", "fullness .. stay": so many layers to each of n records
abbrev pub shared : (each n : ℕ) → List Layer → List (List Layer)
shared each zero layers = []
shared each (suc n) layers = take each layers ∷ shared each n (drop each layers)

-- the records, where the first of them has the number `pointer`
unfoldable pub directory_of : Edition → (pointer : ℕ) → List Layer → List (List ℕ)
directory_of e pointer layers =
    map (row e) (shared (per_record e) (round_up (length layers) (per_record e)) layers) ++ (closing e pointer (length layers) ∷ [])

-- ---- Judging a sheet with its directory
-- "with directory, 1 tests the used length against 0, the buffer and 84 only"
abbrev pub used_ok : (used : ℕ) → List ℕ → Bool
used_ok used buffer = ltb 0 used && leb used (length buffer) && eqb (used % 84) 0

unfoldable pub last_record : (used : ℕ) → List ℕ → List ℕ
last_record used buffer = get_or (chunks (used / 84) buffer) (pred (used / 84)) []

-- number k of a record of the directory, k from 0
unfoldable pub number_in : (k : ℕ) → List ℕ → ℕ
number_in k r = number_of (column_of (column (2 + 7 * k) 7 r))

abbrev pub pointer_in : List ℕ → ℕ
pointer_in r = number_in 0 r

abbrev pub layer_count : List ℕ → ℕ
layer_count r = number_in 1 r

-- a column of seven is in written form; so are so many of them, and the rest is spaces
unfoldable pub is_written : List ℕ → Bool
is_written c = formed (column_of c) && same c (written 7 (integer (column_of c)))

abbrev pub are_written : (columns : ℕ) → List ℕ → Bool
are_written zero bs = spaces bs
are_written (suc columns) bs = is_written (take 7 bs) && are_written columns (drop 7 bs)

-- "a well-formed "ZE" whose pointer lies from 1 to its own number"
unfoldable pub closing_ok : Edition → (number : ℕ) → List ℕ → Bool
closing_ok e number r = same (take 2 r) (end_letters e) && are_written (end_columns e) (drop 2 r) && leb 1 (pointer_in r) && leb (pointer_in r) number

-- the records of "the sheet before the pointer", and those from the pointer on
abbrev pub records_before : (pointer : ℕ) → List ℕ → List (List ℕ)
records_before pointer buffer = chunks (pred pointer) buffer

abbrev pub records_from : (pointer used : ℕ) → List ℕ → List (List ℕ)
records_from pointer used buffer = drop (pred pointer) (chunks (used / 84) buffer)

-- "19, directory wrong, with the first record that differs from the right directory": the first of these records has this number
abbrev pub differs : (number : ℕ) → (directory right : List (List ℕ)) → Fault
differs number [] [] = none
differs number [] (y ∷ ys) = fault 19 number
differs number (x ∷ xs) [] = fault 19 number
differs number (x ∷ xs) (y ∷ ys) = or_else (to_fault (unless (same x y) 19) number) (differs (suc number) xs ys)

-- "then 1 to 10 on the sheet before the pointer; then 19 ..": "Accepted judging answers the sheet's records and items"
abbrev pub after_sheet : Answer Counts → Fault → Answer Counts
after_sheet (given counts) directory = verdict directory counts.records counts.items
after_sheet (refused number at) directory = refused number at

unfoldable pub judge_from : Edition → (pointer used : ℕ) → List ℕ → Answer Counts
judge_from e pointer used buffer =
    after_sheet (judge_sheet (84 * pred pointer) buffer)
    (differs pointer (records_from pointer used buffer) (directory_of e pointer (layers_of (records_before pointer buffer))))

-- "then 19 with the last record if that is no well-formed "ZE" .."
abbrev pub after_closing : Bool → (number : ℕ) → Answer Counts → Answer Counts
after_closing true number answer = answer
after_closing false number answer = refused 19 number

unfoldable pub judge_edition : Edition → (used : ℕ) → List ℕ → Answer Counts
judge_edition e used buffer =
    after_closing (closing_ok e (used / 84) (last_record used buffer)) (used / 84)
    (judge_from e (pointer_in (last_record used buffer)) used buffer)

unfoldable pub judge_directory : (used : ℕ) → List ℕ → Answer Counts
judge_directory used buffer = after_stage_one (used_ok used buffer) (judge_edition One used buffer)

-- ---- "Append to an accepted sheet": the sheet's own refusals, then 15
-- "an append the new used length; bytes past that stay"
abbrev pub append_to : Answer Counts → (used : ℕ) → List (List ℕ) → (buffer : List ℕ) → Outcome ℕ
append_to (given counts) used directory buffer =
    cond (leb (used + 84 * length directory) (length buffer))
    (record { answer = given (used + 84 * length directory); bytes = take used buffer ++ (flat directory ++ drop (used + 84 * length directory) buffer) })
    (record { answer = refused 15 0; bytes = buffer })
append_to (refused number at) used directory buffer = record { answer = refused number at; bytes = buffer }

unfoldable pub append_directory : Edition → (used : ℕ) → List ℕ → Outcome ℕ
append_directory e used buffer =
    append_to (judge_sheet used buffer) used (directory_of e (suc (used / 84)) (layers_of (chunks (used / 84) buffer))) buffer

-- ---- Jumping: the numbers as the directory has them
module _ {A : Type 0} where
  -- "then 17 for a layer outside the count, layers counted from 1"
  abbrev pub in_count : (count n : ℕ) → A → Answer A
  in_count count n found = cond (leb 1 n && leb n count) (given found) (refused 17 0)

  abbrev pub after_judging : Answer Counts → Answer A → Answer A
  after_judging (given counts) answer = answer
  after_judging (refused number at) answer = refused number at

-- of layer n, what is listed of it in place i, i from 0
abbrev pub listed_in : Edition → (directory : List (List ℕ)) → (n i : ℕ) → ℕ
listed_in e directory n i = number_in (per_layer e * (pred n % per_record e) + i) (get_or directory (pred n / per_record e) [])

-- the sheet and the directory of an accepted file
unfoldable pub sheet_in : (used : ℕ) → List ℕ → List (List ℕ)
sheet_in used buffer = records_before (pointer_in (last_record used buffer)) buffer

unfoldable pub directory_in : (used : ℕ) → List ℕ → List (List ℕ)
directory_in used buffer = records_from (pointer_in (last_record used buffer)) used buffer

unfoldable pub jump : (used : ℕ) → List ℕ → (n : ℕ) → Answer ℕ
jump used buffer n =
    after_judging (judge_directory used buffer) (in_count (layer_count (last_record used buffer)) n (listed_in One (directory_in used buffer) n 0))

-- what "counting from the front gives": layer n of a sheet, and the record number of its header. That `jump` answers this is `jump-counts`
-- of proofs/DirectoryJudged; `NthHeader` of DirectoryChecks says it without these layers
abbrev pub no_layer : Layer
no_layer = record { header = 0; body = [] }

abbrev pub layer_of : (records : List (List ℕ)) → (n : ℕ) → Layer
layer_of records n = get_or (layers_of records) (pred n) no_layer

unfoldable pub counted_header : (records : List (List ℕ)) → (n : ℕ) → Answer ℕ
counted_header records n = in_count (length (layers_of records)) n (layer_of records n).header

-- ---- Order 13: "The old calls stay and refuse it with 19 at the last record; new ones read both"
unfoldable pub is_second : List ℕ → Bool
is_second r = same (take 2 r) (end_letters Two)

-- the edition that a last record names by its letters
abbrev pub edition_of : List ℕ → Edition
edition_of r = cond (is_second r) Two One

-- "27 with the last record, when that starts "YE" but its edition column is not 2 in written form, tested directly after 1"
unfoldable pub edition_ok : List ℕ → Bool
edition_ok r = not (is_second r) || same (column 16 7 r) (written 7 (pos 2))

abbrev pub after_edition : Bool → (number : ℕ) → Answer Counts → Answer Counts
after_edition true number answer = answer
after_edition false number answer = refused 27 number

unfoldable pub judge_either_edition : (used : ℕ) → List ℕ → Answer Counts
judge_either_edition used buffer =
    after_stage_one (used_ok used buffer)
    (after_edition (edition_ok (last_record used buffer)) (used / 84) (judge_edition (edition_of (last_record used buffer)) used buffer))

-- "find the same headers, with total and last beside them, both 0 for edition 1"
pub record LayerEntry : Type 0 where
  pub header : ℕ
  pub total : ℕ
  pub last : ℕ

abbrev pub entry_in : Edition → (directory : List (List ℕ)) → (n : ℕ) → LayerEntry
entry_in One directory n = record { header = listed_in One directory n 0; total = 0; last = 0 }
entry_in Two directory n = record { header = listed_in Two directory n 0; total = listed_in Two directory n 1; last = listed_in Two directory n 2 }

unfoldable pub jump_either_edition : (used : ℕ) → List ℕ → (n : ℕ) → Answer LayerEntry
jump_either_edition used buffer n =
    after_judging (judge_either_edition used buffer)
    (in_count (layer_count (last_record used buffer)) n (entry_in (edition_of (last_record used buffer)) (directory_in used buffer) n))
