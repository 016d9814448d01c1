-- Orders 5 and 13 once more, column by column and in the order of checks: by definitions of document 01 and by none of those that Directory adds, but for the form
-- of an answer (LayerEntry). That the calls answer so is proofs/Claims.antt. Assumes nothing.
use Rattle.std.specs.Prelude.{◌≡◌, Bool, true, not, ◌⊎◌, ◌≢◌, ◌↔◌, List, [], ◌∷◌, ◌++◌, ℕ, suc, pred, ◌+◌, ◌*◌, ◌/◌, ◌%◌, ◌≤◌, ◌<◌, ℤ, pos, length, take, drop, get_or}
use Rattle.format.specs.Basics.{Answer, given, refused, member, chunks, round_up}
use Rattle.format.specs.Column.{fits, written}
use Rattle.format.specs.Record.{is_head, View}
use Rattle.format.specs.Judge.{is_header_at, file_of, Counts, judge_sheet}
use Rattle.format.specs.Edit.{due_behind}
use Rattle.format_directory.specs.declared.Edition.{Edition}
use Rattle.format_directory.specs.declared.Edition.TheVariants.{One, Two}
use Rattle.format_directory.specs.Directory.{LayerEntry}

-- ---- What a directory lists
-- a record of a sheet of which something holds, where no data is due behind the records of the body that stand before it
pub record StandsAt (is : View → Bool) (records : List (List ℕ)) (number : ℕ) : Type 0 where
  pub before : List View
  pub entry : View
  pub behind : List View
  pub there : (file_of records).body ≡ before ++ entry ∷ behind
  pub none_due : due_behind 0 before ≡ 0
  pub holds : is entry ≡ true
  pub numbered : number ≡ (file_of records).part_length + suc (length before)

-- a layer header: a header of level 1
abbrev pub LayerHeader : (records : List (List ℕ)) → (number : ℕ) → Type 0
LayerHeader records number = StandsAt (is_header_at 1) records number

-- an item, "at any depth"
abbrev pub is_item : View → Bool
is_item r = not (is_head r.kind)

abbrev pub Item : (records : List (List ℕ)) → (number : ℕ) → Type 0
Item records number = StandsAt is_item records number

-- once and in order: numbers from `least` on, each above the one before it
abbrev pub Rising : (least : ℕ) → List ℕ → Type 0
Rising least [] = Unit {0}
Rising least (n ∷ ns) = (least ≤ n) × Rising (suc n) ns

-- "each layer's item total, at any depth, and last record", of the layer whose header has this number: no other layer header stands up to the last record, the next
-- layer's header or the end behind it; and so many items from the header to the last record
pub record Spans (records : List (List ℕ)) (header total last : ℕ) : Type 0 where
  pub low : header ≤ last
  pub own : (m : ℕ) → header < m → m ≤ last → LayerHeader records m → ⊥
  pub next : LayerHeader records (suc last) ⊎ (last ≡ length records)
  pub items : List ℕ
  pub each : (m : ℕ) → member m items ≡ true ↔ (Item records m × (header < m) × (m ≤ last))
  pub rising : Rising 0 items
  pub counted : total ≡ length items

abbrev pub AllSpan : (records : List (List ℕ)) → List LayerEntry → Type 0
AllSpan records [] = Unit {0}
AllSpan records (l ∷ ls) = Spans records l.header l.total l.last × AllSpan records ls

-- record k of a buffer, counted from 0, holds two letters, these numbers, "both I7", "in written form only", "and the rest spaces"
pub record Holds (buffer : List ℕ) (k first second : ℕ) (numbers : List ℕ) : Type 0 where
  pub first-letter : get_or buffer (84 * k) 0 ≡ first
  pub second_letter : get_or buffer (84 * k + 1) 0 ≡ second
  pub number : (i : ℕ) → i < length numbers → take 7 (drop (84 * k + (2 + 7 * i)) buffer) ≡ written 7 (pos (get_or numbers i 0))
  pub rest : (i : ℕ) → 2 + 7 * length numbers ≤ i → i < 84 → get_or buffer (84 * k + i) 0 ≡ 32

-- "Z " is 90, 32 and "ZE" 90, 69; "Y " is 89, 32 and "YE" 89, 69
abbrev pub letter : Edition → ℕ
letter One = 90
letter Two = 89

-- "each with up to eleven record numbers of layer headers"; "three I7 numbers a layer (header, total, last), up to three layers"
abbrev pub most : Edition → ℕ
most One = 11
most Two = 3

abbrev pub numbers_of : Edition → List LayerEntry → List ℕ
numbers_of e [] = []
numbers_of One (l ∷ ls) = l.header ∷ numbers_of One ls
numbers_of Two (l ∷ ls) = l.header ∷ l.total ∷ l.last ∷ numbers_of Two ls

-- "the number of the first "Z " record, or of "ZE" itself for no layers, and the layer count"; "back pointer, layer count and edition 2"
abbrev pub closing_numbers : Edition → (pointer count : ℕ) → List ℕ
closing_numbers One pointer count = pointer ∷ count ∷ []
closing_numbers Two pointer count = pointer ∷ count ∷ 2 ∷ []

-- the layers of each record: "Only the last "Z " record may hold fewer than eleven numbers, at least one"; and all of them in order
abbrev pub Full : (most : ℕ) → List (List LayerEntry) → Type 0
Full most [] = Unit {0}
Full most (ls ∷ []) = (1 ≤ length ls) × (length ls ≤ most)
Full most (ls ∷ next ∷ rest) = (length ls ≡ most) × Full most (next ∷ rest)

abbrev pub joined : List (List LayerEntry) → List LayerEntry
joined [] = []
joined (ls ∷ rest) = ls ++ joined rest

-- "exactly when it lists every layer header once, in order, and nothing else"; "exactly when all three numbers are right for each layer"
pub record ListsLayers (e : Edition) (used : ℕ) (buffer : List ℕ) (counts : Counts) : Type 0 where
  pub inside : used ≤ length buffer
  -- a sheet with these counts in front
  pub sheet : judge_sheet (84 * counts.records) buffer ≡ given counts
  -- behind it the records that list layers, with the layers of each
  pub layers : List (List LayerEntry)
  pub full : Full (most e) layers
  pub listing : (i : ℕ) → i < length layers → Holds buffer (counts.records + i) (letter e) 32 (numbers_of e (get_or layers i []))
  -- then the one that closes the directory, and nothing behind it
  pub closing : Holds buffer (counts.records + length layers) (letter e) 69 (closing_numbers e (suc counts.records) (length (joined layers)))
  pub used_is : used ≡ 84 * (counts.records + length layers + 1)
  -- "every layer header .. and nothing else"
  pub every : (number : ℕ) → member number (numbers_of One (joined layers)) ≡ true ↔ LayerHeader (chunks counts.records buffer) number
  -- "once, in order"
  pub rising : Rising 0 (numbers_of One (joined layers))
  -- total and last record of each; the second edition states them
  pub right : AllSpan (chunks counts.records buffer) (joined layers)

-- the sum of some layers' totals
abbrev pub totals : List LayerEntry → ℕ
totals [] = 0
totals (l ∷ ls) = l.total + totals ls

-- each layer ends before the next one's header, the last one before the record number `end`
abbrev pub Meet : (end : ℕ) → List LayerEntry → Type 0
Meet end [] = Unit {0}
Meet end (l ∷ []) = suc l.last ≡ end
Meet end (l ∷ next ∷ ls) = (suc l.last ≡ next.header) × Meet end (next ∷ ls)

-- ---- The order of checks
-- "1 tests the used length against 0, the buffer and 84 only"
abbrev pub UsedFails : (used : ℕ) → List ℕ → Type 0
UsedFails used buffer = (used ≡ 0) ⊎ (length buffer < used) ⊎ (used % 84 ≢ 0)

-- so many columns stand in the closing record behind its pointer: the layer count, and the second edition's own number
abbrev pub besides : Edition → ℕ
besides One = 1
besides Two = 2

-- the last record is "a well-formed "ZE" whose pointer lies from 1 to its own number": its other columns are any numbers
pub record ClosedBy (e : Edition) (used : ℕ) (buffer : List ℕ) (pointer : ℕ) : Type 0 where
  pub first-letter : get_or buffer (84 * pred (used / 84)) 0 ≡ letter e
  pub second_letter : get_or buffer (84 * pred (used / 84) + 1) 0 ≡ 69
  pub pointer_written : take 7 (drop (84 * pred (used / 84) + 2) buffer) ≡ written 7 (pos pointer)
  pub pointer_fits : fits 7 (pos pointer) ≡ true
  pub others : List ℤ
  pub others-count : length others ≡ besides e
  pub others-written : (i : ℕ) → i < length others → take 7 (drop (84 * pred (used / 84) + (9 + 7 * i)) buffer) ≡ written 7 (get_or others i (pos 0))
  pub others-fit : (i : ℕ) → i < length others → fits 7 (get_or others i (pos 0)) ≡ true
  pub rest : (i : ℕ) → 9 + 7 * besides e ≤ i → i < 84 → get_or buffer (84 * pred (used / 84) + i) 0 ≡ 32
  pub low : 1 ≤ pointer
  pub high : pointer ≤ used / 84

-- "with the first record that differs from the right directory": of a file with the same sheet that has one, the records before this number are the file's, and those
-- up to it are not
pub record DiffersAt (e : Edition) (used : ℕ) (buffer : List ℕ) (counts : Counts) (at : ℕ) : Type 0 where
  pub right : List ℕ
  pub lists : ListsLayers e (length right) right counts
  pub same-sheet : chunks counts.records right ≡ chunks counts.records buffer
  pub before : take (pred at) (chunks (length right / 84) right) ≡ take (pred at) (chunks (used / 84) buffer)
  pub other : take at (chunks (length right / 84) right) ≢ take at (chunks (used / 84) buffer)

-- the refusals of a sheet with a directory of one edition, in their order
pub data DirectoryRefusal (e : Edition) (used : ℕ) (buffer : List ℕ) (number at : ℕ) : Type 0 where
  wrong_length : UsedFails used buffer → number ≡ 1 → at ≡ 0 → DirectoryRefusal e used buffer number at
  wrong_closing : (UsedFails used buffer → ⊥) → ((pointer : ℕ) → ClosedBy e used buffer pointer → ⊥) → number ≡ 19 → at ≡ used / 84 → DirectoryRefusal e used buffer number at
  wrong_sheet : (UsedFails used buffer → ⊥) → (pointer : ℕ) → ClosedBy e used buffer pointer → judge_sheet (84 * pred pointer) buffer ≡ refused number at → DirectoryRefusal e used buffer number at
  wrong_directory : (UsedFails used buffer → ⊥) → (pointer : ℕ) → ClosedBy e used buffer pointer → (counts : Counts) → judge_sheet (84 * pred pointer) buffer ≡ given counts → number ≡ 19 → DiffersAt e used buffer counts at → DirectoryRefusal e used buffer number at

-- the last record "starts "YE"", and "its edition column" is "2 in written form"
abbrev pub StartsYE : (used : ℕ) → List ℕ → Type 0
StartsYE used buffer = (get_or buffer (84 * pred (used / 84)) 0 ≡ 89) × (get_or buffer (84 * pred (used / 84) + 1) 0 ≡ 69)

abbrev pub StatesTwo : (used : ℕ) → List ℕ → Type 0
StatesTwo used buffer = take 7 (drop (84 * pred (used / 84) + 16) buffer) ≡ written 7 (pos 2)

-- the refusals of the new calls: 27 "directly after 1", then those of the edition that the last record names
pub data EitherRefusal (used : ℕ) (buffer : List ℕ) (number at : ℕ) : Type 0 where
  either_length : UsedFails used buffer → number ≡ 1 → at ≡ 0 → EitherRefusal used buffer number at
  wrong_edition : (UsedFails used buffer → ⊥) → StartsYE used buffer → (StatesTwo used buffer → ⊥) → number ≡ 27 → at ≡ used / 84 → EitherRefusal used buffer number at
  of_first : (UsedFails used buffer → ⊥) → (StartsYE used buffer → ⊥) → DirectoryRefusal One used buffer number at → EitherRefusal used buffer number at
  of_second : (UsedFails used buffer → ⊥) → StartsYE used buffer → StatesTwo used buffer → DirectoryRefusal Two used buffer number at → EitherRefusal used buffer number at

-- of an append: "the sheet's own", then 15 for a buffer without room for a record for each eleven layers, or three, and one more; so many layers has the sheet
pub data AppendRefusal (e : Edition) (used : ℕ) (buffer : List ℕ) (layers number at : ℕ) : Type 0 where
  own_refusal : judge_sheet used buffer ≡ refused number at → AppendRefusal e used buffer layers number at
  no_room : (counts : Counts) → judge_sheet used buffer ≡ given counts → length buffer < used + 84 * (round_up layers (most e) + 1) → number ≡ 15 → at ≡ 0 → AppendRefusal e used buffer layers number at

-- what an append leaves: the sheet, behind it a directory that lists its layers, "bytes past that stay"
pub record Appended (e : Edition) (used : ℕ) (buffer : List ℕ) (new : ℕ) (after : List ℕ) : Type 0 where
  pub counts : Counts
  pub sheet : judge_sheet used buffer ≡ given counts
  pub same_length : length after ≡ length buffer
  pub front : take used after ≡ take used buffer
  pub behind : drop new after ≡ drop new buffer
  pub lists : ListsLayers e new after counts

-- ---- Jumping
-- "what counting from the front gives": the header of layer n, counted from 1, has this number, and one less than n stand before it
pub record NthHeader (records : List (List ℕ)) (n number : ℕ) : Type 0 where
  pub header : LayerHeader records number
  pub before : List ℕ
  pub each : (m : ℕ) → member m before ≡ true ↔ (LayerHeader records m × (m < number))
  pub rising : Rising 0 before
  pub counted : n ≡ suc (length before)

-- "with total and last beside them, both 0 for edition 1"
abbrev pub NthLayer : Edition → (records : List (List ℕ)) → (n : ℕ) → LayerEntry → Type 0
NthLayer One records n l = NthHeader records n l.header × (l.total ≡ 0) × (l.last ≡ 0)
NthLayer Two records n l = NthHeader records n l.header × Spans records l.header l.total l.last

-- the header alone of what a new jump answers
abbrev pub header_of : Answer LayerEntry → Answer ℕ
header_of (given l) = given l.header
header_of (refused number at) = refused number at
