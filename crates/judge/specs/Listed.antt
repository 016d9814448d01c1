-- A sheet against the records of a directory: the verdict of judging, and of an accepted sheet the length of its sheet part, how many layers it has, and which
-- of them the directory is the first not to list with its numbers. Assumes nothing.
use Rattle.std.specs.Prelude.{Option, Some, None, Result, Ok, Err, List, [], ◌∷◌, ◌++◌, ℕ, zero, suc, ◌/◌, length, replicate}
use Rattle.format.specs.Basics.{Answer, given, refused, first, unless, chunks}
use Rattle.format.specs.Sheet.{part_length}
use Rattle.format.specs.Judge.{Counts, judge_sheet}
use Rattle.format_directory.specs.declared.Edition.{Edition}
use Rattle.format_directory.specs.declared.Edition.TheVariants.{One, Two}
use Rattle.format_directory.specs.Directory.{Layer, layers_of, listed, per_layer}
use Rattle.directory_columns.specs.Numbers.{lists_layer}
use Rattle.format.specs.Reasons.{refusal_number}
use Rattle.format.specs.declared.Refusal.{Refusal}
use Rattle.judge.specs.declared.ListedSheet as Declared

-- what opening a sheet against a directory comes to: number and record of the refusal, 0 and 0 for none; and its values
pub record ListedSheet : Type 0 where
  pub fault : ℕ
  pub at : ℕ
  pub items : ℕ
  pub part : ℕ
  pub layers : ℕ
  pub unlisted : ℕ
  pub first_numbers : List ℕ

-- the number, from 1, of the first of these layers that the directory does not list with its numbers, 0 where it lists every one; `before` layers stand before
-- these
abbrev pub first_unlisted : Edition → (directory : List (List ℕ)) → (before : ℕ) → List Layer → ℕ
first_unlisted e directory before [] = 0
first_unlisted e directory before (l ∷ ls) = first (unless (lists_layer e directory before (listed e l)) (suc before)) (first_unlisted e directory (suc before) ls)

-- what is listed of so many layers from the first on, 0 where there is none
abbrev pub first_numbers : Edition → (room : ℕ) → List Layer → List ℕ
first_numbers e zero ls = []
first_numbers e (suc room) [] = replicate (per_layer e) 0 ++ first_numbers e room []
first_numbers e (suc room) (l ∷ ls) = listed e l ++ first_numbers e room ls

-- so many layers are 33 numbers
abbrev pub kept_layers : Edition → ℕ
kept_layers One = 33
kept_layers Two = 11

-- "A refusal returns number and record only": no values
abbrev pub refused_listed : (number at : ℕ) → ListedSheet
refused_listed number at = record { fault = number; at = at; items = 0; part = 0; layers = 0; unlisted = 0; first_numbers = replicate 33 0 }

-- the number of a layer that the code counts from 0, 0 for none
abbrev pub unlisted_said : Option ℕ → ℕ
unlisted_said None = 0
unlisted_said (Some n) = suc n

-- the same as the code has it
abbrev pub listed_said : Result Declared.ListedSheet Refusal → ListedSheet
listed_said (Ok s) = record {
  fault = 0;
  at = 0;
  items = s.items;
  part = s.part;
  layers = s.layers;
  unlisted = unlisted_said s.unlisted;
  first_numbers = s.first_numbers;
}
listed_said (Err r) = refused_listed (refusal_number r.reason) r.at

abbrev pub listed_sheet : Edition → Answer Counts → (records directory : List (List ℕ)) → ListedSheet
listed_sheet e (given counts) records directory = record {
  fault = 0;
  at = 0;
  items = counts.items;
  part = part_length records;
  layers = length (layers_of records);
  unlisted = first_unlisted e directory 0 (layers_of records);
  first_numbers = first_numbers e (kept_layers e) (layers_of records);
}
listed_sheet e (refused number at) records directory = refused_listed number at

-- the sheet file in the first `used` bytes of a buffer
unfoldable pub listed_in : Edition → (used : ℕ) → (buffer : List ℕ) → (directory : List (List ℕ)) → ListedSheet
listed_in e used buffer directory = listed_sheet e (judge_sheet used buffer) (chunks (used / 84) buffer) directory
