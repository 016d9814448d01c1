-- Numbers in the records of a directory: whether they stand in their columns in written form, and whether those of a layer stand where they belong. Assumes
-- nothing.
use Rattle.std.specs.Prelude.{Bool, true, ◌&&◌, List, [], ◌∷◌, ℕ, suc, ◌+◌, ◌*◌, ◌/◌, ◌%◌, ◌^◌, eqb, ltb, leb, pos, length, drop, get_or}
use Rattle.format.specs.Text.{same}
use Rattle.format.specs.Layout.{column, spaces}
use Rattle.columns.specs.InRecord.{is_written_at}
use Rattle.format_directory.specs.declared.Edition.{Edition}
use Rattle.format_directory.specs.declared.Edition.TheVariants.{One, Two}
use Rattle.format_directory.specs.Directory.{per_layer, per_record}
use Rattle.directory_columns.specs.declared.LayerNumbers.{LayerNumbers}
use Rattle.directory_columns.specs.declared.PackedNumbers.{PackedNumbers}
use Rattle.directory_columns.specs.PackedColumns.{unpacked, packed_number}

-- a record has column k whole
unfoldable pub has_column : List ℕ → (k : ℕ) → Bool
has_column r k = ltb k 11 && leb (2 + 7 * k + 7) (length r)

-- 84 bytes, and from column k on spaces alone
unfoldable pub spaces_from : List ℕ → (k : ℕ) → Bool
spaces_from r k = eqb (length r) 84 && spaces (drop (2 + 7 * k) r)

-- column k holds the seven bytes of a packed number; none does of 256 ^ 7 or more
unfoldable pub column_is : List ℕ → (k p : ℕ) → Bool
column_is r k p = has_column r k && (ltb p (256 ^ 7) && same (column (2 + 7 * k) 7 r) (unpacked 7 p))

-- the columns from k on hold these
abbrev pub columns_are : List ℕ → (k : ℕ) → List ℕ → Bool
columns_are r k [] = true
columns_are r k (p ∷ ps) = column_is r k p && columns_are r (suc k) ps

-- column k of a record, from 0, of the eleven that it has behind its two letters, holds this number in written form
unfoldable pub number_is : List ℕ → (k number : ℕ) → Bool
number_is r k number = ltb k 11 && is_written_at r (2 + 7 * k) 7 (pos number)

-- these numbers stand in the columns from k on
abbrev pub numbers_are : List ℕ → (k : ℕ) → List ℕ → Bool
numbers_are r k [] = true
numbers_are r k (n ∷ ns) = number_is r k n && numbers_are r (suc k) ns

-- what is listed of a layer with these numbers
unfoldable pub listed_of : Edition → LayerNumbers → List ℕ
listed_of One n = n.header ∷ []
listed_of Two n = n.header ∷ n.total ∷ n.last ∷ []

-- a layer, counted from 0, by what is listed of it: in the record and the columns that the edition has for it
unfoldable pub lists_layer : Edition → (directory : List (List ℕ)) → (layer : ℕ) → (numbers : List ℕ) → Bool
lists_layer e directory layer numbers = numbers_are (get_or directory (layer / per_record e) []) (per_layer e * (layer % per_record e)) numbers

-- what is listed of a layer, as packed numbers
unfoldable pub packed_of : Edition → PackedNumbers → List ℕ
packed_of One n = n.header ∷ []
packed_of Two n = n.header ∷ packed_number n.total ∷ n.last ∷ []

-- a layer is listed by these: `lists_layer`, where they are its own (`lists-packed`)
unfoldable pub lists_packed : Edition → (directory : List (List ℕ)) → (layer : ℕ) → (numbers : List ℕ) → Bool
lists_packed e directory layer numbers = columns_are (get_or directory (layer / per_record e) []) (per_layer e * (layer % per_record e)) numbers
