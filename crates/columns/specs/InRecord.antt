-- A column inside a record: what it says, whether it is blank, and the record with a number written into it. Assumes nothing.
use Rattle.std.specs.Prelude.{Bool, true, false, cond, ◌&&◌, List, ℕ, ◌+◌, leb, ℤ, length}
use Rattle.format.specs.Text.{same}
use Rattle.format.specs.declared.Column.{Column}
use Rattle.format.specs.declared.Column.TheVariants.{Malformed}
use Rattle.format.specs.Column.{column_of, number_of, fits, written, width_ok}
use Rattle.format.specs.Layout.{column, splice, spaces}

-- what the column of `width` bytes from `start` of a record r says. No column is wider than 18; one wider, or not whole inside the
-- record, is malformed
unfoldable pub column_at : List ℕ → ℕ → ℕ → Column
column_at r start width =
    cond (leb width 18 && leb (start + width) (length r)) (column_of (column start width r)) Malformed

-- its number, if it is one of at least 0; else 0
unfoldable pub number_in : List ℕ → (start width : ℕ) → ℕ
number_in r start width = number_of (column_at r start width)

-- that column is of spaces alone, of any width; not so where it is not whole inside the record
unfoldable pub spaces_at : List ℕ → ℕ → ℕ → Bool
spaces_at r start width = leb (start + width) (length r) && spaces (column start width r)

-- whether the number was written, and all bytes of the record afterwards
pub record Rewritten : Type 0 where
  pub done : Bool
  pub bytes : List ℕ

-- a record r with that column in written form. "number does not fit the width, width .. not allowed", or a column that is not whole
-- inside the record: nothing is written
unfoldable pub write_at : List ℕ → ℕ → ℕ → ℤ → Rewritten
write_at r start width z =
    cond (width_ok width && fits width z && leb (start + width) (length r))
    (record { done = true; bytes = splice start width (written width z) r })
    (record { done = false; bytes = r })

-- that column holds a number in written form: not so of a number that does not fit the width, of a width that is not allowed, or of a column that is not
-- whole inside the record
unfoldable pub is_written_at : List ℕ → ℕ → ℕ → ℤ → Bool
is_written_at r start width z = (width_ok width && fits width z && leb (start + width) (length r)) && same (column start width r) (written width z)
