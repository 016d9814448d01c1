-- The columns of a record written again, as the code does it. Private functions cite it; that it ends in the normal form of the record is
-- shown in proofs/Layouts. Assumes nothing.
use Rattle.std.specs.Prelude.{Bool, true, cond, ◌&&◌, List, [], ◌∷◌, ℕ, ◌+◌, leb, take}
use Rattle.format.specs.Column.{integer}
use Rattle.format.specs.Layout.{What, Col, data_grid}
use Rattle.columns.specs.InRecord.{column_at, spaces_at, write_at}
use Rattle.layouts.specs.declared.Form.{Form}
use Rattle.layouts.specs.declared.TableColumn.{TableColumn}
use Rattle.layouts.specs.Tables.{is_numeric, tabled, table_of}

-- a column that may hold a number lies in a record and has a width that can be written; so does each one of a list
abbrev pub lies_at : What → (start width : ℕ) → Bool
lies_at what start width = cond (is_numeric what) (leb 1 width && (leb width 18 && leb (start + width) 84)) true

abbrev pub lies : Col → Bool
lies c = lies_at c.what c.start c.width

abbrev pub all_lie : List Col → Bool
all_lie [] = true
all_lie (c ∷ cs) = lies c && all_lie cs

-- one column: its integer, 0 where it has none, in written form
abbrev pub rewritten_at : List ℕ → (start width : ℕ) → List ℕ
rewritten_at r start width = (write_at r start width (integer (column_at r start width))).bytes

-- a column by its form: an integer; an integer or spaces, "seven spaces in the value column stay"; a blank stays
abbrev pub rewritten_as : List ℕ → (start width : ℕ) → Form → List ℕ
rewritten_as r start width Form.Integer = rewritten_at r start width
rewritten_as r start width Form.IntegerOrSpaces = cond (spaces_at r start width) r (rewritten_at r start width)
rewritten_as r start width Form.Blank = r

-- the columns of a table, one after another
unfoldable pub rewritten_all : List ℕ → List TableColumn → List ℕ
rewritten_all r [] = r
rewritten_all r (c ∷ cs) = rewritten_all (rewritten_as r c.start c.width c.form) cs

-- the first of twelve columns of seven bytes, in which points and heights lie alike
unfoldable pub first_sevens : (columns : ℕ) → List ℕ → List ℕ
first_sevens columns r = rewritten_all r (take columns (table_of (tabled data_grid)))
