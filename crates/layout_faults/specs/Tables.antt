-- The columns of a record against the rows of a table, as the code asks them, and what is asked of a layout beside its table. Private functions cite it;
-- that it ends in the record's fault is shown in proofs/Tables. Assumes nothing.
use Rattle.std.specs.Prelude.{Bool, true, cond, ◌&&◌, ◌||◌, List, [], ◌∷◌, ℕ, ℤ, Option, Some, None}
use Rattle.std.specs.Int.Signed.{le_z}
use Rattle.format.specs.Column.{formed, integer}
use Rattle.format.specs.Layout.{is_one, Col}
use Rattle.columns.specs.InRecord.{column_at, spaces_at}
use Rattle.layouts.specs.declared.Form.{Form}
use Rattle.layouts.specs.declared.Form.TheVariants.{Integer, IntegerOrSpaces, Blank}
use Rattle.layouts.specs.declared.TableColumn.{TableColumn}
use Rattle.layouts.specs.Tables.{listed, rule_of}

-- an integer or spaces
unfoldable pub integer_or_spaces : List ℕ → TableColumn → Bool
integer_or_spaces l c = formed (column_at l c.start c.width) || spaces_at l c.start c.width

-- a number lies between the least and the greatest
abbrev pub between : ℤ → ℤ → ℤ → Bool
between low high z = le_z low z && le_z z high

-- a column is well formed, by what stands in it: an integer; an integer or spaces; of a blank nothing is asked
abbrev pub formed_by : Form → List ℕ → TableColumn → Bool
formed_by Integer l c = formed (column_at l c.start c.width)
formed_by IntegerOrSpaces l c = integer_or_spaces l c
formed_by Blank l c = true

-- its number lies between its ends; only of an integer is it asked
abbrev pub between_by : Form → List ℕ → TableColumn → Bool
between_by Integer l c = between c.low c.high (integer (column_at l c.start c.width))
between_by IntegerOrSpaces l c = true
between_by Blank l c = true

-- whether a number is inside, or none where it is malformed: 5 before 6
abbrev pub inside_if : (formed inside : Bool) → Option Bool
inside_if formed inside = cond formed (Some inside) None

unfoldable pub integer_told : List ℕ → TableColumn → Option Bool
integer_told l c = inside_if (formed_by Integer l c) (between_by Integer l c)

unfoldable pub told : List ℕ → TableColumn → Option Bool
told l c = inside_if (formed_by c.form l c) (between_by c.form l c)

-- every column of a table
unfoldable pub formed_at : List ℕ → List TableColumn → Bool
formed_at l [] = true
formed_at l (c ∷ cs) = formed_by c.form l c && formed_at l cs

unfoldable pub between_at : List ℕ → List TableColumn → Bool
between_at l [] = true
between_at l (c ∷ cs) = between_by c.form l c && between_at l cs

unfoldable pub table_told : List ℕ → List TableColumn → Option Bool
table_told l table = inside_if (formed_at l table) (between_at l table)

-- the number of a column, 0 where it has none, is one of a list
unfoldable pub listed_at : List ℕ → ℕ → ℕ → List ℕ → Bool
listed_at l start width numbers = is_one (integer (column_at l start width)) numbers

-- what lists ask beside their ends
unfoldable pub all_listed : List Col → List ℕ → Bool
all_listed [] l = true
all_listed (c ∷ cs) l = listed (rule_of c.what) (integer (column_at l c.start c.width)) && all_listed cs l
