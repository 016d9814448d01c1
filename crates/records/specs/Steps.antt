-- Steps of the code: the type of a record and of an element by a number, a column that has a number, the direction of a note. Private functions
-- alone cite these. Assumes nothing.
use Rattle.std.specs.Prelude.{◌≡◌, Bool, cond, ◌&&◌, List, [], ◌∷◌, ℕ, eqb, ℤ, pos, get_or}
use Rattle.std.specs.Int.Signed.{le_z}
use Rattle.format.specs.declared.Column.TheVariants.{Value}
use Rattle.format.specs.Basics.{minus}
use Rattle.format.specs.Record.{RecordType, H, E1, E2, E3, E4, E5, E6, E7, E8, G, T, other}
use Rattle.columns.specs.InRecord.{column_at, number_in}
use Rattle.records.specs.declared.TypeCode.{TypeCode}
use Rattle.records.specs.declared.TypeCode.TheVariants.{Header, Element, Grid, Net, Other}

-- a column that has a number of at least 0
abbrev pub Natural : List ℕ → (start width : ℕ) → Type 0
Natural l start width = column_at l start width ≡ Value (pos (number_in l start width))

abbrev pub code_of : RecordType → TypeCode
code_of H = Header
code_of E1 = Element 1
code_of E2 = Element 2
code_of E3 = Element 3
code_of E4 = Element 4
code_of E5 = Element 5
code_of E6 = Element 6
code_of E7 = Element 7
code_of E8 = Element 8
code_of G = Grid
code_of T = Net
code_of other = Other

-- the element's type by its number, 1 to 8
unfoldable pub element_type : ℕ → RecordType
element_type number = get_or (other ∷ E1 ∷ E2 ∷ E3 ∷ E4 ∷ E5 ∷ E6 ∷ E7 ∷ E8 ∷ []) number other

-- "A note direction is -45..45 when the first column is 0, -135..-45 when it is 1"
unfoldable pub direction_in : (writing : ℕ) → (direction : ℤ) → Bool
direction_in writing direction =
    cond (eqb writing 0)
    (le_z (minus 45) direction && le_z direction (pos 45))
    (le_z (minus 135) direction && le_z direction (minus 45))
