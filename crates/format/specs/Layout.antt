-- The nineteen layouts: each column's name, start and width, and what is judged in it. Assumes nothing.
use Rattle.std.specs.Prelude.{◌≡◌, refl, Bool, true, false, cond, not, ◌&&◌, ◌||◌, List, [], ◌∷◌, ◌++◌, ℕ, ◌+◌, leb, eqb, ℤ, pos, negsuc, nat_abs, length, take, drop}
use Prim.Native.String.{String}
use lib.Text.{eqt}
use Rattle.std.specs.Int.Signed.{le_z}
use Rattle.format.specs.Basics.{first, unless, member}
use Rattle.format.specs.Column.{column_of, formed, integer, number_of}

-- what an integer may be: of any sign; n or more; from n to m; from -n to n; one of a list. "at least 0 unless said"
pub data Rule : Type 0 where
  any_sign : Rule
  at_least : ℕ → Rule
  range : ℕ → ℕ → Rule
  within : ℕ → Rule
  one_of : List ℕ → Rule

abbrev pub natural : Rule
natural = at_least 0

abbrev pub is_one : ℤ → List ℕ → Bool
is_one (pos n) ns = member n ns
is_one (negsuc n) ns = false

abbrev pub inside : Rule → ℤ → Bool
inside any_sign z = true
inside (at_least n) z = le_z (pos n) z
inside (range n m) z = le_z (pos n) z && le_z z (pos m)
inside (within n) z = leb (nat_abs z) n
inside (one_of ns) z = is_one z ns

-- "A is text, X is blank; neither is judged here. I is an integer"; one column holds an integer of any sign or spaces
pub data What : Type 0 where
  text : What
  blank : What
  integral : Rule → What
  integral_or_spaces : What

pub record Col : Type 0 where
  pub name : String
  pub start : ℕ
  pub width : ℕ
  pub what : What

-- the kinds of columns as document 01 writes them: A8, X4, I5; and the one that holds an integer or spaces
abbrev pub A : (name : String) → (start width : ℕ) → Col
A name start width = record { name = name; start = start; width = width; what = text }

abbrev pub X : (start width : ℕ) → Col
X start width = record { name = ""; start = start; width = width; what = blank }

abbrev pub I : (name : String) → (start width : ℕ) → Rule → Col
I name start width rule = record { name = name; start = start; width = width; what = integral rule }

abbrev pub IorX : (name : String) → (start width : ℕ) → Col
IorX name start width = record { name = name; start = start; width = width; what = integral_or_spaces }

-- the bytes of a record from `start` on, `width` of them; and the record with other bytes there
unfoldable pub column : (start width : ℕ) → List ℕ → List ℕ
column start width r = take width (drop start r)

unfoldable pub splice : (start width : ℕ) → (new : List ℕ) → List ℕ → List ℕ
splice start width new r = take start r ++ (new ++ drop (start + width) r)

-- spaces alone
abbrev pub spaces : List ℕ → Bool
spaces [] = true
spaces (b ∷ bs) = eqb b 32 && spaces bs

-- a column of a layout, by its name. That no layout has a name twice is `names_distinct` below; that every name used is a column of its
-- layout is `names_there` in Record, Sheet and Index
unfoldable pub find : (name : String) → List Col → Col
find name [] = X 0 0
find name (c ∷ cs) = cond (eqt name c.name) c (find name cs)

abbrev pub has : List Col → (name : String) → Bool
has [] name = false
has (c ∷ cs) name = eqt name c.name || has cs name

abbrev pub has_all : List Col → (names : List String) → Bool
has_all layout [] = true
has_all layout (n ∷ ns) = has layout n && has_all layout ns

abbrev pub distinct : List Col → Bool
distinct [] = true
distinct (c ∷ cs) = (eqt c.name "" || not (has cs c.name)) && distinct cs

-- the bytes of a column in a record, and its number: one of any sign, one of at least 0
abbrev pub bytes_of : Col → List ℕ → List ℕ
bytes_of c r = column c.start c.width r

unfoldable pub integer_at : List Col → (name : String) → List ℕ → ℤ
integer_at layout name r = integer (column_of (bytes_of (find name layout) r))

unfoldable pub number_at : List Col → (name : String) → List ℕ → ℕ
number_at layout name r = number_of (column_of (bytes_of (find name layout) r))

-- 5: "an integer column is malformed"
abbrev pub is_formed : What → List ℕ → Bool
is_formed text bs = true
is_formed blank bs = true
is_formed (integral rule) bs = formed (column_of bs)
is_formed integral_or_spaces bs = spaces bs || formed (column_of bs)

unfoldable pub all_formed : List Col → List ℕ → Bool
all_formed [] r = true
all_formed (c ∷ cs) r = is_formed c.what (bytes_of c r) && all_formed cs r

-- 6: "an integer outside its range or list"
abbrev pub is_inside : What → List ℕ → Bool
is_inside text bs = true
is_inside blank bs = true
is_inside (integral rule) bs = inside rule (integer (column_of bs))
is_inside integral_or_spaces bs = true

unfoldable pub all_inside : List Col → List ℕ → Bool
all_inside [] r = true
all_inside (c ∷ cs) r = is_inside c.what (bytes_of c r) && all_inside cs r

-- the first fault of a record's own columns: every 5 of a record comes before its 6
unfoldable pub column_fault : List Col → List ℕ → ℕ
column_fault layout r = first (unless (all_formed layout r) 5) (unless (all_inside layout r) 6)

-- where the columns end, if each starts where the one before it ends; else 0
abbrev pub laid : ℕ → List Col → ℕ
laid at [] = at
laid at (c ∷ cs) = cond (eqb c.start at) (laid (at + c.width) cs) 0

-- Index a: A2 "I ", system I2 (1..19), A30, sheets I3, number of b records I2, number of c records I4, two flags I1 (0,1), year I4,
-- A30, version I1 (1), blank use I1, 3X
unfoldable pub index_a : List Col
index_a =
    A "type" 0 2 ∷
    I "system" 2 2 (range 1 19) ∷
    A "planning agency" 4 30 ∷
    I "sheets" 34 3 natural ∷
    I "b records" 37 2 natural ∷
    I "c records" 39 4 natural ∷
    I "shift flag" 43 1 (range 0 1) ∷
    I "break flag" 44 1 (range 0 1) ∷
    I "year" 45 4 natural ∷
    A "regulation" 49 30 ∷
    I "version" 79 1 (range 1 1) ∷
    I "blank use" 80 1 natural ∷
    X 81 3 ∷ []

-- Index b: ten A8, 4X
unfoldable pub index_b : List Col
index_b =
    A "sheet 1" 0 8 ∷
    A "sheet 2" 8 8 ∷
    A "sheet 3" 16 8 ∷
    A "sheet 4" 24 8 ∷
    A "sheet 5" 32 8 ∷
    A "sheet 6" 40 8 ∷
    A "sheet 7" 48 8 ∷
    A "sheet 8" 56 8 ∷
    A "sheet 9" 64 8 ∷
    A "sheet 10" 72 8 ∷
    X 80 4 ∷ []

-- Index c: I4, I4, nine flags I1 (0,1), direction I1 (0,1), dimension I1 (0,2,3), A65
unfoldable pub index_c : List Col
index_c =
    I "class used" 0 4 natural ∷
    I "standard class" 4 4 natural ∷
    I "area used" 8 1 (range 0 1) ∷
    I "line used" 9 1 (range 0 1) ∷
    I "circle used" 10 1 (range 0 1) ∷
    I "arc used" 11 1 (range 0 1) ∷
    I "point used" 12 1 (range 0 1) ∷
    I "direction used" 13 1 (range 0 1) ∷
    I "note used" 14 1 (range 0 1) ∷
    I "attribute used" 15 1 (range 0 1) ∷
    I "grid and net used" 16 1 (range 0 1) ∷
    I "direction" 17 1 (range 0 1) ∷
    I "dimension" 18 1 (one_of (0 ∷ 2 ∷ 3 ∷ [])) ∷
    A "description" 19 65 ∷ []

-- Sheet a: A2 "M ", A8, A20, level I5, A30, revisions I2, version I1 (1), blank use I1, 15X. "another level is 6 at a"
unfoldable pub sheet_a : List Col
sheet_a =
    A "type" 0 2 ∷
    A "sheet" 2 8 ∷
    A "sheet name" 10 20 ∷
    I "level" 30 5 (one_of (500 ∷ 1000 ∷ 2500 ∷ 5000 ∷ 10000 ∷ [])) ∷
    A "title" 35 30 ∷
    I "revisions" 65 2 natural ∷
    I "version" 67 1 (range 1 1) ∷
    I "blank use" 68 1 natural ∷
    X 69 15 ∷ []

-- Sheet b: lower left X, Y, upper right X, Y (I7, any sign), 3 unjudged, element count I6, record count I7, unit I3,
-- upper left X, Y, lower right X, Y (I7, any sign), 9X. The three unjudged ones stand here as X, "neither is judged"
unfoldable pub sheet_b : List Col
sheet_b =
    I "lower left X" 0 7 any_sign ∷
    I "lower left Y" 7 7 any_sign ∷
    I "upper right X" 14 7 any_sign ∷
    I "upper right Y" 21 7 any_sign ∷
    X 28 3 ∷
    I "element count" 31 6 natural ∷
    I "record count" 37 7 natural ∷
    I "unit" 44 3 natural ∷
    I "upper left X" 47 7 any_sign ∷
    I "upper left Y" 54 7 any_sign ∷
    I "lower right X" 61 7 any_sign ∷
    I "lower right Y" 68 7 any_sign ∷
    X 75 9 ∷ []

-- Sheet c: eight A8, 20X
unfoldable pub sheet_c : List Col
sheet_c =
    A "neighbour 1" 0 8 ∷
    A "neighbour 2" 8 8 ∷
    A "neighbour 3" 16 8 ∷
    A "neighbour 4" 24 8 ∷
    A "neighbour 5" 32 8 ∷
    A "neighbour 6" 40 8 ∷
    A "neighbour 7" 48 8 ∷
    A "neighbour 8" 56 8 ∷
    X 64 20 ∷ []

-- Sheet d: A4, A4, courses I1, number of f records I1, A30, A30, I1 (0..2), I1 and I1 (each 0..3 or 9; the sources disagree
-- on which is which), 11X
unfoldable pub sheet_d : List Col
sheet_d =
    A "made" 0 4 ∷
    A "surveyed" 4 4 ∷
    I "courses" 8 1 natural ∷
    I "f records" 9 1 natural ∷
    A "device" 10 30 ∷
    A "approval" 40 30 ∷
    I "datum" 70 1 (range 0 2) ∷
    I "first code" 71 1 (one_of (0 ∷ 1 ∷ 2 ∷ 3 ∷ 9 ∷ [])) ∷
    I "second code" 72 1 (one_of (0 ∷ 1 ∷ 2 ∷ 3 ∷ 9 ∷ [])) ∷
    X 73 11 ∷ []

-- Sheet e: A40, eight fractions I4 (any sign, corners in the order of b), 12X
unfoldable pub sheet_e : List Col
sheet_e =
    A "surveying agency" 0 40 ∷
    I "lower left X" 40 4 any_sign ∷
    I "lower left Y" 44 4 any_sign ∷
    I "upper right X" 48 4 any_sign ∷
    I "upper right Y" 52 4 any_sign ∷
    I "upper left X" 56 4 any_sign ∷
    I "upper left Y" 60 4 any_sign ∷
    I "lower right X" 64 4 any_sign ∷
    I "lower right Y" 68 4 any_sign ∷
    X 72 12 ∷ []

-- Sheet f: three times (A4, A4, I5, I1, I4, I4), 18X
unfoldable pub sheet_f : List Col
sheet_f =
    A "course 1" 0 4 ∷
    A "flown 1" 4 4 ∷
    I "scale 1" 8 5 natural ∷
    I "photographs 1" 13 1 natural ∷
    I "first photograph 1" 14 4 natural ∷
    I "last photograph 1" 18 4 natural ∷
    A "course 2" 22 4 ∷
    A "flown 2" 26 4 ∷
    I "scale 2" 30 5 natural ∷
    I "photographs 2" 35 1 natural ∷
    I "first photograph 2" 36 4 natural ∷
    I "last photograph 2" 40 4 natural ∷
    A "course 3" 44 4 ∷
    A "flown 3" 48 4 ∷
    I "scale 3" 52 5 natural ∷
    I "photographs 3" 57 1 natural ∷
    I "first photograph 3" 58 4 natural ∷
    I "last photograph 3" 62 4 natural ∷
    X 66 18 ∷ []

-- Header: A2 "H ", class I4, area I2, information I4, number I4, level I2, then ten I5: total, groups, area, line, circle, arc,
-- point, direction, note, attribute; grid and net I1, A4, A4, A4, method I2, 1X
unfoldable pub header : List Col
header =
    A "type" 0 2 ∷
    I "class" 2 4 natural ∷
    I "area code" 6 2 natural ∷
    I "information" 8 4 natural ∷
    I "number" 12 4 natural ∷
    I "level" 16 2 natural ∷
    I "total" 18 5 natural ∷
    I "groups" 23 5 natural ∷
    I "area" 28 5 natural ∷
    I "line" 33 5 natural ∷
    I "circle" 38 5 natural ∷
    I "arc" 43 5 natural ∷
    I "point" 48 5 natural ∷
    I "direction" 53 5 natural ∷
    I "note" 58 5 natural ∷
    I "attribute" 63 5 natural ∷
    I "grid and net" 68 1 natural ∷
    A "acquired" 69 4 ∷
    A "updated" 73 4 ∷
    A "deleted" 77 4 ∷
    I "method" 81 2 natural ∷
    X 83 1 ∷ []

-- Element: A2 "E1" to "E8", I4, I2, I4, number I4, level I2, figure I2, data kind I1 (0..6), accuracy I2, note kind I1 (0..2),
-- shift I2 (-9..9), break I1, data count I4, records I4, X I7, Y I7 (any sign), value I7 (any sign) or seven spaces, I2, A7,
-- A4, A4, A4, 6X, repeat I1 (1..9)
unfoldable pub element : List Col
element =
    A "type" 0 2 ∷
    I "class" 2 4 natural ∷
    I "area code" 6 2 natural ∷
    I "information" 8 4 natural ∷
    I "number" 12 4 natural ∷
    I "level" 16 2 natural ∷
    I "figure" 18 2 natural ∷
    I "data kind" 20 1 (range 0 6) ∷
    I "accuracy" 21 2 natural ∷
    I "note kind" 23 1 (range 0 2) ∷
    I "shift" 24 2 (within 9) ∷
    I "break" 26 1 natural ∷
    I "data count" 27 4 natural ∷
    I "records" 31 4 natural ∷
    I "X" 35 7 any_sign ∷
    I "Y" 42 7 any_sign ∷
    IorX "value" 49 7 ∷
    I "attribute class" 56 2 natural ∷
    A "attribute format" 58 7 ∷
    A "acquired" 65 4 ∷
    A "updated" 69 4 ∷
    A "deleted" 73 4 ∷
    X 77 6 ∷
    I "repeat" 83 1 (range 1 9) ∷ []

-- Grid header: A2 "G ", I4, I2, I4, I4, level I2, rows I4, columns I4 (both at least 1), records I4, cell sizes I7, I7 (at least 1),
-- origin I7, I7 (any sign), A4, A4, A4, I2, I2, 9X, repeat I1 (1..9)
unfoldable pub grid_header : List Col
grid_header =
    A "type" 0 2 ∷
    I "class" 2 4 natural ∷
    I "area code" 6 2 natural ∷
    I "information" 8 4 natural ∷
    I "number" 12 4 natural ∷
    I "level" 16 2 natural ∷
    I "rows" 18 4 (at_least 1) ∷
    I "columns" 22 4 (at_least 1) ∷
    I "records" 26 4 natural ∷
    I "cell rows" 30 7 (at_least 1) ∷
    I "cell columns" 37 7 (at_least 1) ∷
    I "origin X" 44 7 any_sign ∷
    I "origin Y" 51 7 any_sign ∷
    A "acquired" 58 4 ∷
    A "updated" 62 4 ∷
    A "deleted" 66 4 ∷
    I "figure" 70 2 natural ∷
    I "accuracy" 72 2 natural ∷
    X 74 9 ∷
    I "repeat" 83 1 (range 1 9) ∷ []

-- Net header: A2 "T ", I4, I2, I4, I4, level I2, I2, triangles I6 (at least 1), records I6, A4, A4, A4, I2, 38X
unfoldable pub net_header : List Col
net_header =
    A "type" 0 2 ∷
    I "class" 2 4 natural ∷
    I "area code" 6 2 natural ∷
    I "information" 8 4 natural ∷
    I "number" 12 4 natural ∷
    I "level" 16 2 natural ∷
    I "figure" 18 2 natural ∷
    I "triangles" 20 6 (at_least 1) ∷
    I "records" 26 6 natural ∷
    A "acquired" 32 4 ∷
    A "updated" 36 4 ∷
    A "deleted" 40 4 ∷
    I "accuracy" 44 2 natural ∷
    X 46 38 ∷ []

-- Data 3D: four points of three I7 (any sign)
unfoldable pub data_3d : List Col
data_3d =
    I "X 1" 0 7 any_sign ∷
    I "Y 1" 7 7 any_sign ∷
    I "Z 1" 14 7 any_sign ∷
    I "X 2" 21 7 any_sign ∷
    I "Y 2" 28 7 any_sign ∷
    I "Z 2" 35 7 any_sign ∷
    I "X 3" 42 7 any_sign ∷
    I "Y 3" 49 7 any_sign ∷
    I "Z 3" 56 7 any_sign ∷
    I "X 4" 63 7 any_sign ∷
    I "Y 4" 70 7 any_sign ∷
    I "Z 4" 77 7 any_sign ∷ []

-- Data 2D: six points of two I7 (any sign)
unfoldable pub data_2d : List Col
data_2d =
    I "X 1" 0 7 any_sign ∷
    I "Y 1" 7 7 any_sign ∷
    I "X 2" 14 7 any_sign ∷
    I "Y 2" 21 7 any_sign ∷
    I "X 3" 28 7 any_sign ∷
    I "Y 3" 35 7 any_sign ∷
    I "X 4" 42 7 any_sign ∷
    I "Y 4" 49 7 any_sign ∷
    I "X 5" 56 7 any_sign ∷
    I "Y 5" 63 7 any_sign ∷
    I "X 6" 70 7 any_sign ∷
    I "Y 6" 77 7 any_sign ∷ []

-- Data note: I1 (0,1), direction I7, I5, I5, I2, A64
unfoldable pub data_note : List Col
data_note =
    I "writing direction" 0 1 (range 0 1) ∷
    I "direction" 1 7 any_sign ∷
    I "letter size" 8 5 natural ∷
    I "letter spacing" 13 5 natural ∷
    I "line weight" 18 2 natural ∷
    A "text" 20 64 ∷ []

-- Data attribute: 84 free
unfoldable pub data_attribute : List Col
data_attribute =
    A "free" 0 84 ∷ []

-- Data grid: twelve I7 (any sign)
unfoldable pub data_grid : List Col
data_grid =
    I "height 1" 0 7 any_sign ∷
    I "height 2" 7 7 any_sign ∷
    I "height 3" 14 7 any_sign ∷
    I "height 4" 21 7 any_sign ∷
    I "height 5" 28 7 any_sign ∷
    I "height 6" 35 7 any_sign ∷
    I "height 7" 42 7 any_sign ∷
    I "height 8" 49 7 any_sign ∷
    I "height 9" 56 7 any_sign ∷
    I "height 10" 63 7 any_sign ∷
    I "height 11" 70 7 any_sign ∷
    I "height 12" 77 7 any_sign ∷ []

-- Data net: four points of three I7 (any sign)
unfoldable pub data_net : List Col
data_net =
    I "X 1" 0 7 any_sign ∷
    I "Y 1" 7 7 any_sign ∷
    I "Z 1" 14 7 any_sign ∷
    I "X 2" 21 7 any_sign ∷
    I "Y 2" 28 7 any_sign ∷
    I "Z 2" 35 7 any_sign ∷
    I "X 3" 42 7 any_sign ∷
    I "Y 3" 49 7 any_sign ∷
    I "Z 3" 56 7 any_sign ∷
    I "X 4" 63 7 any_sign ∷
    I "Y 4" 70 7 any_sign ∷
    I "Z 4" 77 7 any_sign ∷ []

-- the nineteen layouts
unfoldable pub layouts : List (List Col)
layouts =
    index_a ∷
    index_b ∷
    index_c ∷
    sheet_a ∷
    sheet_b ∷
    sheet_c ∷
    sheet_d ∷
    sheet_e ∷
    sheet_f ∷
    header ∷
    element ∷
    grid_header ∷
    net_header ∷
    data_3d ∷
    data_2d ∷
    data_note ∷
    data_attribute ∷
    data_grid ∷
    data_net ∷ []

abbrev pub every : (List Col → Bool) → List (List Col) → Bool
every test [] = true
every test (l ∷ ls) = test l && every test ls

pub nineteen : length layouts ≡ 19
unfolding layouts
nineteen = refl

-- "Each of the nineteen layouts carries its own column widths, and they add up to 84": in each, every column starts where the one
-- before it ends, and the last ends at 84
pub widths_add_up : every (λ l. eqb (laid 0 l) 84) layouts ≡ true
unfolding layouts index_a index_b index_c sheet_a sheet_b sheet_c sheet_d sheet_e sheet_f header element grid_header net_header data_3d data_2d data_note data_attribute data_grid data_net
widths_add_up = refl

-- no layout has a name twice
pub names_distinct : every distinct layouts ≡ true
unfolding layouts index_a index_b index_c sheet_a sheet_b sheet_c sheet_d sheet_e sheet_f header element grid_header net_header data_3d data_2d data_note data_attribute data_grid data_net
names_distinct = refl
