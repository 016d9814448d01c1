-- Document 01's layouts a second time, for the tables of Layout to be held to: its lines as they read, and where columns stand, by first
-- byte and width. Nothing else uses them. All is computed. Assumes nothing.
use Rattle.std.specs.Prelude.{◌≡◌, refl, Bool, true, false, cond, List, [], ◌∷◌, ◌++◌, map, ℕ, zero, suc, ◌+◌}
use Prim.Native.String.{String}
use lib.Text.{eqt}
use Rattle.format.specs.Layout.{Rule, any_sign, at_least, range, within, one_of, natural, What, text, blank, integral, integral_or_spaces, Col, layouts, index_a, index_b, index_c, sheet_a, sheet_b, sheet_c, sheet_d, sheet_e, sheet_f, header, element, grid_header, net_header, data_3d, data_2d, data_note, data_attribute, data_grid, data_net}

-- the nineteen, by document 01's names
pub record Titled : Type 0 where
  pub title : String
  pub table : List Col

abbrev pub titled : String → List Col → Titled
titled title table = record { title = title; table = table }

abbrev pub tables : List Titled
tables =
    titled "index a" index_a ∷
    titled "index b" index_b ∷
    titled "index c" index_c ∷
    titled "sheet a" sheet_a ∷
    titled "sheet b" sheet_b ∷
    titled "sheet c" sheet_c ∷
    titled "sheet d" sheet_d ∷
    titled "sheet e" sheet_e ∷
    titled "sheet f" sheet_f ∷
    titled "header" header ∷
    titled "element" element ∷
    titled "grid header" grid_header ∷
    titled "net header" net_header ∷
    titled "data 3D" data_3d ∷
    titled "data 2D" data_2d ∷
    titled "data note" data_note ∷
    titled "data attribute" data_attribute ∷
    titled "data grid" data_grid ∷
    titled "data net" data_net ∷ []

pub all_nineteen : map (λ (t : Titled). t.table) tables ≡ layouts
unfolding layouts
all_nineteen = refl

-- ---- The lines: columns by letter and width, as document 01 writes them: A2, 3X, I4
pub record Field : Type 0 where
  pub width : ℕ
  pub what : What

abbrev pub A : ℕ → List Field
A width = (record { width = width; what = text }) ∷ []

abbrev pub X : ℕ → List Field
X width = (record { width = width; what = blank }) ∷ []

-- "Integers are at least 0 unless said"
abbrev pub I : ℕ → List Field
I width = (record { width = width; what = integral natural }) ∷ []

-- "value I7 (any sign) or seven spaces"
abbrev pub IorX : ℕ → List Field
IorX width = (record { width = width; what = integral_or_spaces }) ∷ []

-- integers of which something is said: I2 (1..19)
infix 66 ◌said◌
abbrev pub ◌said◌ : List Field → Rule → List Field
ps said rule = map (λ (p : Field). record { width = p.width; what = integral rule }) ps

-- "ten A8", "three times (..)"
abbrev pub times : ℕ → List Field → List Field
times zero ps = []
times (suc n) ps = ps ++ times n ps

pub record Line : Type 0 where
  pub title : String
  pub parts : List Field

abbrev pub line : String → List Field → Line
line title parts = record { title = title; parts = parts }

abbrev pub lines : List Line
lines =
    line "index a" (A 2 ++ I 2 said range 1 19 ++ A 30 ++ I 3 ++ I 2 ++ I 4 ++ times 2 (I 1) said range 0 1 ++ I 4 ++ A 30 ++ I 1 said range 1 1 ++ I 1 ++ X 3) ∷
    line "index b" (times 10 (A 8) ++ X 4) ∷
    line "index c" (I 4 ++ I 4 ++ times 9 (I 1) said range 0 1 ++ I 1 said range 0 1 ++ I 1 said one_of (0 ∷ 2 ∷ 3 ∷ []) ++ A 65) ∷
    -- "another level is 6 at a"
    line "sheet a" (A 2 ++ A 8 ++ A 20 ++ I 5 said one_of (500 ∷ 1000 ∷ 2500 ∷ 5000 ∷ 10000 ∷ []) ++ A 30 ++ I 2 ++ I 1 said range 1 1 ++ I 1 ++ X 15) ∷
    -- "3 unjudged" is as X
    line "sheet b" (times 4 (I 7) said any_sign ++ X 3 ++ I 6 ++ I 7 ++ I 3 ++ times 4 (I 7) said any_sign ++ X 9) ∷
    line "sheet c" (times 8 (A 8) ++ X 20) ∷
    line "sheet d" (A 4 ++ A 4 ++ I 1 ++ I 1 ++ A 30 ++ A 30 ++ I 1 said range 0 2 ++ times 2 (I 1) said one_of (0 ∷ 1 ∷ 2 ∷ 3 ∷ 9 ∷ []) ++ X 11) ∷
    line "sheet e" (A 40 ++ times 8 (I 4) said any_sign ++ X 12) ∷
    line "sheet f" (times 3 (A 4 ++ A 4 ++ I 5 ++ I 1 ++ I 4 ++ I 4) ++ X 18) ∷
    line "header" (A 2 ++ I 4 ++ I 2 ++ I 4 ++ I 4 ++ I 2 ++ times 10 (I 5) ++ I 1 ++ times 3 (A 4) ++ I 2 ++ X 1) ∷
    line "element" (A 2 ++ I 4 ++ I 2 ++ I 4 ++ I 4 ++ I 2 ++ I 2 ++ I 1 said range 0 6 ++ I 2 ++ I 1 said range 0 2 ++ I 2 said within 9 ++ I 1 ++ I 4 ++ I 4 ++ times 2 (I 7) said any_sign ++ IorX 7 ++ I 2 ++ A 7 ++ times 3 (A 4) ++ X 6 ++ I 1 said range 1 9) ∷
    line "grid header" (A 2 ++ I 4 ++ I 2 ++ I 4 ++ I 4 ++ I 2 ++ times 2 (I 4) said at_least 1 ++ I 4 ++ times 2 (I 7) said at_least 1 ++ times 2 (I 7) said any_sign ++ times 3 (A 4) ++ I 2 ++ I 2 ++ X 9 ++ I 1 said range 1 9) ∷
    line "net header" (A 2 ++ I 4 ++ I 2 ++ I 4 ++ I 4 ++ I 2 ++ I 2 ++ I 6 said at_least 1 ++ I 6 ++ times 3 (A 4) ++ I 2 ++ X 38) ∷
    line "data 3D" (times 4 (times 3 (I 7)) said any_sign) ∷
    line "data 2D" (times 6 (times 2 (I 7)) said any_sign) ∷
    -- "A note direction is -45..45 .., -135..-45": a rule of two columns, so of any sign here
    line "data note" (I 1 said range 0 1 ++ I 7 said any_sign ++ I 5 ++ I 5 ++ I 2 ++ A 64) ∷
    -- "84 free"
    line "data attribute" (A 84) ∷
    line "data grid" (times 12 (I 7) said any_sign) ∷
    line "data net" (times 4 (times 3 (I 7)) said any_sign) ∷ []

abbrev pub line_of : Titled → Line
line_of t = line t.title (map (λ (c : Col). record { width = c.width; what = c.what }) t.table)

pub as_lines : map line_of tables ≡ lines
unfolding index_a index_b index_c sheet_a sheet_b sheet_c sheet_d sheet_e sheet_f header element grid_header net_header data_3d data_2d data_note data_attribute data_grid data_net
as_lines = refl

-- ---- Where columns stand: the layout, the bytes before it, its width
pub record Place : Type 0 where
  pub title : String
  pub start : ℕ
  pub width : ℕ

abbrev pub at : String → ℕ → ℕ → Place
at title start width = record { title = title; start = start; width = width }

-- of a layout, and of all, the columns that pass a test
abbrev pub places_in : (Col → Bool) → String → List Col → List Place
places_in test title [] = []
places_in test title (c ∷ cs) = cond (test c) (at title c.start c.width ∷ places_in test title cs) (places_in test title cs)

abbrev pub places : (Col → Bool) → List Titled → List Place
places test [] = []
places test (t ∷ ts) = places_in test t.title t.table ++ places test ts

-- a column's name, and where it stands in every layout that has it
pub record Named : Type 0 where
  pub name : String
  pub places : List Place

abbrev pub stands : String → List Place → Named
stands name places = record { name = name; places = places }

-- what header, element, grid and net have in one place
abbrev pub in_each : ℕ → ℕ → List Place
in_each start width = at "header" start width ∷ at "element" start width ∷ at "grid header" start width ∷ at "net header" start width ∷ []

-- a corner's whole in sheet b, its fraction in sheet e
abbrev pub corner : ℕ → ℕ → List Place
corner whole fraction = at "sheet b" whole 7 ∷ at "sheet e" fraction 4 ∷ []

abbrev pub in_header : ℕ → ℕ → List Place
in_header start width = at "header" start width ∷ []

-- every name that a definition reads, and the other integers of the body
abbrev pub positions : List Named
positions =
    stands "type" (at "index a" 0 2 ∷ at "sheet a" 0 2 ∷ in_each 0 2) ∷
    stands "class" (in_each 2 4) ∷
    stands "area code" (in_each 6 2) ∷
    stands "information" (in_each 8 4) ∷
    stands "number" (in_each 12 4) ∷
    stands "level" (at "sheet a" 30 5 ∷ in_each 16 2) ∷
    -- the header's counts
    stands "total" (in_header 18 5) ∷
    stands "groups" (in_header 23 5) ∷
    stands "area" (in_header 28 5) ∷
    stands "line" (in_header 33 5) ∷
    stands "circle" (in_header 38 5) ∷
    stands "arc" (in_header 43 5) ∷
    stands "point" (in_header 48 5) ∷
    stands "direction" (at "index c" 17 1 ∷ at "header" 53 5 ∷ at "data note" 1 7 ∷ []) ∷
    stands "note" (in_header 58 5) ∷
    stands "attribute" (in_header 63 5) ∷
    stands "grid and net" (in_header 68 1) ∷
    stands "method" (in_header 81 2) ∷
    -- the three dates, of source 002
    stands "acquired" (at "header" 69 4 ∷ at "element" 65 4 ∷ at "grid header" 58 4 ∷ at "net header" 32 4 ∷ []) ∷
    stands "updated" (at "header" 73 4 ∷ at "element" 69 4 ∷ at "grid header" 62 4 ∷ at "net header" 36 4 ∷ []) ∷
    stands "deleted" (at "header" 77 4 ∷ at "element" 73 4 ∷ at "grid header" 66 4 ∷ at "net header" 40 4 ∷ []) ∷
    -- index and sheet part
    stands "sheets" (at "index a" 34 3 ∷ []) ∷
    stands "b records" (at "index a" 37 2 ∷ []) ∷
    stands "c records" (at "index a" 39 4 ∷ []) ∷
    stands "revisions" (at "sheet a" 65 2 ∷ []) ∷
    stands "lower left X" (corner 0 40) ∷
    stands "lower left Y" (corner 7 44) ∷
    stands "upper right X" (corner 14 48) ∷
    stands "upper right Y" (corner 21 52) ∷
    stands "upper left X" (corner 47 56) ∷
    stands "upper left Y" (corner 54 60) ∷
    stands "lower right X" (corner 61 64) ∷
    stands "lower right Y" (corner 68 68) ∷
    stands "element count" (at "sheet b" 31 6 ∷ []) ∷
    stands "record count" (at "sheet b" 37 7 ∷ []) ∷
    stands "unit" (at "sheet b" 44 3 ∷ []) ∷
    stands "courses" (at "sheet d" 8 1 ∷ []) ∷
    stands "f records" (at "sheet d" 9 1 ∷ []) ∷
    -- element, grid, net, note
    stands "figure" (at "element" 18 2 ∷ at "grid header" 70 2 ∷ at "net header" 18 2 ∷ []) ∷
    stands "accuracy" (at "element" 21 2 ∷ at "grid header" 72 2 ∷ at "net header" 44 2 ∷ []) ∷
    stands "data kind" (at "element" 20 1 ∷ []) ∷
    stands "note kind" (at "element" 23 1 ∷ []) ∷
    stands "shift" (at "element" 24 2 ∷ []) ∷
    stands "break" (at "element" 26 1 ∷ []) ∷
    stands "data count" (at "element" 27 4 ∷ []) ∷
    stands "records" (at "element" 31 4 ∷ at "grid header" 26 4 ∷ at "net header" 26 6 ∷ []) ∷
    stands "X" (at "element" 35 7 ∷ []) ∷
    stands "Y" (at "element" 42 7 ∷ []) ∷
    stands "value" (at "element" 49 7 ∷ []) ∷
    stands "rows" (at "grid header" 18 4 ∷ []) ∷
    stands "columns" (at "grid header" 22 4 ∷ []) ∷
    stands "cell rows" (at "grid header" 30 7 ∷ []) ∷
    stands "cell columns" (at "grid header" 37 7 ∷ []) ∷
    stands "origin X" (at "grid header" 44 7 ∷ []) ∷
    stands "origin Y" (at "grid header" 51 7 ∷ []) ∷
    stands "triangles" (at "net header" 20 6 ∷ []) ∷
    stands "repeat" (at "element" 83 1 ∷ at "grid header" 83 1 ∷ []) ∷
    stands "writing direction" (at "data note" 0 1 ∷ []) ∷ []

abbrev pub stands_in : Named → Named
stands_in s = stands s.name (places (λ (c : Col). eqt s.name c.name) tables)

pub names_stand : map stands_in positions ≡ positions
unfolding index_a index_b index_c sheet_a sheet_b sheet_c sheet_d sheet_e sheet_f header element grid_header net_header data_3d data_2d data_note data_attribute data_grid data_net
names_stand = refl

-- every blank column, with the three unjudged ones of sheet b
abbrev pub is_blank : What → Bool
is_blank text = false
is_blank blank = true
is_blank (integral rule) = false
is_blank integral_or_spaces = false

pub blanks_stand : places (λ (c : Col). is_blank c.what) tables ≡ at "index a" 81 3 ∷ at "index b" 80 4 ∷ at "sheet a" 69 15 ∷ at "sheet b" 28 3 ∷ at "sheet b" 75 9 ∷ at "sheet c" 64 20 ∷ at "sheet d" 73 11 ∷ at "sheet e" 72 12 ∷ at "sheet f" 66 18 ∷ at "header" 83 1 ∷ at "element" 77 6 ∷ at "grid header" 74 9 ∷ at "net header" 46 38 ∷ []
unfolding index_a index_b index_c sheet_a sheet_b sheet_c sheet_d sheet_e sheet_f header element grid_header net_header data_3d data_2d data_note data_attribute data_grid data_net
blanks_stand = refl

-- the points of a data record, X and Y or X, Y and Z each, and the heights: one behind another, seven bytes wide
abbrev pub columns_of : String → List Col → List Named
columns_of title table = map (λ (c : Col). stands c.name (at title c.start c.width ∷ [])) table

abbrev pub in_row : String → ℕ → List String → List Named
in_row title start [] = []
in_row title start (n ∷ ns) = stands n (at title start 7 ∷ []) ∷ in_row title (start + 7) ns

abbrev pub in_3d : List String
in_3d = "X 1" ∷ "Y 1" ∷ "Z 1" ∷ "X 2" ∷ "Y 2" ∷ "Z 2" ∷ "X 3" ∷ "Y 3" ∷ "Z 3" ∷ "X 4" ∷ "Y 4" ∷ "Z 4" ∷ []

abbrev pub in_2d : List String
in_2d = "X 1" ∷ "Y 1" ∷ "X 2" ∷ "Y 2" ∷ "X 3" ∷ "Y 3" ∷ "X 4" ∷ "Y 4" ∷ "X 5" ∷ "Y 5" ∷ "X 6" ∷ "Y 6" ∷ []

abbrev pub in_grid : List String
in_grid = "height 1" ∷ "height 2" ∷ "height 3" ∷ "height 4" ∷ "height 5" ∷ "height 6" ∷ "height 7" ∷ "height 8" ∷ "height 9" ∷ "height 10" ∷ "height 11" ∷ "height 12" ∷ []

pub points_stand : columns_of "data 3D" data_3d ++ columns_of "data 2D" data_2d ++ columns_of "data grid" data_grid ++ columns_of "data net" data_net ≡ in_row "data 3D" 0 in_3d ++ in_row "data 2D" 0 in_2d ++ in_row "data grid" 0 in_grid ++ in_row "data net" 0 in_3d
unfolding data_3d data_2d data_grid data_net
points_stand = refl
