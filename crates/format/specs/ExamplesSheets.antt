-- Examples of whole sheets, computed: what the program prints of them, and the corners of one with two sets d, e, f. Each is made of the
-- rows below.
use Rattle.std.specs.Prelude.{refl, List, [], ◌∷◌, ◌++◌, ℕ, pos}
use Prim.Native.String.{String}
use Rattle.format.specs.Basics.{minus}
use Rattle.format.specs.Text.{bytes, rows, begins}
use Rattle.format.specs.Column.{strip, is_digit, all_digits, value_of, is_number, negative, positive, signed, column_of, digits_in, digits}
use Rattle.format.specs.Corner.{fraction_ok, millimetres}
use Rattle.format.specs.Layout.{column, find, integer_at, number_at, all_formed, all_inside, column_fault, index_a, index_b, index_c, sheet_a, sheet_b, sheet_c, sheet_d, sheet_e, sheet_f, header, element, grid_header, net_header, data_3d, data_2d, data_note, data_attribute, data_grid, data_net}
use Rattle.format.specs.Record.{type_of, count_name, data_columns, direction_ok, data_fault, element_records, element_rule, grid_states, grid_needs, net_needs, header_view, element_view, grid_view, net_view, other_view, view}
use Rattle.format.specs.Sheet.{wholes_of, fractions_of, part_length, sheet_fault, corners, stated_elements, stated_records}
use Rattle.format.specs.Examples.{d, e, blank_row, Example, prints, corners_are, Every}
use Rattle.format.specs.Judge.{judge, judge_records, judge_sheet}
use Rattle.format.specs.Program.{line, printed}

-- ---- Rows, some in pieces
-- a, b and c: the revisions (I2), the element and record counts (I6, I7), the others always the same
abbrev pub abc : (revisions counts : String) → List String
abc revisions counts =
    "M 09LD1234Example sheet         500Town plan                     " ∷ revisions ∷ "10               " ∷
    "  -1234   5678   -934   5978   " ∷ counts ∷ "  1   -933   5679  -1235   5979         " ∷
    blank_row ∷ []

-- d with a course and its f record; e with other fractions; f
abbrev pub d_one_course : String
d_one_course = "2408240711Plotter                       Approval 1                    100           "

abbrev pub e_newer : String
e_newer = "Survey office                            -57  51  -1   2  -3  53 -58   4            "

abbrev pub f : String
f = "C1  2405 80006   1   6            00   0   0            00   0   0                  "

-- a sheet of one set d, e, with its counts and its body
abbrev pub sheet : (counts : String) → (body : List String) → List ℕ
sheet counts body = rows (abc " 0" counts ++ d ∷ e ∷ body)

-- a header: its level (I2), its counts (ten I5, I1)
abbrev pub head : (level counts : String) → List String
head level counts = "H 2100 0   0   0" ∷ level ∷ counts ∷ "2408         0 " ∷ []

abbrev pub none : String
none = "    0    0    0    0    0    0    0    0    0    00"

abbrev pub one_group : String
one_group = "    1    1    0    0    0    0    0    0    0    00"

abbrev pub one_line : String
one_line = "    1    0    0    1    0    0    0    0    0    00"

abbrev pub group_and_line : String
group_and_line = "    2    1    0    1    0    0    0    0    0    00"

abbrev pub one_net : String
one_net = "    1    0    0    0    0    0    0    0    0    01"

abbrev pub one_note : String
one_note = "    1    0    0    0    0    0    0    0    1    00"

-- an element: its type and level (I2), data kind, data count and records (I4 each)
abbrev pub element_at : (type level kind count records : String) → List String
element_at type level kind count records = type ∷ "2101 0   0   1" ∷ level ∷ " 0" ∷ kind ∷ "210 00" ∷ count ∷ records ∷ "      0      0        0       2408              1" ∷ []

abbrev pub line_at : (level kind count records : String) → List String
line_at level kind count records = element_at "E2" level kind count records

-- a line of one point in 2D, two records
abbrev pub point_at : (level : String) → List String
point_at level = line_at level "2" "   1" "   1" ++ "   1000   -500                                                                      " ∷ []

-- the data records of five points in 3D, and of two triangles
abbrev pub five_points : List String
five_points =
    "      0      0     10    100      0     11    200      0     12    300      0     13" ∷
    "    400   -500    -14unused text is not judged                                      " ∷ []

abbrev pub two_triangles : List String
two_triangles =
    "      0      0     10    100      0     11      0    100     12    100      0     11" ∷
    "    100    100     13      0    100     12unused text is not judged                 " ∷ []

-- a net of two triangles: its records (I6)
abbrev pub net : (records : String) → List String
net records = "T 7201 0   0   1 2 0     2" ∷ records ∷ "2408        21                                      " ∷ []

-- a note of one record, by its writing direction and its direction (I7)
abbrev pub note : (writing direction : String) → List String
note writing direction = element_at "E7" " 2" "4" "   1" "   1" ++ writing ∷ direction ∷ "   50    0 1Town hall                                                       " ∷ []

-- a grid of one column: its rows and records (I4); twelve heights but for the last (I7)
abbrev pub grid : (cells records : String) → List String
grid cells records = "G 7101 0   0   1 2" ∷ cells ∷ "   1" ∷ records ∷ "     10     10      0      02408         021         1" ∷ []

abbrev pub eleven_heights : String
eleven_heights = "      0      1      2      3      4      5      6      7      8      9     10"

-- one revision, so two sets: d, e, f, then d, e with other fractions
abbrev pub revised : List ℕ
revised = rows (abc " 1" "     0      0" ++ d_one_course ∷ e ∷ f ∷ d ∷ e_newer ∷ [])

-- ---- One table, one claim
abbrev pub table : List Example
table =
    -- "Empty layers, groups and sheets are allowed": the sheet part alone; two layers, and a group in the second, with nothing in them
    prints (sheet "     0      0" []) "accepted 5 records 0 items" ∷
    prints (sheet "     0      3" (head " 1" none ++ head " 1" one_group ++ head " 2" none)) "accepted 8 records 0 items" ∷
    -- "a body may hold groups": a layer with a line and a group, in it a line and a group, in that a line
    prints (sheet "     3      9" (head " 1" group_and_line ++ point_at " 2" ++ head " 2" group_and_line ++ point_at " 3" ++ head " 3" one_line ++ point_at " 4")) "accepted 14 records 3 items" ∷
    -- the line of the inner group one level up: it stands in the outer one, so the outer header's counts differ first
    prints (sheet "     3      9" (head " 1" group_and_line ++ point_at " 2" ++ head " 2" group_and_line ++ point_at " 3" ++ head " 3" one_line ++ point_at " 3")) "refused 10 at record 9" ∷
    -- "a plus sign, inner spaces .. are refused": a fraction `+5`, a level `+2`, a point `1 000`, each at its record
    prints (rows (abc " 0" "     0      0" ++ d ∷ "Survey office                            -56  +5   0   0   0  50 -56   0            " ∷ [])) "refused 5 at record 5" ∷
    prints (sheet "     0      2" (head " 1" one_group ++ head "+2" none)) "refused 5 at record 7" ∷
    prints (sheet "     1      3" (head " 1" one_line ++ line_at " 2" "2" "   1" "   1" ++ "  1 000   -500                                                                      " ∷ [])) "refused 5 at record 8" ∷
    -- data kind 6: "3, 6: count / 4 rounded up"; the second record has one point
    prints (sheet "     1      4" (head " 1" one_line ++ line_at " 2" "6" "   5" "   2" ++ five_points)) "accepted 9 records 1 items" ∷
    prints (sheet "     1      4" (head " 1" one_line ++ line_at " 2" "6" "   5" "   1" ++ five_points)) "refused 8 at record 7" ∷
    -- "A net has 3 x triangles / 4 rounded up": two triangles are six points, two of them in the second record
    prints (sheet "     1      4" (head " 1" one_net ++ net "     2" ++ two_triangles)) "accepted 9 records 1 items" ∷
    prints (sheet "     1      4" (head " 1" one_net ++ net "     1" ++ two_triangles)) "refused 8 at record 7" ∷
    -- data kind 3: points in 3D too
    prints (sheet "     1      4" (head " 1" one_line ++ line_at " 2" "3" "   5" "   2" ++ five_points)) "accepted 9 records 1 items" ∷
    -- "A note direction is -45..45 when the first column is 0, -135..-45 when it is 1"
    prints (sheet "     1      3" (head " 1" one_note ++ note "1" "    -90")) "accepted 8 records 1 items" ∷
    prints (sheet "     1      3" (head " 1" one_note ++ note "0" "    -90")) "refused 6 at record 8" ∷
    -- "1,000 x 1,080 points need 90,000 and cannot be stated: 8": nor can its largest statement, repeat 9 and 9,999 records
    prints (sheet "     1      1" (head " 1" one_net ++ "G 7101 0   0   1 2100010809999     10     10      0      02408         021         9" ∷ [])) "refused 8 at record 7" ∷
    -- a grid of 13 heights, one of them in the second record; of 12 heights, the last one used and malformed
    prints (sheet "     1      4" (head " 1" one_net ++ grid "  13" "   2" ++ eleven_heights ∷ "    -11" ∷ "     12unused text is not judged                                                    " ∷ [])) "accepted 9 records 1 items" ∷
    prints (sheet "     1      3" (head " 1" one_net ++ grid "  12" "   1" ++ eleven_heights ∷ "   1 1 " ∷ [])) "refused 5 at record 8" ∷
    -- "The last e record gives the corners (house rule)": the fractions of the second e; no two of
    -- the eight are alike
    prints revised "accepted 8 records 0 items" ∷
    corners_are revised (minus 1234057 ∷ pos 5678051 ∷ minus 934001 ∷ pos 5978002 ∷ minus 933003 ∷ pos 5679053 ∷ minus 1235058 ∷ pos 5979004 ∷ []) ∷ []

pub examples : Every table
unfolding bytes rows begins strip is_digit all_digits value_of is_number negative positive signed column_of digits_in digits fraction_ok millimetres column find integer_at number_at all_formed all_inside column_fault index_a index_b index_c sheet_a sheet_b sheet_c sheet_d sheet_e sheet_f header element grid_header net_header data_3d data_2d data_note data_attribute data_grid data_net type_of count_name data_columns direction_ok data_fault element_records element_rule grid_states grid_needs net_needs header_view element_view grid_view net_view other_view view wholes_of fractions_of part_length sheet_fault corners stated_elements stated_records judge judge_records judge_sheet line printed
examples = (refl, (refl, (refl, (refl, (refl, (refl, (refl, (refl, (refl, (refl, (refl, (refl, (refl, (refl, (refl, (refl, (refl, (refl, (refl, tt)))))))))))))))))))
