-- An opened sheet, computed: a sheet of level 2500 with two groups, a line in each, and what stands before places of it. Assumes nothing.
use Rattle.std.specs.Prelude.{◌≡◌, refl, List, [], ◌∷◌, ◌++◌, map, ℕ, pos, length}
use Prim.Native.String.{String}
use Rattle.format.specs.Basics.{minus}
use Rattle.format.specs.Text.{bytes, rows, begins}
use Rattle.format.specs.Column.{strip, is_digit, all_digits, value_of, is_number, negative, positive, signed, column_of}
use Rattle.format.specs.Corner.{fraction_ok, millimetres}
use Rattle.format.specs.Layout.{column, find, integer_at, number_at, all_formed, all_inside, column_fault, sheet_a, sheet_b, sheet_c, sheet_d, sheet_e, sheet_f, header, element, grid_header, net_header, data_3d, data_2d, data_note, data_attribute, data_grid, data_net}
use Rattle.format.specs.Record.{type_of, count_name, data_columns, direction_ok, data_fault, element_records, element_rule, grid_states, grid_needs, net_needs, header_view, element_view, grid_view, net_view, other_view, view}
use Rattle.format.specs.Sheet.{wholes_of, fractions_of, part_length, sheet_fault, corners, stated_elements, stated_records}
use Rattle.format.specs.Judge.{judge, judge_records, judge_sheet}
use Rattle.judge.specs.Sheet.{Sheet}
use Rattle.judge.specs.Sheet.{refused_sheet, opened_in}

-- records 1 to 5: of level 2500, so of unit 10 and with fractions in centimetres; the counts (I6, I7)
abbrev part : (counts : String) → List String
part counts =
    "M 09LD1234Example sheet        2500Town plan                      010               " ∷
    "  -1234   5678   -934   5978   " ∷ counts ∷ " 10   -933   5679  -1235   5979         " ∷
    "                                                                                    " ∷
    "2408240700Plotter                       Approval 1                    100           " ∷
    "Survey office                            -56  50  -1   2  -3  53 -57   4            " ∷ []

-- records 6 to 13: a layer; in it a group with a line of one point, and a group with a line of seven, whose data are records 12 and 13
abbrev body : List String
body =
    "H 2100 0   0   0 1    2    2    0    0    0    0    0    0    0    002408         0 " ∷
    "H 2100 0   0   0 2    1    0    0    1    0    0    0    0    0    002408         0 " ∷
    "E22101 0   0   1 3 02210 00   1   1      0      0        0       2408              1" ∷
    "   1000   -500                                                                      " ∷
    "H 2100 0   0   0 2    1    0    0    1    0    0    0    0    0    002408         0 " ∷
    "E22101 0   0   1 3 02210 00   7   2      0      0        0       2408              1" ∷
    "      0      0   1000      0   2000   -500   3000      0   4000      0   5000      0" ∷
    "   6000      0unused text is not judged                                             " ∷ []

-- the sheet opened at the place behind `before` of its records
abbrev opened : (counts : String) → (before : ℕ) → Sheet
opened counts before = let file : List ℕ = rows (part counts ++ body) in opened_in (length file) file before

-- accepted, two items; -1234 metres and -56 centimetres are -1234560 millimetres, and so on in the order of record 2
abbrev found : (due level start : ℕ) → (headers : List ℕ) → Sheet
found due level start headers = record {
  fault = 0;
  at = 0;
  items = 2;
  part = 5;
  unit = 10;
  corners = minus 1234560 ∷ pos 5678500 ∷ minus 934010 ∷ pos 5978020 ∷ minus 933030 ∷ pos 5679530 ∷ minus 1235570 ∷ pos 5979040 ∷ [];
  due = due;
  open_level = level;
  start = start;
  headers = headers;
}

-- places in the sheet part, behind it, in the first group, behind its line, among the data of the second line, at the end and past it
abbrev places : List ℕ
places = 3 ∷ 5 ∷ 8 ∷ 9 ∷ 12 ∷ 13 ∷ 99 ∷ []

abbrev standing : List Sheet
standing =
    found 0 0 5 (5 ∷ 5 ∷ 5 ∷ 5 ∷ 5 ∷ 5 ∷ 5 ∷ 5 ∷ 5 ∷ []) ∷
    found 0 0 5 (5 ∷ 5 ∷ 5 ∷ 5 ∷ 5 ∷ 5 ∷ 5 ∷ 5 ∷ 5 ∷ []) ∷
    found 1 2 8 (5 ∷ 6 ∷ 7 ∷ 5 ∷ 5 ∷ 5 ∷ 5 ∷ 5 ∷ 5 ∷ []) ∷
    found 0 2 8 (5 ∷ 6 ∷ 7 ∷ 5 ∷ 5 ∷ 5 ∷ 5 ∷ 5 ∷ 5 ∷ []) ∷
    found 1 2 11 (5 ∷ 6 ∷ 10 ∷ 5 ∷ 5 ∷ 5 ∷ 5 ∷ 5 ∷ 5 ∷ []) ∷
    found 0 2 11 (5 ∷ 6 ∷ 10 ∷ 5 ∷ 5 ∷ 5 ∷ 5 ∷ 5 ∷ 5 ∷ []) ∷
    found 0 2 11 (5 ∷ 6 ∷ 10 ∷ 5 ∷ 5 ∷ 5 ∷ 5 ∷ 5 ∷ 5 ∷ []) ∷ []

-- with a wrong record count the sheet is refused, and has no values
pub cases : (map (opened "     2      8") places ≡ standing) × (opened "     2      9" 12 ≡ refused_sheet 10 2)
unfolding bytes rows begins strip is_digit all_digits value_of is_number negative positive signed column_of fraction_ok millimetres column find integer_at number_at all_formed all_inside column_fault sheet_a sheet_b sheet_c sheet_d sheet_e sheet_f header element grid_header net_header data_3d data_2d data_note data_attribute data_grid data_net type_of count_name data_columns direction_ok data_fault element_records element_rule grid_states grid_needs net_needs header_view element_view grid_view net_view other_view view wholes_of fractions_of part_length sheet_fault corners stated_elements stated_records judge judge_records judge_sheet opened_in
cases = (refl, refl)
