-- Examples of orders 5 and 13, computed: the sheet of Examples, sheets of 0, 3, 4, 11, 12 and 22 empty layers, and one with a group, each with its directory.
use Rattle.std.specs.Prelude.{◌≡◌, refl, List, [], ◌∷◌, ◌++◌, ℕ, replicate}
use Prim.Native.String.{String}
use Rattle.format.specs.Basics.{Answer, given, refused}
use Rattle.format.specs.Text.{bytes, rows, begins}
use Rattle.format.specs.Column.{strip, is_digit, all_digits, value_of, is_number, negative, positive, signed, column_of, digits_in, digits, text_of, written}
use Rattle.format.specs.Corner.{fraction_ok}
use Rattle.format.specs.Layout.{column, find, integer_at, number_at, all_formed, all_inside, column_fault, sheet_a, sheet_b, sheet_c, sheet_d, sheet_e, sheet_f, header, element, grid_header, net_header, data_3d, data_2d, data_note, data_attribute, data_grid, data_net}
use Rattle.format.specs.Record.{type_of, count_name, data_columns, direction_ok, data_fault, element_records, element_rule, grid_states, grid_needs, net_needs, header_view, element_view, grid_view, net_view, other_view, view}
use Rattle.format.specs.Sheet.{wholes_of, fractions_of, part_length, sheet_fault, stated_elements, stated_records}
use Rattle.format.specs.Judge.{Counts, accepted, judge, judge_records, judge_sheet}
use Rattle.format_directory.specs.declared.Edition.{Edition}
use Rattle.format_directory.specs.declared.Edition.TheVariants.{One, Two}
use Rattle.std.specs.Prelude.{Result, Ok, Err}
use Rattle.format.specs.declared.Reason.{Reason}
use Rattle.format.specs.declared.Refusal.{Refusal}
use Rattle.format_directory.specs.declared.LayerEntry as Declared
use Rattle.format_directory.specs.Answers.{jumped_answer, jumped_either_answer}
use Rattle.format_directory.specs.Directory.{layers_of, total_of, last_of, row, closing, directory_of, last_record, number_in, is_written, closing_ok, judge_from, judge_edition, judge_directory, append_directory, sheet_in, directory_in, jump, is_second, edition_ok, judge_either_edition, LayerEntry, jump_either_edition}
use Rattle.format.specs.Examples.{example, wrong}

-- the sheet of nine records, of which record 6 is its one layer's header, and two records behind it
abbrev pub behind : String → String → List ℕ
behind z end = example ++ (bytes z ++ bytes end)

-- its directory
abbrev pub z_6 : String
z_6 = "Z       6                                                                           "

abbrev pub ze_10 : String
ze_10 = "ZE     10      1                                                                    "

-- a sheet of five records and so many layers without items, from record 6 on; its second record states how many records these are
abbrev pub empty_layer : String
empty_layer = "H 2100 0   0   0 1    0    0    0    0    0    0    0    0    0    002408         0 "

abbrev pub sheet : (second : String) → (layers : ℕ) → List ℕ
sheet second layers =
    rows (
    "M 09LD1234Example sheet         500Town plan                      010               " ∷
    second ∷
    "                                                                                    " ∷
    "2408240700Plotter                       Approval 1                    100           " ∷
    "Survey office                            -56  50   0   0   0  50 -56   0            " ∷ []
    ) ++
    rows (replicate layers empty_layer)

abbrev pub none : List ℕ
none = sheet "  -1234   5678   -934   5978        0      0  1   -934   5678  -1234   5978         " 0

abbrev pub three : List ℕ
three = sheet "  -1234   5678   -934   5978        0      3  1   -934   5678  -1234   5978         " 3

abbrev pub four : List ℕ
four = sheet "  -1234   5678   -934   5978        0      4  1   -934   5678  -1234   5978         " 4

abbrev pub eleven : List ℕ
eleven = sheet "  -1234   5678   -934   5978        0     11  1   -934   5678  -1234   5978         " 11

abbrev pub twelve : List ℕ
twelve = sheet "  -1234   5678   -934   5978        0     12  1   -934   5678  -1234   5978         " 12

abbrev pub twice_eleven : List ℕ
twice_eleven = sheet "  -1234   5678   -934   5978        0     22  1   -934   5678  -1234   5978         " 22

-- a sheet of two layers: a group in the first, in the group an attribute whose free data reads like the header of a layer; the second is empty
abbrev pub grouped : List ℕ
grouped =
    sheet "  -1234   5678   -934   5978        1      5  1   -934   5678  -1234   5978         " 0 ++
    rows (
    "H 2100 0   0   0 1    1    1    0    0    0    0    0    0    0    002408         0 " ∷
    "H 2100 0   0   0 2    1    0    0    0    0    0    0    0    0    102408         0 " ∷
    "E82101 0   0   1 3 05 00 00   1   1      0      0        0                         1" ∷
    empty_layer ∷
    empty_layer ∷ []
    )

abbrev pub z_6_10 : String
z_6_10 = "Z       6     10                                                                    "

abbrev pub ze_11 : String
ze_11 = "ZE     11      2                                                                    "

-- their directories: "up to eleven" numbers in a record
abbrev pub z_6_to_16 : String
z_6_to_16 = "Z       6      7      8      9     10     11     12     13     14     15     16     "

abbrev pub z_17_to_27 : String
z_17_to_27 = "Z      17     18     19     20     21     22     23     24     25     26     27     "

abbrev pub z_17 : String
z_17 = "Z      17                                                                           "

abbrev pub ze_6 : String
ze_6 = "ZE      6      0                                                                    "

abbrev pub ze_17 : String
ze_17 = "ZE     17     11                                                                    "

abbrev pub ze_18 : String
ze_18 = "ZE     18     12                                                                    "

abbrev pub ze_28 : String
ze_28 = "ZE     28     22                                                                    "

-- and those of the second edition: header, item total and last record of each, "up to three layers" in a record
abbrev pub y_6 : String
y_6 = "Y       6      1      9                                                             "

abbrev pub ye_10 : String
ye_10 = "YE     10      1      2                                                             "

abbrev pub ye_6 : String
ye_6 = "YE      6      0      2                                                             "

abbrev pub y_6_to_8 : String
y_6_to_8 = "Y       6      0      6      7      0      7      8      0      8                   "

abbrev pub ye_9 : String
ye_9 = "YE      9      3      2                                                             "

abbrev pub y_9 : String
y_9 = "Y       9      0      9                                                             "

abbrev pub ye_10_of_four : String
ye_10_of_four = "YE     10      4      2                                                             "

abbrev pub y_6_10 : String
y_6_10 = "Y       6      1      9     10      0     10                                        "

abbrev pub ye_11 : String
ye_11 = "YE     11      2      2                                                             "

-- a sheet of two layers: in the first a group of two attributes and, behind it, one of two data records, the second of which reads like the header of a layer
abbrev pub deep : List ℕ
deep =
    sheet "  -1234   5678   -934   5978        3     10  1   -934   5678  -1234   5978         " 0 ++
    rows (
    "H 2100 0   0   0 1    2    1    0    0    0    0    0    0    0    102408         0 " ∷
    "H 2100 0   0   0 2    2    0    0    0    0    0    0    0    0    202408         0 " ∷
    "E82101 0   0   1 3 05 00 00   1   1      0      0        0                         1" ∷
    empty_layer ∷
    "E82101 0   0   1 3 05 00 00   1   1      0      0        0                         1" ∷
    "another                                                                             " ∷
    "E82101 0   0   1 2 05 00 00   2   2      0      0        0                         1" ∷
    "free text of the attribute                                                          " ∷
    empty_layer ∷
    empty_layer ∷ []
    )

abbrev pub y_6_15 : String
y_6_15 = "Y       6      3     14     15      0     15                                        "

abbrev pub ye_16 : String
ye_16 = "YE     16      2      2                                                             "

-- seven empty layers, and their directory: three records of it
abbrev pub seven : List ℕ
seven = sheet "  -1234   5678   -934   5978        0      7  1   -934   5678  -1234   5978         " 7

abbrev pub seven-listed : List ℕ
seven-listed =
    seven ++
    rows (
    "Y       6      0      6      7      0      7      8      0      8                   " ∷
    "Y       9      0      9     10      0     10     11      0     11                   " ∷
    "Y      12      0     12                                                             " ∷
    "YE     13      7      2                                                             " ∷ []
    )

-- n bytes of something else
abbrev pub lent : ℕ → List ℕ
lent n = replicate n 126

-- ---- One table, one claim
pub data Example : Type 0 where
  answers : Result ℕ Refusal → Answer ℕ → Example
  judges : (used : ℕ) → (buffer : List ℕ) → Answer Counts → Example
  plainly : (used : ℕ) → (buffer : List ℕ) → Answer Counts → Example
  appends : (e : Edition) → (used : ℕ) → (buffer : List ℕ) → Answer ℕ → (after : List ℕ) → Example
  jumps : (used : ℕ) → (buffer : List ℕ) → (n : ℕ) → Answer ℕ → Example
  answers_either : Result Declared.LayerEntry Refusal → Answer LayerEntry → Example
  judges_either : (used : ℕ) → (buffer : List ℕ) → Answer Counts → Example
  jumps_either : (used : ℕ) → (buffer : List ℕ) → (n : ℕ) → Answer LayerEntry → Example

-- a jump's answer in either edition
abbrev pub layer : (header total last : ℕ) → Answer LayerEntry
layer header total last = given (record { header = header; total = total; last = last })

abbrev pub table : List Example
table =
    -- "an append the new used length; bytes past that stay"; "or of "ZE" itself for no layers"; 11 and 22 layers make one and two full records, and no empty one
    appends One 756 (example ++ lent 170) (given 924) (behind z_6 ze_10 ++ lent 2) ∷
    appends One 420 (none ++ lent 84) (given 504) (none ++ bytes ze_6) ∷
    appends One 1344 (eleven ++ lent 168) (given 1512) (eleven ++ rows (z_6_to_16 ∷ ze_17 ∷ [])) ∷
    appends One 1428 (twelve ++ lent 252) (given 1680) (twelve ++ rows (z_6_to_16 ∷ z_17 ∷ ze_18 ∷ [])) ∷
    appends One 2268 (twice_eleven ++ lent 252) (given 2520) (twice_eleven ++ rows (z_6_to_16 ∷ z_17_to_27 ∷ ze_28 ∷ [])) ∷
    -- a group is no layer, nor is a data record that reads like a header
    appends One 840 (grouped ++ lent 168) (given 1008) (grouped ++ rows (z_6_10 ∷ ze_11 ∷ [])) ∷
    judges 1008 (grouped ++ rows (z_6_10 ∷ ze_11 ∷ [])) (accepted 10 1) ∷
    judges 1008 (grouped ++ rows ("Z       6      7     10                                                             " ∷ "ZE     11      3                                                                    " ∷ [])) (refused 19 11) ∷
    judges 1008 (grouped ++ rows ("Z       6      9     10                                                             " ∷ "ZE     11      3                                                                    " ∷ [])) (refused 19 11) ∷
    jumps 1008 (grouped ++ rows (z_6_10 ∷ ze_11 ∷ [])) 2 (given 10) ∷
    -- a short buffer, and a sheet that is not accepted
    appends One 1428 (twelve ++ lent 251) (refused 15 0) (twelve ++ lent 251) ∷
    appends One 756 (wrong ++ lent 170) (refused 10 6) (wrong ++ lent 170) ∷
    -- "Accepted judging answers the sheet's records and items"; "Plain judging still refuses directory records with 4"
    judges 924 (behind z_6 ze_10) (accepted 9 1) ∷
    judges 504 (none ++ bytes ze_6) (accepted 5 0) ∷
    judges 1680 (twelve ++ rows (z_6_to_16 ∷ z_17 ∷ ze_18 ∷ [])) (accepted 17 0) ∷
    plainly 924 (behind z_6 ze_10) (refused 4 10) ∷
    -- "1 tests the used length against 0, the buffer and 84 only"
    judges 0 (behind z_6 ze_10) (refused 1 0) ∷
    judges 925 (behind z_6 ze_10 ++ lent 170) (refused 1 0) ∷
    judges 1008 (behind z_6 ze_10) (refused 1 0) ∷
    -- "19 with the last record if that is no well-formed "ZE"": no such letters; not in written form; a used rest; a pointer of 0, and one behind it
    judges 840 (behind z_6 ze_10) (refused 19 10) ∷
    judges 924 (behind z_6 "ZE0000010      1                                                                    ") (refused 19 11) ∷
    judges 924 (behind z_6 "ZE     10     01                                                                    ") (refused 19 11) ∷
    judges 924 (behind z_6 "ZE     10      1                                                                   .") (refused 19 11) ∷
    judges 924 (behind z_6 "ZE      0      1                                                                    ") (refused 19 11) ∷
    judges 924 (behind z_6 "ZE     12      1                                                                    ") (refused 19 11) ∷
    -- "then 1 to 10 on the sheet before the pointer": a pointer of 1 leaves none; a directory on a directory, and a second "ZE", leave a sheet that is no sheet
    judges 924 (behind z_6 "ZE      1      1                                                                    ") (refused 1 0) ∷
    judges 924 (behind z_6 "ZE     11      1                                                                    ") (refused 4 10) ∷
    judges 1092 (behind z_6 ze_10 ++ rows (z_6 ∷ "ZE     12      1                                                                    " ∷ [])) (refused 4 10) ∷
    -- "then 19, directory wrong, with the first record that differs": another number; leading zeros; a gap; a number too many; a used rest; another count, a negative one
    judges 924 (behind "Z       7                                                                           " ze_10) (refused 19 10) ∷
    judges 924 (behind "Z 0000006                                                                           " ze_10) (refused 19 10) ∷
    judges 924 (behind "Z              6                                                                    " ze_10) (refused 19 10) ∷
    judges 924 (behind "Z       6      7                                                                    " ze_10) (refused 19 10) ∷
    judges 924 (behind "Z       6                                                                          ." ze_10) (refused 19 10) ∷
    judges 924 (behind z_6 "ZE     10      2                                                                    ") (refused 19 11) ∷
    judges 924 (behind z_6 "ZE     10     -1                                                                    ") (refused 19 11) ∷
    -- a record that is not full before the last; one too many; one too few
    judges 1680 (twelve ++ rows (z_17 ∷ z_6_to_16 ∷ ze_18 ∷ [])) (refused 19 18) ∷
    judges 1008 (behind z_6 ze_10 ++ bytes ze_10) (refused 19 12) ∷
    judges 840 (example ++ bytes ze_10) (refused 19 10) ∷
    judges 1596 (twelve ++ rows (z_6_to_16 ∷ ze_18 ∷ [])) (refused 19 19) ∷
    -- jumping; "then 17 for a layer outside the count, layers counted from 1"; first the file's own
    jumps 1680 (twelve ++ rows (z_6_to_16 ∷ z_17 ∷ ze_18 ∷ [])) 11 (given 16) ∷
    jumps 1680 (twelve ++ rows (z_6_to_16 ∷ z_17 ∷ ze_18 ∷ [])) 12 (given 17) ∷
    jumps 1680 (twelve ++ rows (z_6_to_16 ∷ z_17 ∷ ze_18 ∷ [])) 13 (refused 17 0) ∷
    jumps 924 (behind z_6 ze_10) 0 (refused 17 0) ∷
    jumps 504 (none ++ bytes ze_6) 1 (refused 17 0) ∷
    jumps 840 (behind z_6 ze_10) 1 (refused 19 10) ∷
    -- what the code's answer says
    answers (Ok 16) (given 16) ∷
    answers (Err (record { reason = Reason.Directory; at = 10 })) (refused 19 10) ∷
    -- order 13: of 0, 3 and 4 layers; three layers fill a record; a short buffer
    appends Two 756 (example ++ lent 170) (given 924) (behind y_6 ye_10 ++ lent 2) ∷
    appends Two 420 (none ++ lent 84) (given 504) (none ++ bytes ye_6) ∷
    appends Two 672 (three ++ lent 168) (given 840) (three ++ rows (y_6_to_8 ∷ ye_9 ∷ [])) ∷
    appends Two 756 (four ++ lent 252) (given 1008) (four ++ rows (y_6_to_8 ∷ y_9 ∷ ye_10_of_four ∷ [])) ∷
    appends Two 756 (four ++ lent 251) (refused 15 0) (four ++ lent 251) ∷
    -- "each layer's item total, at any depth": an item in a group counts, the group's header and a data record that reads like a header do not
    appends Two 840 (grouped ++ lent 168) (given 1008) (grouped ++ rows (y_6_10 ∷ ye_11 ∷ [])) ∷
    judges_either 1008 (grouped ++ rows (y_6_10 ∷ ye_11 ∷ [])) (accepted 10 1) ∷
    -- "new ones read both"; the old ones "refuse it with 19 at the last record", plain judging with 4
    judges_either 924 (behind y_6 ye_10) (accepted 9 1) ∷
    judges_either 924 (behind z_6 ze_10) (accepted 9 1) ∷
    judges_either 504 (none ++ bytes ye_6) (accepted 5 0) ∷
    judges_either 1008 (four ++ rows (y_6_to_8 ∷ y_9 ∷ ye_10_of_four ∷ [])) (accepted 9 0) ∷
    judges 924 (behind y_6 ye_10) (refused 19 11) ∷
    jumps 924 (behind y_6 ye_10) 1 (refused 19 11) ∷
    plainly 924 (behind y_6 ye_10) (refused 4 10) ∷
    -- "27 .. when that starts "YE" but its edition column is not 2 in written form": 0, 1, 3, a leading zero; blank, so edition 1's columns behind "YE"
    judges_either 924 (behind y_6 "YE     10      1      0                                                             ") (refused 27 11) ∷
    judges_either 924 (behind y_6 "YE     10      1      1                                                             ") (refused 27 11) ∷
    judges_either 924 (behind y_6 "YE     10      1      3                                                             ") (refused 27 11) ∷
    judges_either 924 (behind y_6 "YE     10      1     02                                                             ") (refused 27 11) ∷
    judges_either 924 (behind z_6 "YE     10      1                                                                    ") (refused 27 11) ∷
    -- "tested directly after 1": behind a used length that is no multiple of 84; before a pointer of 0, and for that 19
    judges_either 925 (behind y_6 "YE     10      1      0                                                             " ++ lent 1) (refused 1 0) ∷
    judges_either 924 (behind y_6 "YE      0      1      3                                                             ") (refused 27 11) ∷
    judges_either 924 (behind y_6 "YE      0      1      2                                                             ") (refused 19 11) ∷
    -- the letters of one edition and the records of the other
    judges_either 924 (behind y_6 ze_10) (refused 19 10) ∷
    judges_either 924 (behind z_6 ye_10) (refused 19 10) ∷
    -- "exactly when all three numbers are right for each layer": another total, another last record; a group's header among the items; a record that is not full before the last
    judges_either 924 (behind "Y       6      2      9                                                             " ye_10) (refused 19 10) ∷
    judges_either 924 (behind "Y       6      1     10                                                             " ye_10) (refused 19 10) ∷
    judges_either 1008 (grouped ++ rows ("Y       6      2      9     10      0     10                                        " ∷ ye_11 ∷ [])) (refused 19 11) ∷
    judges_either 1008 (four ++ rows ("Y       6      0      6                                                             " ∷ "Y       7      0      7      8      0      8      9      0      9                   " ∷ ye_10_of_four ∷ [])) (refused 19 10) ∷
    -- jumping, "with total and last beside them, both 0 for edition 1"
    jumps_either 924 (behind y_6 ye_10) 1 (layer 6 1 9) ∷
    jumps_either 924 (behind z_6 ze_10) 1 (layer 6 0 0) ∷
    jumps_either 1008 (grouped ++ rows (y_6_10 ∷ ye_11 ∷ [])) 2 (layer 10 0 10) ∷
    jumps_either 1008 (four ++ rows (y_6_to_8 ∷ y_9 ∷ ye_10_of_four ∷ [])) 4 (layer 9 0 9) ∷
    jumps_either 1008 (four ++ rows (y_6_to_8 ∷ y_9 ∷ ye_10_of_four ∷ [])) 5 (refused 17 0) ∷
    jumps_either 924 (behind y_6 "YE     10      1      3                                                             ") 1 (refused 27 11) ∷
    -- a layer of three items, two of them in a group; seven layers take three records
    appends Two 1260 (deep ++ lent 168) (given 1428) (deep ++ rows (y_6_15 ∷ ye_16 ∷ [])) ∷
    judges_either 1428 (deep ++ rows (y_6_15 ∷ ye_16 ∷ [])) (accepted 15 3) ∷
    judges_either 1428 (deep ++ rows ("Y       6      1     14     15      0     15                                        " ∷ ye_16 ∷ [])) (refused 19 16) ∷
    jumps_either 1428 (deep ++ rows (y_6_15 ∷ ye_16 ∷ [])) 1 (layer 6 3 14) ∷
    judges_either 1344 seven-listed (accepted 12 0) ∷
    jumps_either 1344 seven-listed 7 (layer 12 0 12) ∷
    jumps_either 1680 (twelve ++ rows (z_6_to_16 ∷ z_17 ∷ ze_18 ∷ [])) 11 (layer 16 0 0) ∷
    jumps_either 924 (behind y_6 ye_10) 0 (refused 17 0) ∷
    -- both letters of a last record name its edition; 27 is asked of its edition column alone, and that alone is 27
    judges_either 840 (behind y_6 ye_10) (refused 19 10) ∷
    judges_either 924 (behind y_6 "YE0000010      1      3                                                             ") (refused 27 11) ∷
    judges_either 924 (behind y_6 "YE     10      1      2                                                            .") (refused 19 11) ∷
    -- a last record that is not well formed comes before the sheet, the sheet before the comparison; a count that is negative is well formed
    judges 924 (wrong ++ rows (z_6 ∷ "ZE     10     01                                                                    " ∷ [])) (refused 19 11) ∷
    judges 924 (wrong ++ rows (z_6 ∷ "ZE     10      1                                                                   ." ∷ [])) (refused 19 11) ∷
    judges 924 (wrong ++ rows (z_6 ∷ ze_10 ∷ [])) (refused 10 6) ∷
    judges_either 924 (wrong ++ rows (y_6 ∷ "YE     10     01      2                                                             " ∷ [])) (refused 19 11) ∷
    judges_either 924 (wrong ++ rows (y_6 ∷ "YE     10      1      2                                                            ." ∷ [])) (refused 19 11) ∷
    judges_either 924 (wrong ++ rows (y_6 ∷ ye_10 ∷ [])) (refused 10 6) ∷
    judges 924 (behind "Z       7                                                                           " "ZE     10     -1                                                                    ") (refused 19 10) ∷
    -- what the code's answer says
    answers_either (Ok (record { header = 6; total = 1; last = 9 })) (layer 6 1 9) ∷
    answers_either (Err (record { reason = Reason.Edition; at = 11 })) (refused 27 11) ∷ []

abbrev pub Says : Example → Type 0
Says (answers jumped answer) = jumped_answer jumped ≡ answer
Says (judges used buffer answer) = judge_directory used buffer ≡ answer
Says (plainly used buffer answer) = judge_sheet used buffer ≡ answer
Says (appends e used buffer answer after) = append_directory e used buffer ≡ record { answer = answer; bytes = after }
Says (jumps used buffer n answer) = jump used buffer n ≡ answer
Says (answers_either jumped answer) = jumped_either_answer jumped ≡ answer
Says (judges_either used buffer answer) = judge_either_edition used buffer ≡ answer
Says (jumps_either used buffer n answer) = jump_either_edition used buffer n ≡ answer

abbrev pub Every : List Example → Type 0
Every [] = Unit {0}
Every (e ∷ es) = Says e × Every es

pub examples : Every table
unfolding bytes rows begins strip is_digit all_digits value_of is_number negative positive signed column_of digits_in digits text_of written fraction_ok column find integer_at number_at all_formed all_inside column_fault sheet_a sheet_b sheet_c sheet_d sheet_e sheet_f header element grid_header net_header data_3d data_2d data_note data_attribute data_grid data_net type_of count_name data_columns direction_ok data_fault element_records element_rule grid_states grid_needs net_needs header_view element_view grid_view net_view other_view view wholes_of fractions_of part_length sheet_fault stated_elements stated_records judge judge_records judge_sheet layers_of total_of last_of row closing directory_of last_record number_in is_written closing_ok judge_from judge_edition judge_directory append_directory sheet_in directory_in jump jumped_answer is_second edition_ok judge_either_edition jump_either_edition jumped_either_answer
examples = (refl, (refl, (refl, (refl, (refl, (refl, (refl, (refl, (refl, (refl, (refl, (refl, (refl, (refl, (refl, (refl, (refl, (refl, (refl, (refl, (refl, (refl, (refl, (refl, (refl, (refl, (refl, (refl, (refl, (refl, (refl, (refl, (refl, (refl, (refl, (refl, (refl, (refl, (refl, (refl, (refl, (refl, (refl, (refl, (refl, (refl, (refl, (refl, (refl, (refl, (refl, (refl, (refl, (refl, (refl, (refl, (refl, (refl, (refl, (refl, (refl, (refl, (refl, (refl, (refl, (refl, (refl, (refl, (refl, (refl, (refl, (refl, (refl, (refl, (refl, (refl, (refl, (refl, (refl, (refl, (refl, (refl, (refl, (refl, (refl, (refl, (refl, (refl, (refl, (refl, (refl, (refl, (refl, (refl, (refl, (refl, (refl, (refl, (refl, (refl, (refl, tt)))))))))))))))))))))))))))))))))))))))))))))))))))))))))))))))))))))))))))))))))))))))))))))))))))))
