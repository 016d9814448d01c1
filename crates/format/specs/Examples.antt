-- Examples, computed: a whole sheet as text, with what the program prints, its corners, the way up, an item taken out and put in again; an
-- index; and the cases of "Around the edges" that bear no star.
use Rattle.std.specs.Prelude.{◌≡◌, refl, Bool, cond, List, [], ◌∷◌, ◌++◌, ℕ, zero, suc, ◌/◌, ℤ, pos, length, take, replicate}
use Prim.Native.String.{String}
use Rattle.format.specs.Basics.{Answer, given, refused, minus, chunks}
use Rattle.format.specs.Text.{bytes, rows, begins}
use Rattle.format.specs.Column.{strip, is_digit, all_digits, value_of, is_number, negative, positive, signed, column_of, digits_in, digits, text_of, fits, written, read_alone, write_alone}
use Rattle.format.specs.Corner.{fraction_ok, millimetres, join, split}
use Rattle.format.specs.Layout.{column, splice, find, integer_at, number_at, all_formed, all_inside, column_fault, index_a, index_b, index_c, sheet_a, sheet_b, sheet_c, sheet_d, sheet_e, sheet_f, header, element, grid_header, net_header, data_3d, data_2d, data_note, data_attribute, data_grid, data_net}
use Rattle.format.specs.Record.{type_of, count_name, data_columns, direction_ok, data_fault, element_records, element_rule, grid_states, grid_needs, net_needs, header_view, element_view, grid_view, net_view, other_view, view, rewrite, raise, lower}
use Rattle.format.specs.Sheet.{wholes_of, fractions_of, part_length, sheet_fault, corners, stated_elements, stated_records, write_counts}
use Rattle.format.specs.Index.{index_fault}
use Rattle.format.specs.Judge.{judge, judge_records, judge_index_records, judge_sheet, judge_index}
use Rattle.format.specs.Edit.{BlockItem, block_item}
use Rattle.format.specs.Calls.{Edit, plain, insert, remove}
use Rattle.format.specs.Run.{call, run_buffer, replies_buffer, in_four}
use Rattle.format.specs.Above.{to_header, up}
use Rattle.format.specs.Program.{line, printed}

-- "five sheet records, one layer, one E2 of 7 points in 2D": the five, of them d and e by name, the layer, and the line with its two
-- data records
abbrev pub d : String
d = "2408240700Plotter                       Approval 1                    100           "

abbrev pub e : String
e = "Survey office                            -56  50   0   0   0  50 -56   0            "

abbrev pub blank_row : String
blank_row = "                                                                                    "

abbrev pub five : List String
five =
    "M 09LD1234Example sheet         500Town plan                      010               " ∷
    "  -1234   5678   -934   5978        1      4  1   -934   5678  -1234   5978         " ∷
    blank_row ∷
    d ∷
    e ∷ []

abbrev pub layer : String
layer = "H 2100 0   0   0 1    1    0    0    1    0    0    0    0    0    002408         0 "

abbrev pub item : List String
item =
    "E22101 0   0   1 2 02210 00   7   2      0      0        0       2408              1" ∷
    "      0      0   1000      0   2000   -500   3000      0   4000      0   5000      0" ∷
    "   6000      0unused text is not judged                                             " ∷ []

abbrev pub example : List ℕ
example = rows five ++ (bytes layer ++ rows item)

-- the same "with header total 2"
abbrev pub wrong : List ℕ
wrong = rows five ++ (bytes "H 2100 0   0   0 1    2    0    0    1    0    0    0    0    0    002408         0 " ++ rows item)

-- the example without its item
abbrev pub emptied : List ℕ
emptied =
    rows (
    "M 09LD1234Example sheet         500Town plan                      010               " ∷
    "  -1234   5678   -934   5978        0      1  1   -934   5678  -1234   5978         " ∷
    blank_row ∷
    d ∷
    e ∷
    "H 2100 0   0   0 1    0    0    0    0    0    0    0    0    0    002408         0 " ∷ [])

-- an index of eleven sheets
abbrev pub index_file : List ℕ
index_file =
    rows (
    "I  9City survey office             11 2   1002008Regulation                    10   " ∷
    "09LD123109LD123209LD123309LD123409LD123509LD123609LD123709LD123809LD123909LD1240    " ∷
    "09LD1241                                                                            " ∷
    "2101210101000000002Roads                                                            " ∷ [])

-- ---- One table, one claim
pub data Example : Type 0 where
  reads : (column : String) → Answer ℤ → Example
  joins : (unit : ℕ) → (whole fraction : ℤ) → Answer ℤ → Example
  prints : (input : List ℕ) → (text : String) → Example
  grid_need : (rows columns records : ℕ) → Example
  grid_stated : (repeat column records : ℕ) → Example
  element_need : (kind count records : ℕ) → Example
  index : (record1 : String) → (number at : ℕ) → Example
  corners_are : (file : List ℕ) → (millimetres : List ℤ) → Example
  upwards : (file : List ℕ) → (number header passed : ℕ) → Example
  alone : (block : List ℕ) → Answer BlockItem → Example
  rewrites : (above : ℕ) → (item : String) → (starts widths : List ℕ) → Example
  edits : (calls : List Edit) → (file : List ℕ) → (behind : String) → (replies : List (Answer ℕ)) → (after : List ℕ) → Example

abbrev pub table : List Example
table =
    -- "All spaces, a plus sign, inner spaces and a minus before zeros only are refused", with however many zeros; "at most one minus", before
    -- the digits; and what is taken: leading zeros behind a minus too
    reads "+5" (refused 5 0) ∷
    reads "1 2" (refused 5 0) ∷
    reads "- 5" (refused 5 0) ∷
    reads "-00" (refused 5 0) ∷
    reads "--5" (refused 5 0) ∷
    reads "5-" (refused 5 0) ∷
    reads " -05" (given (minus 5)) ∷
    -- "in mm for unit 1 ..; otherwise in cm": unit 999 too
    joins 999 (minus 1234) (minus 56) (given (minus 1234560)) ∷
    -- "prints, whole: `accepted 9 records 1 items`"
    prints example "accepted 9 records 1 items" ∷
    -- "With header total 2 it prints `refused 10 at record 6`"
    prints wrong "refused 10 at record 6" ∷
    -- "1,000 x 1,080 points need 90,000 and cannot be stated": 89,999 is the most
    grid_need 1000 1080 90000 ∷
    grid_stated 9 9999 89999 ∷
    -- the grid of 70,000 records that the repeat column 8 and the column 0 state
    grid_need 1000 840 70000 ∷
    -- "2D: 6 points 1, 7 points 2"
    element_need 2 6 1 ∷
    element_need 2 7 2 ∷
    -- "991 sheets, record 1 well formed: 6, as b has two digits"
    index "I  9City survey office            99199   0002008Regulation                    10   " 6 1 ∷
    -- the corners of the example: level 500 has unit 1, so the fractions are millimetres
    corners_are example (minus 1234056 ∷ pos 5678050 ∷ minus 934000 ∷ pos 5978000 ∷ minus 934000 ∷ pos 5678050 ∷ minus 1234056 ∷ pos 5978000 ∷ []) ∷
    -- from the second data record: the layer's header, one header passed
    upwards example 9 6 1 ∷
    -- a block alone: a line, the second of a header's kinds, of level 2; 12 of no block, of one without its last record, of a header
    alone (rows item) (given (record { count_index = 2; level = 2 })) ∷
    alone [] (refused 12 0) ∷
    alone (take 168 (rows item)) (refused 12 0) ∷
    alone (bytes layer) (refused 12 0) ∷
    -- "four columns .. (total and own kind in the header above, both sheet counts)": the bytes of the example's file that a line under record 6
    -- rewrites, and a net, whose count is one byte wide
    rewrites 6 "E2" (115 ∷ 121 ∷ 438 ∷ 453 ∷ []) (6 ∷ 7 ∷ 5 ∷ 5 ∷ []) ∷
    rewrites 6 "T " (115 ∷ 121 ∷ 438 ∷ 488 ∷ []) (6 ∷ 7 ∷ 5 ∷ 1 ∷ []) ∷
    -- a removal at a header and one in the middle of an item, refused; the item taken out, and put in again; then all is as before
    edits (remove 6 ∷ remove 8 ∷ remove 7 ∷ insert 7 (rows item) ∷ []) example "behind" (refused 11 0 ∷ refused 11 0 ∷ given 504 ∷ given 756 ∷ []) (example ++ bytes "behind") ∷
    -- "Removal fills the freed end with spaces; bytes past that .. stay"; the four columns fall
    edits (remove 7 ∷ []) example "behind" (given 504 ∷ []) (emptied ++ (replicate 252 32 ++ bytes "behind")) ∷
    -- an index: eleven sheets in two b records, one c record; and one record too many
    prints index_file "accepted 4 records 0 items" ∷
    prints (index_file ++ bytes blank_row) "refused 10 at record 1" ∷ []

-- the numbers from `start` on, so many; those of some starts and widths; those below a number that pass a test
abbrev pub numbers : (start many : ℕ) → List ℕ
numbers start zero = []
numbers start (suc many) = start ∷ numbers (suc start) many

abbrev pub spans : (starts widths : List ℕ) → List ℕ
spans [] widths = []
spans (s ∷ starts) [] = []
spans (s ∷ starts) (w ∷ widths) = numbers s w ++ spans starts widths

abbrev pub passing : (ℕ → Bool) → List ℕ → List ℕ
passing test [] = []
passing test (n ∷ ns) = cond (test n) (n ∷ passing test ns) (passing test ns)

abbrev pub Says : Example → Type 0
Says (reads column a) = read_alone (bytes column) ≡ a
Says (joins unit whole fraction a) = join unit whole fraction ≡ a
Says (prints input text) = printed input ≡ bytes text ++ 10 ∷ []
Says (grid_need rows columns records) = grid_needs rows columns ≡ records
Says (grid_stated repeat column records) = grid_states repeat column ≡ records
Says (element_need kind count records) = element_records kind count ≡ records
Says (index record1 number at) = judge_index 84 (bytes record1) ≡ refused number at
Says (corners_are file millimetres) = corners (chunks (length file / 84) file) ≡ millimetres
Says (upwards file number header passed) = up (length file) file number ≡ given (to_header header passed)
Says (alone block a) = block_item block ≡ a
Says (rewrites above item starts widths) = passing (in_four above (view (bytes item))) (numbers 0 756) ≡ spans starts widths
Says (edits calls file behind replies after) =
    (replies_buffer calls (record { bytes = file ++ bytes behind; used = length file }) ≡ replies)
    × ((run_buffer calls (record { bytes = file ++ bytes behind; used = length file })).bytes ≡ after)

abbrev pub Every : List Example → Type 0
Every [] = Unit {0}
Every (e ∷ es) = Says e × Every es

pub examples : Every table
unfolding bytes rows begins strip is_digit all_digits value_of is_number negative positive signed column_of digits_in digits text_of fits written read_alone write_alone fraction_ok millimetres join split column splice find integer_at number_at all_formed all_inside column_fault index_a index_b index_c sheet_a sheet_b sheet_c sheet_d sheet_e sheet_f header element grid_header net_header data_3d data_2d data_note data_attribute data_grid data_net type_of count_name data_columns direction_ok data_fault element_records element_rule grid_states grid_needs net_needs header_view element_view grid_view net_view other_view view rewrite raise lower wholes_of fractions_of part_length sheet_fault corners stated_elements stated_records write_counts index_fault judge judge_records judge_index_records judge_sheet judge_index plain block_item call up line printed
examples = (refl, (refl, (refl, (refl, (refl, (refl, (refl, (refl, (refl, (refl, (refl, (refl, (refl, (refl, (refl, (refl, (refl, (refl, (refl, (refl, (refl, (refl, (refl, (refl, ((refl, refl), ((refl, refl), (refl, (refl, tt))))))))))))))))))))))))))))
