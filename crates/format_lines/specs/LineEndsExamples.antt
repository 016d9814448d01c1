-- Examples of order 1, computed: format's example sheet and index with line ends, judged, and written over and back.
use Rattle.std.specs.Prelude.{◌≡◌, refl, List, [], ◌∷◌, ◌++◌, ℕ, replicate}
use Prim.Native.String.{String}
use Rattle.format.specs.Basics.{Answer, given, refused}
use Rattle.format.specs.Text.{bytes, rows, begins}
use Rattle.format.specs.Column.{strip, is_digit, all_digits, value_of, is_number, negative, positive, signed, column_of}
use Rattle.format.specs.Corner.{fraction_ok}
use Rattle.format.specs.Layout.{column, find, integer_at, number_at, all_formed, all_inside, column_fault, index_a, index_b, index_c, sheet_a, sheet_b, sheet_c, sheet_d, sheet_e, sheet_f, header, element, grid_header, net_header, data_3d, data_2d, data_note, data_attribute, data_grid, data_net}
use Rattle.format.specs.Record.{type_of, count_name, data_columns, direction_ok, data_fault, element_records, element_rule, grid_states, grid_needs, net_needs, header_view, element_view, grid_view, net_view, other_view, view}
use Rattle.format.specs.Sheet.{wholes_of, fractions_of, part_length, sheet_fault, stated_elements, stated_records}
use Rattle.format.specs.Index.{index_fault}
use Rattle.format.specs.Judge.{Counts, accepted, judge, judge_records, judge_index_records, judge_sheet, judge_index}
use Rattle.format.specs.Examples.{five, layer, item, example}
use Rattle.format_lines.specs.LineEnds.{line_end, with_end, without_end, end_ok, plain_fault, line_fault, plain_twin, line_twin, judge_sheet_lines, judge_index_lines, to_lines, from_lines}

-- rows of text, each with these bytes behind it; and with its line end
unfoldable pub rows_with : (end : List ℕ) → List String → List ℕ
rows_with end [] = []
rows_with end (t ∷ ts) = bytes t ++ (end ++ rows_with end ts)

abbrev pub lined : List String → List ℕ
lined ts = rows_with line_end ts

-- the sheet's nine records with line ends: 774 bytes
abbrev pub sheet : List ℕ
sheet = lined five ++ lined (layer ∷ item)

-- the same with line feed before carriage return from record 6 on
abbrev pub turned : List ℕ
turned = lined five ++ rows_with (10 ∷ 13 ∷ []) (layer ∷ item)

-- an index of one sheet with line ends: 258 bytes; and the same with record 3 unended
abbrev pub index_rows : List String
index_rows =
    "I  9City survey office              1 1   1002008Regulation                    10   " ∷
    "09LD1231                                                                            " ∷ []

abbrev pub index_row : String
index_row = "2101210101000000002Roads                                                            "

-- a lent target of n bytes
abbrev pub lent : ℕ → List ℕ
lent n = replicate n 126

-- ---- One table, one claim
pub data Example : Type 0 where
  judges : (used : ℕ) → (buffer : List ℕ) → Answer Counts → Example
  indexes : (used : ℕ) → (buffer : List ℕ) → Answer Counts → Example
  over : (used : ℕ) → (buffer target : List ℕ) → Answer ℕ → (after : List ℕ) → Example
  back : (used : ℕ) → (buffer target : List ℕ) → Answer ℕ → (after : List ℕ) → Example

abbrev pub table : List Example
table =
    -- "The judge otherwise answers as for the plain twin", whose 9 records and 1 item these are; bytes past the used length do not count
    judges 774 (sheet ++ lent 5) (accepted 9 1) ∷
    -- 1 "reads multiples of 86": 756 is one of 84
    judges 756 sheet (refused 1 0) ∷
    judges 0 sheet (refused 1 0) ∷
    -- 1 comes before 18
    judges 775 (turned ++ lent 1) (refused 1 0) ∷
    -- "18, a record not ending in 13, 10, directly after 1 with the first such record"
    judges 774 turned (refused 18 6) ∷
    -- .. before the twin's own: 3 at the item's header, as the last record is left out
    judges 688 turned (refused 18 6) ∷
    judges 688 sheet (refused 3 7) ∷
    -- an index
    indexes 258 (lined index_rows ++ lined (index_row ∷ [])) (accepted 3 0) ∷
    indexes 258 (lined index_rows ++ (bytes index_row ++ (13 ∷ 13 ∷ []))) (refused 18 3) ∷
    indexes 774 sheet (refused 2 1) ∷
    -- "answer the result's length, and leave the target past it as it stood"
    over 756 example (lent 780) (given 774) (sheet ++ lent 6) ∷
    back 774 sheet (lent 760) (given 756) (example ++ lent 4) ∷
    -- "refuse by 1, 18 and 15 only"; "a short target is 15, last"
    over 755 example (lent 0) (refused 1 0) (lent 0) ∷
    over 756 example (lent 773) (refused 15 0) (lent 773) ∷
    back 756 sheet (lent 0) (refused 1 0) (lent 0) ∷
    back 774 turned (lent 700) (refused 18 6) (lent 700) ∷
    back 774 sheet (lent 755) (refused 15 0) (lent 755) ∷ []

abbrev pub Says : Example → Type 0
Says (judges used buffer answer) = judge_sheet_lines used buffer ≡ answer
Says (indexes used buffer answer) = judge_index_lines used buffer ≡ answer
Says (over used buffer target answer after) = to_lines used buffer target ≡ record { answer = answer; bytes = after }
Says (back used buffer target answer after) = from_lines used buffer target ≡ record { answer = answer; bytes = after }

abbrev pub Every : List Example → Type 0
Every [] = Unit {0}
Every (e ∷ es) = Says e × Every es

pub examples : Every table
unfolding bytes rows begins strip is_digit all_digits value_of is_number negative positive signed column_of fraction_ok column find integer_at number_at all_formed all_inside column_fault index_a index_b index_c sheet_a sheet_b sheet_c sheet_d sheet_e sheet_f header element grid_header net_header data_3d data_2d data_note data_attribute data_grid data_net type_of count_name data_columns direction_ok data_fault element_records element_rule grid_states grid_needs net_needs header_view element_view grid_view net_view other_view view wholes_of fractions_of part_length sheet_fault stated_elements stated_records index_fault judge judge_records judge_index_records judge_sheet judge_index with_end without_end end_ok plain_fault line_fault plain_twin line_twin judge_sheet_lines judge_index_lines to_lines from_lines rows_with
examples = (refl, (refl, (refl, (refl, (refl, (refl, (refl, (refl, (refl, (refl, (refl, (refl, (refl, (refl, (refl, (refl, (refl, tt)))))))))))))))))
