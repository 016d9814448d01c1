-- The two definitions, computed: document 01's example sheet and files that differ from it in one place; an index. Assumes nothing.
use Rattle.std.specs.Prelude.{◌≡◌, refl, List, [], ◌∷◌, map, ℕ, pos}
use Prim.Native.String.{String}
use Rattle.format.specs.Basics.{minus}
use Rattle.format.specs.Text.{bytes, begins}
use Rattle.format.specs.Column.{strip, is_digit, all_digits, value_of, is_number, negative, positive, signed, column_of}
use Rattle.format.specs.Corner.{fraction_ok, millimetres}
use Rattle.format.specs.Layout.{column, find, integer_at, number_at, all_formed, all_inside, column_fault, index_a, index_b, index_c, sheet_a, sheet_b, sheet_c, sheet_d, sheet_e, sheet_f}
use Rattle.format.specs.Sheet.{wholes_of, fractions_of, part_length, sheet_fault, corners, stated_elements, stated_records}
use Rattle.format.specs.Index.{index_fault}
use Rattle.part_and_index.specs.Result.{SheetPart}
use Rattle.part_and_index.specs.Result.{IndexFault}
use Rattle.part_and_index.specs.Result.{refused_part, sheet_part_of, index_fault_of}

abbrev sheet-a : String
sheet-a = "M 09LD1234Example sheet         500Town plan                      010               "

-- the same with one revision: two sets
abbrev revised : String
revised = "M 09LD1234Example sheet         500Town plan                      110               "

abbrev sheet-b : String
sheet-b = "  -1234   5678   -934   5978        1      4  1   -934   5678  -1234   5978         "

-- unit 10, which does not go with level 500
abbrev other_unit : String
other_unit = "  -1234   5678   -934   5978        1      4 10   -934   5678  -1234   5978         "

abbrev sheet-c : String
sheet-c = "                                                                                    "

abbrev sheet-d : String
sheet-d = "2408240700Plotter                       Approval 1                    100           "

-- one f record for four courses
abbrev one_f : String
one_f = "2408240741Plotter                       Approval 1                    100           "

-- two f records for four courses, and one of them
abbrev two_f : String
two_f = "2408240742Plotter                       Approval 1                    100           "

abbrev sheet-f : String
sheet-f = "C1  0704 40003   1   3C2  0704 40003   1   3C3  0704 40003   1   3                  "

abbrev sheet-e : String
sheet-e = "Survey office                            -56  50   0   0   0  50 -56   0            "

-- the first fraction has the other sign than its whole
abbrev other_sign : String
other_sign = "Survey office                             56  50   0   0   0  50 -56   0            "

-- another first fraction, as allowed as the one above
abbrev other-corner : String
other-corner = "Survey office                            -57  50   0   0   0  50 -56   0            "

abbrev index-a : String
index-a = "I  9City survey office             10 1   1002008Regulation                    10   "

abbrev index-b : String
index-b = "09LD1234                                                                            "

abbrev index-c : String
index-c = "2101210101000000002Line                                                             "

-- records, and what is answered of them as a sheet part; as an index
abbrev sheets : List (List String)
sheets =
    (sheet-a ∷ sheet-b ∷ sheet-c ∷ sheet-d ∷ sheet-e ∷ []) ∷
    -- what follows the part is not judged
    (sheet-a ∷ sheet-b ∷ sheet-c ∷ sheet-d ∷ sheet-e ∷ index-a ∷ []) ∷
    (sheet-a ∷ sheet-b ∷ sheet-c ∷ sheet-d ∷ []) ∷
    [] ∷
    (index-a ∷ sheet-b ∷ []) ∷
    (sheet-a ∷ other_unit ∷ []) ∷
    (sheet-a ∷ sheet-b ∷ sheet-c ∷ one_f ∷ []) ∷
    (sheet-a ∷ sheet-b ∷ sheet-c ∷ two_f ∷ sheet-e ∷ sheet-f ∷ sheet-f ∷ []) ∷
    (sheet-a ∷ sheet-b ∷ sheet-c ∷ two_f ∷ sheet-e ∷ sheet-f ∷ sheet-a ∷ []) ∷
    (sheet-a ∷ sheet-b ∷ sheet-c ∷ sheet-d ∷ other_sign ∷ []) ∷
    -- "all are judged": the first e record of two
    (revised ∷ sheet-b ∷ sheet-c ∷ sheet-d ∷ other_sign ∷ sheet-d ∷ sheet-e ∷ []) ∷
    (revised ∷ sheet-b ∷ sheet-c ∷ sheet-d ∷ sheet-e ∷ []) ∷
    -- "The last e record gives the corners"
    (revised ∷ sheet-b ∷ sheet-c ∷ sheet-d ∷ other-corner ∷ sheet-d ∷ sheet-e ∷ []) ∷ []

-- -1234 metres and -56 millimetres are -1234056 millimetres, and so on in the order of record b
abbrev sound : ℕ → SheetPart
sound n = record { fault = 0; at = 0; length = n; stated_elements = 1; stated_records = 4; unit = 1; corners = minus 1234056 ∷ pos 5678050 ∷ minus 934000 ∷ pos 5978000 ∷ minus 934000 ∷ pos 5678050 ∷ minus 1234056 ∷ pos 5978000 ∷ [] }

abbrev sheet_answers : List SheetPart
sheet_answers =
    sound 5 ∷
    sound 5 ∷
    refused_part 3 1 ∷
    refused_part 3 1 ∷
    refused_part 2 1 ∷
    refused_part 6 2 ∷
    refused_part 6 4 ∷
    sound 7 ∷
    refused_part 5 7 ∷
    refused_part 9 5 ∷
    refused_part 9 5 ∷
    refused_part 3 1 ∷
    sound 7 ∷ []

abbrev indexes : List (List String)
indexes =
    (index-a ∷ index-b ∷ index-c ∷ []) ∷
    (index-a ∷ index-b ∷ []) ∷
    (index-a ∷ index-b ∷ index-c ∷ index-c ∷ []) ∷
    (sheet-a ∷ []) ∷ []

abbrev answer : ℕ → ℕ → IndexFault
answer number at = record { number = number; at = at }

abbrev index_answers : List IndexFault
index_answers =
    answer 0 0 ∷
    answer 3 1 ∷
    answer 10 1 ∷
    answer 2 1 ∷ []

pub cases : (map (λ (rs : List String). sheet_part_of (map bytes rs)) sheets ≡ sheet_answers) × (map (λ (rs : List String). index_fault_of (map bytes rs)) indexes ≡ index_answers)
unfolding bytes begins strip is_digit all_digits value_of is_number negative positive signed column_of fraction_ok column find integer_at number_at all_formed all_inside column_fault index_a index_b index_c sheet_a sheet_b sheet_c sheet_d sheet_e sheet_f wholes_of fractions_of part_length sheet_fault stated_elements stated_records millimetres corners index_fault sheet_part_of index_fault_of
cases = (refl, refl)
