-- Steps of the code: the first fault of each judged record, where it is due; an e record; the walk over the due records. Private functions alone
-- cite these. Assumes nothing.
use Rattle.std.specs.Prelude.{cond, List, [], ◌∷◌, ℕ, suc, eqb, ℤ}
use Rattle.format.specs.Basics.{first, unless}
use Rattle.format.specs.Layout.{column_fault, sheet_e}
use Rattle.format.specs.Sheet as Sheet
use Rattle.format.specs.Index as Index
use Rattle.part_and_index.specs.declared.due.Due.{Due}
use Rattle.part_and_index.specs.Progress.{Progress}
use Rattle.part_and_index.specs.Result.{SheetPart}
use Rattle.part_and_index.specs.Due.{is_over}
use Rattle.part_and_index.specs.Progress.{put, said_e, stepped}
use Rattle.part_and_index.specs.Result.{refused_part}

-- ---- the first fault of each judged record, where it is due
unfoldable pub fault_of_sheet_a : List ℕ → ℕ
fault_of_sheet_a r = Sheet.wrong_in Sheet.due_a r

unfoldable pub fault_of_sheet_b : (level : ℕ) → List ℕ → ℕ
fault_of_sheet_b level r = Sheet.wrong_in (Sheet.due_b level 0) r

unfoldable pub fault_of_sheet_d : List ℕ → ℕ
fault_of_sheet_d r = Sheet.wrong_in (Sheet.due_d 0 [] 0) r

-- of an e record, whose fractions were read apart: `Sheet.wrong_in` of a due e record where they are its own
unfoldable pub fault_of_sheet_e : (unit : ℕ) → (wholes fractions : List ℤ) → List ℕ → ℕ
fault_of_sheet_e unit wholes fractions r = first (column_fault sheet_e r) (unless (Sheet.fractions_ok unit wholes fractions) 9)

unfoldable pub fault_of_index_a : List ℕ → ℕ
fault_of_index_a r = Index.wrong_in Index.due_a r

-- an e record's fault and corners, with what is due next: its fractions serve both
abbrev pub over_e : List ℕ → Progress → Due → Progress
over_e r p next = said_e r (put p (fault_of_sheet_e p.unit p.wholes (Sheet.fractions_of r) r) next)

-- ---- the due records from the front, `passed` others being behind: what is answered where nothing is due, where a record has a fault and where one is missing
abbrev pub passed_part : Progress → (passed : ℕ) → SheetPart
passed_part p n = record { fault = 0; at = 0; length = n; stated_elements = p.stated_elements; stated_records = p.stated_records; unit = p.unit; corners = p.corners }

abbrev pub walked_from : Progress → (passed : ℕ) → List (List ℕ) → SheetPart
walked_from p n [] = cond (is_over p.due) (passed_part p n) (refused_part 3 1)
walked_from p n (r ∷ rs) =
    cond (is_over p.due) (passed_part p n) (
    cond (eqb (stepped p r).fault 0) (walked_from (stepped p r) (suc n) rs) (refused_part (stepped p r).fault (suc n)))
