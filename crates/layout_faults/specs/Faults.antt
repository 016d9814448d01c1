-- The first fault of one record's own columns. Assumes nothing.
use Rattle.std.specs.Prelude.{cond, List, ℕ, eqb, length}
use Rattle.format.specs.Layout.{Col, column_fault}

-- 5: "an integer column is malformed"; 6: "an integer outside its range or list"; every 5 of a record comes before its 6; 0 for none.
-- "records of 84 bytes": others do not hold the columns of a layout, and answer 5
unfoldable pub fault_in : List Col → List ℕ → ℕ
fault_in table l = cond (eqb (length l) 84) (column_fault table l) 5
