-- What a table and the lists ask of a record is what its layout asks of it. Assumes nothing.
use mathlib.Core.Path.{◌≡◌, refl, ap₂, ◌∙◌}
use mathlib.Core.Bool.{Bool, true, false, cond, ◌&&◌, and_assoc}
use mathlib.Core.List.{List, [], ◌∷◌}
use Prim.Native.Nat.{ℕ, ◌+◌, ◌≤◌}
use borrow.Author.Tests.{leb-true, ne_eqb}
use lib.Dec.{leb}
use lib.IntN.{pos}
use lib.ListN.{length}
use Rattle.std.proofs.Math.Bool.{or_comm}
use Rattle.format.specs.Basics.{first, unless}
use Rattle.std.specs.Prelude.{Some, None}
use Rattle.format.specs.Column.{column_of, formed, integer}
use Rattle.format.specs.Layout.{Rule, What, text, blank, integral, integral_or_spaces, Col, column, inside, is_formed, is_inside, all_formed, all_inside, column_fault}
use Rattle.format.proofs.Basics.{and-true}
use Rattle.format.proofs.Columns.{length-column}
use Rattle.columns.specs.InRecord.{column_at}
use Rattle.columns.proofs.Laws.{column-at-inside}
use Rattle.columns.proofs.Spaces.{spaces-at-inside}
use Rattle.layouts.specs.declared.TableColumn.{TableColumn}
use Rattle.layouts.specs.Tables.{tabled, is_numeric, low, high, rule_of, listed, table_form, table_column, table_of, Table}
use Rattle.layouts.proofs.Ranges.{inside-between}
use Rattle.layouts.proofs.Tabled.{formed-tabled, inside-tabled}
use Rattle.layouts.proofs.Lies.{lies_at, lies, all_lie, lies_is}
use Rattle.layout_faults.specs.Faults.{fault_in}
use Rattle.layout_faults.specs.Tables.{integer_or_spaces, between, formed_by, between_by, inside_if, formed_at, between_at, table_told, all_listed}

module _ (l : List ℕ) (whole : length l ≡ 84) where
  -- one column
  module _ (start width : ℕ) (most : width ≤ 18) (ends : start + width ≤ 84) where
    what-it-says : column_at l start width ≡ column_of (column start width l)
    what-it-says = column-at-inside l start width (rw whole ends) most

    its_width : length (column start width l) ≡ width
    its_width = length-column start width l (rw whole ends)

    within_rule : (rule : Rule) → between (low rule width) (high rule width) (integer (column_at l start width)) && listed rule (integer (column_at l start width)) ≡ inside rule (integer (column_of (column start width l)))
    within_rule rule = rw (what-it-says, inside-between rule (column start width l), its_width) (simp and_assoc)

  -- the same where that is computed
  module _ (start width : ℕ) (w : leb width 18 ≡ true) (e : leb (start + width) 84 ≡ true) where
    pub says : column_at l start width ≡ column_of (column start width l)
    says = what-it-says start width (leb-true width 18 w) (leb-true (start + width) 84 e)

    pub width_is : length (column start width l) ≡ width
    width_is = its_width start width (leb-true width 18 w) (leb-true (start + width) 84 e)

  -- by what stands in it
  module _ (start width : ℕ) where
    formed_one : (k : What) (c : TableColumn) → c.start ≡ start → c.width ≡ width → lies_at k start width ≡ true → formed_by (table_form k) l c ≡ is_formed k (column start width l)
    unfolding integer_or_spaces
    formed_one text c s w h = refl
    formed_one blank c s w h = refl
    formed_one (integral rule) c s w h = let at = lies_is start width h in rw (s, w, what-it-says start width at.most at.ends)
    formed_one integral_or_spaces c s w h =
        let at = lies_is start width h in
        rw (s, w, what-it-says start width at.most at.ends, spaces-at-inside l start width (rw whole at.ends), or_comm (formed (column_of (column start width l))))

    inside_one : (k : What) → lies_at k start width ≡ true → between_by (table_form k) l (record { start = start; width = width; form = table_form k; low = cond (is_numeric k) (low (rule_of k) width) (pos 0); high = cond (is_numeric k) (high (rule_of k) width) (pos 0) }) && listed (rule_of k) (integer (column_at l start width)) ≡ is_inside k (column start width l)
    inside_one text h = refl
    inside_one blank h = refl
    inside_one (integral rule) h = let at = lies_is start width h in within_rule start width at.most at.ends rule
    inside_one integral_or_spaces h = refl

  swap : (a b c d : Bool) → (a && b) && (c && d) ≡ (a && c) && (b && d)
  swap true true c d = refl
  swap true false true d = refl
  swap true false false d = refl
  swap false b c d = refl

  pub formed-table : (t : List Col) → all_lie t ≡ true → formed_at l (table_of t) ≡ all_formed t l
  unfolding formed_at all_formed table_of
  formed-table [] h = refl
  formed-table (c ∷ cs) h =
      let p = and-true (lies c) (all_lie cs) h in
      ap₂ ◌&&◌ (formed_one c.start c.width c.what (table_column c) refl refl p.0) (formed-table cs p.1)

  pub inside-table : (t : List Col) → all_lie t ≡ true → between_at l (table_of t) && all_listed t l ≡ all_inside t l
  unfolding between_at all_inside all_listed table_of
  inside-table [] h = refl
  inside-table (c ∷ cs) h =
      let p = and-true (lies c) (all_lie cs) h in
      swap (between_by (table_form c.what) l (table_column c)) (between_at l (table_of cs)) (listed (rule_of c.what) (integer (column_at l c.start c.width))) (all_listed cs l) ∙ ap₂ ◌&&◌ (inside_one c.start c.width c.what p.0) (inside-table cs p.1)

-- ---- a layout, by its table

-- bytes that are no record
pub no_record : (layout : List Col) (l : List ℕ) → (length l ≡ 84 → ⊥) → 5 ≡ fault_in layout l
unfolding fault_in
no_record layout l n = rw (ne_eqb (length l) 84 n)

-- a record's fault: 5 where a column of its table is malformed; else 6 where a number of it is outside its ends, or one of a list is not of it
module _ (layout : List Col) (l : List ℕ) (whole : length l ≡ 84) (table : List TableColumn) (is : Table layout table) (lie : all_lie (tabled layout) ≡ true) where
  by_table : fault_in layout l ≡ first (unless (formed_at l table) 5) (unless (between_at l table && all_listed (tabled layout) l) 6)
  unfolding fault_in column_fault
  by_table = rw (whole, is.are, formed-tabled l layout, inside-tabled l layout, ← formed-table l whole (tabled layout) lie, ← inside-table l whole (tabled layout) lie) refl

  -- what the code read is r
  module _ (r : List ℕ) (same : r ≡ l) where
    pub malformed : None ≡ table_told r table → 5 ≡ fault_in layout l
    unfolding table_told
    malformed e = rw by_table (go (formed_at l table) (rw same at e))
      where
        go : (f : Bool) → None ≡ inside_if f (between_at l table) → 5 ≡ first (unless f 5) (unless (between_at l table && all_listed (tabled layout) l) 6)
        go false e = refl
        go true e = absurd (cc)

    -- its numbers are inside their ends or not, and those of lists of them or not
    pub well_formed : (inside listed t : Bool) → Some inside ≡ table_told r table → listed ≡ all_listed (tabled layout) l → inside && listed ≡ t → unless t 6 ≡ fault_in layout l
    unfolding table_told
    well_formed inside listed t e k h = rw (by_table, ← k, ← h) (go (formed_at l table) (rw same at e))
      where
        go : (f : Bool) → Some inside ≡ inside_if f (between_at l table) → unless (inside && listed) 6 ≡ first (unless f 5) (unless (between_at l table && listed) 6)
        go true e = let b : inside ≡ between_at l table = cc in rw b refl
        go false e = absurd (cc)
