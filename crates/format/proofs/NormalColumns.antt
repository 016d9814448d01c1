-- The columns by which each record is judged are those by which stage two judges it. Assumes nothing.
use mathlib.Core.Path.{◌≡◌, refl, ap}
use mathlib.Core.Bool.{Bool, true, false, cond}
use mathlib.Core.List.{List, [], ◌∷◌, ◌++◌, map}
use Prim.Native.Nat.{ℕ, zero, suc}
use lib.ListN.{length, drop, get_or}
use lib.Seq.{drop_at}
use Rattle.format.specs.Basics.{none, or_else, to_fault}
use Rattle.format.specs.Layout.{Col, all_formed, all_inside, column_fault}
use Rattle.format.specs.Record.{RecordType, H, E1, E2, E3, E4, E5, E6, E7, E8, G, T, other, Data, nothing, type_of, type_columns, header_view, element_view, grid_view, net_view, other_view, view_as, view, data_fault}
use Rattle.format.specs.Part.{Machine, part_from, part_fault}
use Rattle.format.specs.Sheet as Sheet
use Rattle.format.specs.Index as Index
use Rattle.format.specs.Judge.{fault_at, due_after, held_after, open_after, owner_after, walk}
use Rattle.format.specs.JudgedColumns.{part_judged, columns_at, body_judged, sheet_judged, sheet_wrong_by, index_wrong_by, part_fault_by, fault_by, walk_by}

-- ---- one record
-- of a sheet part or an index
pub sheet-wrong : (p : Sheet.Phase) (r : List ℕ) → sheet_wrong_by p (Sheet.phase_columns p) r ≡ Sheet.wrong_in p r
sheet-wrong Sheet.due_a r = refl
sheet-wrong (Sheet.due_b level more) r = refl
sheet-wrong (Sheet.due_c unit wholes more) r = refl
sheet-wrong (Sheet.due_d unit wholes more) r = refl
sheet-wrong (Sheet.due_e unit wholes more fs) r = refl
sheet-wrong (Sheet.due_f unit wholes more fs) r = refl
sheet-wrong Sheet.body r = refl

pub index-wrong : (p : Index.Stage) (r : List ℕ) → index_wrong_by p (Index.stage_columns p) r ≡ Index.wrong_in p r
index-wrong Index.due_a r = refl
index-wrong (Index.due_b bs cs) r = refl
index-wrong (Index.due_c cs) r = refl
index-wrong Index.over r = refl

-- of a header or an item, and of a data record
pub type_columns_lem : (r : List ℕ) → (view r).column_fault ≡ column_fault (type_columns (type_of r)) r
unfolding view header_view element_view grid_view net_view other_view column_fault all_formed all_inside
type_columns_lem r = at_type (type_of r)
  where
    at_type : (t : RecordType) → (view_as t r).column_fault ≡ column_fault (type_columns t) r
    at_type H = refl
    at_type E1 = refl
    at_type E2 = refl
    at_type E3 = refl
    at_type E4 = refl
    at_type E5 = refl
    at_type E6 = refl
    at_type E7 = refl
    at_type E8 = refl
    at_type G = refl
    at_type T = refl
    at_type other = refl

pub data_columns_lem : (held : Data) (behind : ℕ) (r : List ℕ) → (view r).fault_as_data held behind ≡ data_fault held behind r
unfolding view header_view element_view grid_view net_view other_view
data_columns_lem held behind r = at_type (type_of r)
  where
    at_type : (t : RecordType) → (view_as t r).fault_as_data held behind ≡ data_fault held behind r
    at_type H = refl
    at_type E1 = refl
    at_type E2 = refl
    at_type E3 = refl
    at_type E4 = refl
    at_type E5 = refl
    at_type E6 = refl
    at_type E7 = refl
    at_type E8 = refl
    at_type G = refl
    at_type T = refl
    at_type other = refl

pub body-fault : (opened due : ℕ) (held : Data) (r : List ℕ) → fault_by (columns_at due held r) opened due held r ≡ fault_at opened due held (view r)
unfolding data_fault
body-fault opened zero held r = rw (type_columns_lem r)
body-fault opened (suc due) held r = rw (data_columns_lem held due r)

-- ---- the walks
module _ (M : Machine) (wrong_by : M.Phase → List Col → List ℕ → ℕ) (columns : M.Phase → List Col) (same : (p : M.Phase) (r : List ℕ) → wrong_by p (columns p) r ≡ M.wrong p r) where
  pub part-fault : (p : M.Phase) (i : ℕ) (rs : List (List ℕ)) (more : List (List Col)) → part_fault_by M wrong_by (part_judged M columns p rs ++ more) p i rs ≡ part_fault M p i rs
  part-fault p i [] more = refl
  part-fault p i (r ∷ rs) more = at_test (M.over p) (part-fault (M.step p r) (suc i) rs more)
    where
      at_test : (t : Bool) → part_fault_by M wrong_by (part_judged M columns (M.step p r) rs ++ more) (M.step p r) (suc i) rs ≡ part_fault M (M.step p r) (suc i) rs → cond t none (or_else (to_fault (wrong_by p (get_or (cond t [] (columns p ∷ part_judged M columns (M.step p r) rs) ++ more) 0 []) r) i) (part_fault_by M wrong_by (drop 1 (cond t [] (columns p ∷ part_judged M columns (M.step p r) rs) ++ more)) (M.step p r) (suc i) rs)) ≡ cond t none (or_else (to_fault (M.wrong p r) i) (part_fault M (M.step p r) (suc i) rs))
      at_test true ih = refl
      at_test false ih = rw (same p r, ih)

module _ (M : Machine) (columns : M.Phase → List Col) where
  pub length_part : (p : M.Phase) (rs : List (List ℕ)) → length (part_judged M columns p rs) ≡ part_from M p rs
  length_part p [] = refl
  length_part p (r ∷ rs) = at_test (M.over p) (length_part (M.step p r) rs)
    where
      at_test : (t : Bool) → length (part_judged M columns (M.step p r) rs) ≡ part_from M (M.step p r) rs → length (cond t [] (columns p ∷ part_judged M columns (M.step p r) rs)) ≡ cond t 0 (suc (part_from M (M.step p r) rs))
      at_test true ih = refl
      at_test false ih = ap suc ih

pub body-walk : (opened due : ℕ) (held : Data) (owner number : ℕ) (rs : List (List ℕ)) → walk_by (body_judged due held rs) opened due held owner number rs ≡ walk opened due held owner number (map view rs)
body-walk opened due held owner number [] = refl
body-walk opened due held owner number (r ∷ rs) = rw (body-fault opened due held r) (ap (or_else (to_fault (fault_at opened due held (view r)) number)) (body-walk (open_after opened due (view r)) (due_after due (view r)) (held_after due held (view r)) (owner_after due owner number) (suc number) rs))

-- of the columns of a sheet, those behind the sheet part
pub sheet-behind : (rs : List (List ℕ)) → drop (Sheet.part_length rs) (sheet_judged rs) ≡ body_judged 0 nothing (drop (Sheet.part_length rs) rs)
unfolding sheet_judged Sheet.part_length
sheet-behind rs = drop_at (part_judged Sheet.sheet_machine Sheet.phase_columns Sheet.due_a rs) (body_judged 0 nothing (drop (Sheet.part_length rs) rs)) (Sheet.part_length rs) (length_part Sheet.sheet_machine Sheet.phase_columns Sheet.due_a rs)
