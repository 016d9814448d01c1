-- The judged columns of any record lie end to end, none wider than 18 bytes, and a record that passes has no fault in them. Assumes nothing.
use mathlib.Core.Path.{◌≡◌, refl, sym, ◌∙◌}
use mathlib.Core.Bool.{Bool, true}
use mathlib.Core.List.{List, [], ◌∷◌}
use Prim.Native.Nat.{ℕ, zero, suc, ◌*◌, ◌<◌}
use native.Mathlib.Omega.{arith}
use lib.Dec.{eqb}
use borrow.Author.Tests.{eqb-true}
use lib.ListN.{length, get_or}
use Rattle.format.specs.Basics.{unless}
use Rattle.format.specs.Text.{begins}
use Rattle.format.specs.Layout.{Col, all_formed, all_inside, column_fault, laid, every, layouts, widths_add_up, index_a, index_b, index_c, sheet_a, sheet_b, sheet_c, sheet_d, sheet_e, sheet_f, header, element, grid_header, net_header, data_3d, data_2d, data_note, data_attribute, data_grid, data_net}
use Rattle.format.specs.Record.{RecordType, H, E1, E2, E3, E4, E5, E6, E7, E8, G, T, other, Data, nothing, points_3d, points_2d, triangles, heights, notes, attributes, type_of, type_columns, data_columns, data_fault, used_in, view}
use Rattle.format.specs.Sheet as Sheet
use Rattle.format.specs.Index as Index
use Rattle.format.specs.Judge.{fault_at}
use Rattle.format.specs.JudgedColumns.{columns_at}
use Rattle.format.proofs.Basics.{and-true, first_zero}
use Rattle.format.proofs.JudgeWalks.{good}
use Rattle.format.proofs.NormalColumns.{type_columns_lem, data_columns_lem}
use Rattle.format.proofs.NormalRecords.{all_narrow, Table, take-table, no_table, laid_end_to_end}

-- ---- every list of judged columns is a layout, or the first columns of one
every-at : (test : List Col → Bool) (ls : List (List Col)) → every test ls ≡ true → (n : ℕ) → n < length ls → test (get_or ls n []) ≡ true
every-at test [] e n h = absurd (omega arith)
every-at test (l ∷ ls) e zero h = (and-true (test l) (every test ls) e).0
every-at test (l ∷ ls) e (suc n) h = every-at test ls (and-true (test l) (every test ls) e).1 n (omega arith)

none_wider : every all_narrow layouts ≡ true
unfolding layouts index_a index_b index_c sheet_a sheet_b sheet_c sheet_d sheet_e sheet_f header element grid_header net_header data_3d data_2d data_note data_attribute data_grid data_net
none_wider = refl

layout : (n : ℕ) → n < length layouts → Table (get_or layouts n [])
layout n h = record { end = laid_end_to_end 0 (get_or layouts n []) (eqb-true _ _ (every-at (λ l. eqb (laid 0 l) 84) layouts widths_add_up n h)); narrow = every-at all_narrow layouts none_wider n h }

pub sheet-table : (p : Sheet.Phase) → Table (Sheet.phase_columns p)
unfolding layouts
sheet-table Sheet.due_a = layout 3 (omega arith)
sheet-table (Sheet.due_b level more) = layout 4 (omega arith)
sheet-table (Sheet.due_c unit wholes more) = layout 5 (omega arith)
sheet-table (Sheet.due_d unit wholes more) = layout 6 (omega arith)
sheet-table (Sheet.due_e unit wholes more fs) = layout 7 (omega arith)
sheet-table (Sheet.due_f unit wholes more fs) = layout 8 (omega arith)
sheet-table Sheet.body = no_table

pub index-table : (p : Index.Stage) → Table (Index.stage_columns p)
unfolding layouts
index-table Index.due_a = layout 0 (omega arith)
index-table (Index.due_b bs cs) = layout 1 (omega arith)
index-table (Index.due_c cs) = layout 2 (omega arith)
index-table Index.over = no_table

pub type_table : (t : RecordType) → Table (type_columns t)
unfolding layouts
type_table H = layout 9 (omega arith)
type_table E1 = layout 10 (omega arith)
type_table E2 = layout 10 (omega arith)
type_table E3 = layout 10 (omega arith)
type_table E4 = layout 10 (omega arith)
type_table E5 = layout 10 (omega arith)
type_table E6 = layout 10 (omega arith)
type_table E7 = layout 10 (omega arith)
type_table E8 = layout 10 (omega arith)
type_table G = layout 11 (omega arith)
type_table T = layout 12 (omega arith)
type_table other = no_table

data_table : (held : Data) (behind : ℕ) → Table (data_columns held behind)
unfolding layouts data_columns
data_table nothing behind = no_table
data_table (points_3d count) behind = take-table (3 * used_in 4 count behind) data_3d (layout 13 (omega arith))
data_table (points_2d count) behind = take-table (2 * used_in 6 count behind) data_2d (layout 14 (omega arith))
data_table (triangles count) behind = take-table (3 * used_in 4 (3 * count) behind) data_net (layout 18 (omega arith))
data_table (heights count) behind = take-table (used_in 12 count behind) data_grid (layout 17 (omega arith))
data_table notes behind = layout 15 (omega arith)
data_table attributes behind = layout 16 (omega arith)

pub body-table : (due : ℕ) (held : Data) (r : List ℕ) → Table (columns_at due held r)
body-table zero held r = type_table (type_of r)
body-table (suc due) held r = data_table held due

-- ---- a record that passes has no fault in them
no_columns : (r : List ℕ) → column_fault [] r ≡ 0
unfolding column_fault all_formed all_inside
no_columns r = refl

pub sheet-sound : (p : Sheet.Phase) (r : List ℕ) → Sheet.wrong_in p r ≡ 0 → column_fault (Sheet.phase_columns p) r ≡ 0
sheet-sound Sheet.due_a r e = (first_zero (unless (begins "M " r) 2) _ e).1
sheet-sound (Sheet.due_b level more) r e = (first_zero (column_fault (Sheet.phase_columns (Sheet.due_b level more)) r) _ e).0
sheet-sound (Sheet.due_c unit wholes more) r e = e
sheet-sound (Sheet.due_d unit wholes more) r e = (first_zero (column_fault (Sheet.phase_columns (Sheet.due_d unit wholes more)) r) _ e).0
sheet-sound (Sheet.due_e unit wholes more fs) r e = (first_zero (column_fault (Sheet.phase_columns (Sheet.due_e unit wholes more fs)) r) _ e).0
sheet-sound (Sheet.due_f unit wholes more fs) r e = e
sheet-sound Sheet.body r e = no_columns r

pub index-sound : (p : Index.Stage) (r : List ℕ) → Index.wrong_in p r ≡ 0 → column_fault (Index.stage_columns p) r ≡ 0
index-sound Index.due_a r e = (first_zero (column_fault (Index.stage_columns Index.due_a) r) _ (first_zero (unless (begins "I " r) 2) _ e).1).0
index-sound (Index.due_b bs cs) r e = e
index-sound (Index.due_c cs) r e = e
index-sound Index.over r e = no_columns r

pub body-sound : (opened due : ℕ) (held : Data) (r : List ℕ) → fault_at opened due held (view r) ≡ 0 → column_fault (columns_at due held r) r ≡ 0
unfolding data_fault
body-sound opened zero held r e = sym (type_columns_lem r) ∙ (good opened held (view r) e).sound
body-sound opened (suc due) held r e = (first_zero (column_fault (data_columns held due) r) _ (sym (data_columns_lem held due r) ∙ e)).0
