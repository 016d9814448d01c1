-- Judging takes the same step at a record and at its normal form. Assumes nothing.
use mathlib.Core.Path.{◌≡◌, refl, ap, sym, ◌∙◌}
use mathlib.Core.Bool.{Bool}
use mathlib.Core.List.{List, [], ◌∷◌}
use Prim.Native.Nat.{ℕ, zero, suc}
use Prim.Native.String.{String}
use native.Mathlib.Omega.{arith}
use lib.Dec.{eqb}
use lib.ListN.{length}
use Rattle.format.specs.Basics.{first, unless}
use Rattle.format.specs.Text.{bytes, begins}
use Rattle.format.specs.Layout.{Col, column, column_fault, number_at, index_a, sheet_a, sheet_b, sheet_d, sheet_e, header, element, grid_header, net_header, data_note}
use Rattle.format.specs.Record.{head, RecordType, H, E1, E2, E3, E4, E5, E6, E7, E8, G, T, other, Data, nothing, points_3d, points_2d, triangles, heights, notes, attributes, View, type_of, type_columns, data_columns, data_rule, data_fault, direction_ok, element_rule, count_name, header_view, element_view, grid_view, net_view, view_as, view}
use Rattle.format.specs.Sheet as Sheet
use Rattle.format.specs.Index as Index
use Rattle.format.specs.Judge.{fault_at, open_after, due_after, held_after}
use Rattle.format.specs.Normal.{normal_record}
use Rattle.format.specs.JudgedColumns.{columns_at, EachColumn}
use Rattle.format.proofs.Basics.{first_zero, zero_first}
use Rattle.format.proofs.RecordHeaders.{start_two}
use Rattle.format.proofs.JudgeWalks.{Good, good, good_fault_at}
use Rattle.format.proofs.NormalColumns.{type_columns_lem, data_columns_lem}
use Rattle.format.proofs.NormalRecords.{normalised}
use Rattle.format.proofs.NormalTables.{sheet-table, index-table, type_table, body-table, sheet-sound, index-sound, body-sound}
use Rattle.format.proofs.NormalReads.{EachStill, number_at-same, integer_at-same, sound_still, own_normal, normal_still}

-- ---- the sheet part
all_at-same : (l : List Col) (names : List String) (r x : List ℕ) → EachStill l r x → Sheet.all_at l names x ≡ Sheet.all_at l names r
all_at-same l [] r x k = refl
all_at-same l (n ∷ ns) r x k = rw (integer_at-same r x l k n, all_at-same l ns r x k)

begins-same : (t : String) (r x : List ℕ) → length (bytes t) ≡ 2 → column 0 2 x ≡ column 0 2 r → begins t x ≡ begins t r
unfolding begins column
begins-same t r x l e = rw (l, e)

sheet_type : (r x : List ℕ) → EachColumn sheet_a r x → column 0 2 x ≡ column 0 2 r
unfolding sheet_a
sheet_type r x k = k.0

index_type : (r x : List ℕ) → EachColumn index_a r x → column 0 2 x ≡ column 0 2 r
unfolding index_a
index_type r x k = k.0

-- columns in order, then a rule that reads the same
rule_still : (l : List Col) (r x : List ℕ) (n : ℕ) (a b : Bool) → EachStill l r x → b ≡ a → first (column_fault l r) (unless a n) ≡ 0 → first (column_fault l x) (unless b n) ≡ 0
rule_still l r x n a b k same e = let p = first_zero (column_fault l r) (unless a n) e in zero_first (column_fault l x) (unless b n) (sound_still r x l k p.0) (rw same p.1)

-- the phase afterwards, and no fault
sheet-step : (p : Sheet.Phase) (r x : List ℕ) → Sheet.wrong_in p r ≡ 0 → EachStill (Sheet.phase_columns p) r x → EachColumn (Sheet.phase_columns p) r x → (Sheet.after p x ≡ Sheet.after p r) × (Sheet.wrong_in p x ≡ 0)
unfolding Sheet.wholes_of Sheet.fractions_of bytes
sheet-step Sheet.due_a r x e k c = let q = first_zero (unless (begins "M " r) 2) (column_fault sheet_a r) e in (rw (number_at-same r x sheet_a k "level", number_at-same r x sheet_a k "revisions"), zero_first (unless (begins "M " x) 2) (column_fault sheet_a x) (rw (begins-same "M " r x refl (sheet_type r x c)) q.0) (sound_still r x sheet_a k q.1))
sheet-step (Sheet.due_b level more) r x e k c = (rw (number_at-same r x sheet_b k "unit", all_at-same sheet_b Sheet.corner_names r x k), rule_still sheet_b r x 6 (eqb (number_at sheet_b "unit" r) (Sheet.unit_of level)) (eqb (number_at sheet_b "unit" x) (Sheet.unit_of level)) k (rw (number_at-same r x sheet_b k "unit")) e)
sheet-step (Sheet.due_c unit wholes more) r x e k c = (refl, sound_still r x _ k e)
sheet-step (Sheet.due_d unit wholes more) r x e k c = (rw (number_at-same r x sheet_d k "f records"), rule_still sheet_d r x 6 (Sheet.f_count_ok (number_at sheet_d "courses" r) (number_at sheet_d "f records" r)) (Sheet.f_count_ok (number_at sheet_d "courses" x) (number_at sheet_d "f records" x)) k (rw (number_at-same r x sheet_d k "courses", number_at-same r x sheet_d k "f records")) e)
sheet-step (Sheet.due_e unit wholes more fs) r x e k c = (refl, rule_still sheet_e r x 9 (Sheet.fractions_ok unit wholes (Sheet.fractions_of r)) (Sheet.fractions_ok unit wholes (Sheet.fractions_of x)) k (rw (all_at-same sheet_e Sheet.corner_names r x k)) e)
sheet-step (Sheet.due_f unit wholes more fs) r x e k c = (refl, sound_still r x _ k e)
sheet-step Sheet.body r x e k c = (refl, refl)

pub sheet_still : (p : Sheet.Phase) (r : List ℕ) → length r ≡ 84 → Sheet.wrong_in p r ≡ 0 → (Sheet.after p (normal_record (Sheet.phase_columns p) r) ≡ Sheet.after p r) × (Sheet.wrong_in p (normal_record (Sheet.phase_columns p) r) ≡ 0)
sheet_still p r l e = sheet-step p r (normal_record (Sheet.phase_columns p) r) e (normal_still (Sheet.phase_columns p) r (sheet-table p) l (sheet-sound p r e)) (normalised (Sheet.phase_columns p) r (sheet-table p) l (sheet-sound p r e)).judged

-- ---- an index
index-step : (p : Index.Stage) (r x : List ℕ) → Index.wrong_in p r ≡ 0 → EachStill (Index.stage_columns p) r x → EachColumn (Index.stage_columns p) r x → (Index.after p x ≡ Index.after p r) × (Index.wrong_in p x ≡ 0)
unfolding bytes
index-step Index.due_a r x e k c = let q = first_zero (unless (begins "I " r) 2) (first (column_fault index_a r) (unless (Index.b_count_ok r) 6)) e in (rw (number_at-same r x index_a k "b records", number_at-same r x index_a k "c records"), zero_first (unless (begins "I " x) 2) (first (column_fault index_a x) (unless (Index.b_count_ok x) 6)) (rw (begins-same "I " r x refl (index_type r x c)) q.0) (rule_still index_a r x 6 (Index.b_count_ok r) (Index.b_count_ok x) k (rw (number_at-same r x index_a k "b records", number_at-same r x index_a k "sheets")) q.1))
index-step (Index.due_b bs cs) r x e k c = (refl, sound_still r x _ k e)
index-step (Index.due_c cs) r x e k c = (refl, sound_still r x _ k e)
index-step Index.over r x e k c = (refl, refl)

pub index_still : (p : Index.Stage) (r : List ℕ) → length r ≡ 84 → Index.wrong_in p r ≡ 0 → (Index.after p (normal_record (Index.stage_columns p) r) ≡ Index.after p r) × (Index.wrong_in p (normal_record (Index.stage_columns p) r) ≡ 0)
index_still p r l e = index-step p r (normal_record (Index.stage_columns p) r) e (normal_still (Index.stage_columns p) r (index-table p) l (index-sound p r e)) (normalised (Index.stage_columns p) r (index-table p) l (index-sound p r e)).judged

-- ---- the body: what is seen of a header or an item, but for its own columns' faults
abbrev pub bare : View → View
bare v = record { kind = v.kind; level = v.level; data_records = v.data_records; data_held = v.data_held; column_fault = 0; rule_fault = v.rule_fault; fault_as_data = λ held behind. 0; total = v.total; count = v.count }

header_type : (r x : List ℕ) → EachColumn header r x → column 0 2 x ≡ column 0 2 r
unfolding header
header_type r x k = k.0

element_type_lem : (r x : List ℕ) → EachColumn element r x → column 0 2 x ≡ column 0 2 r
unfolding element
element_type_lem r x k = k.0

grid_type : (r x : List ℕ) → EachColumn grid_header r x → column 0 2 x ≡ column 0 2 r
unfolding grid_header
grid_type r x k = k.0

net_type : (r x : List ℕ) → EachColumn net_header r x → column 0 2 x ≡ column 0 2 r
unfolding net_header
net_type r x k = k.0

element_seen : (t : RecordType) (r x : List ℕ) → EachStill element r x → bare (element_view t x) ≡ bare (element_view t r)
unfolding element_view element_rule
element_seen t r x k = rw (number_at-same r x element k "level", number_at-same r x element k "records", number_at-same r x element k "data kind", number_at-same r x element k "data count")

header_seen : (r x : List ℕ) → EachStill header r x → bare (header_view x) ≡ bare (header_view r)
unfolding header_view
header_seen r x k = λ i. record { kind = head; level = number_at-same r x header k "level" i; data_records = 0; data_held = nothing; column_fault = 0; rule_fault = 0; fault_as_data = λ held behind. 0; total = number_at-same r x header k "total" i; count = λ j. number_at-same r x header k (count_name j) i }

grid_seen : (r x : List ℕ) → EachStill grid_header r x → bare (grid_view x) ≡ bare (grid_view r)
unfolding grid_view
grid_seen r x k = rw (number_at-same r x grid_header k "level", number_at-same r x grid_header k "repeat", number_at-same r x grid_header k "records", number_at-same r x grid_header k "rows", number_at-same r x grid_header k "columns")

net_seen : (r x : List ℕ) → EachStill net_header r x → bare (net_view x) ≡ bare (net_view r)
unfolding net_view
net_seen r x k = rw (number_at-same r x net_header k "level", number_at-same r x net_header k "records", number_at-same r x net_header k "triangles")

no_columns : (r : List ℕ) → normal_record [] r ≡ r
unfolding normal_record
no_columns r = refl

type_step : (t : RecordType) (r : List ℕ) → EachStill (type_columns t) r (normal_record (type_columns t) r) → EachColumn (type_columns t) r (normal_record (type_columns t) r) → (column 0 2 (normal_record (type_columns t) r) ≡ column 0 2 r) × (bare (view_as t (normal_record (type_columns t) r)) ≡ bare (view_as t r))
type_step H r k c = (header_type r _ c, header_seen r _ k)
type_step E1 r k c = (element_type_lem r _ c, element_seen E1 r _ k)
type_step E2 r k c = (element_type_lem r _ c, element_seen E2 r _ k)
type_step E3 r k c = (element_type_lem r _ c, element_seen E3 r _ k)
type_step E4 r k c = (element_type_lem r _ c, element_seen E4 r _ k)
type_step E5 r k c = (element_type_lem r _ c, element_seen E5 r _ k)
type_step E6 r k c = (element_type_lem r _ c, element_seen E6 r _ k)
type_step E7 r k c = (element_type_lem r _ c, element_seen E7 r _ k)
type_step E8 r k c = (element_type_lem r _ c, element_seen E8 r _ k)
type_step G r k c = (grid_type r _ c, grid_seen r _ k)
type_step T r k c = (net_type r _ c, net_seen r _ k)
type_step other r k c = (ap (column 0 2) (no_columns r), ap (λ (y : List ℕ). bare (view_as other y)) (no_columns r))

-- what judging sees of a record of the body in normal form
pub record Same (opened due : ℕ) (held : Data) (r x : List ℕ) : Type 0 where
  pub fault : fault_at opened due held (view x) ≡ 0
  pub opens : open_after opened due (view x) ≡ open_after opened due (view r)
  pub dues : due_after due (view x) ≡ due_after due (view r)
  pub holds : held_after due held (view x) ≡ held_after due held (view r)
  pub seen : due ≡ 0 → bare (view x) ≡ bare (view r)
  pub columns : columns_at due held x ≡ columns_at due held r
  pub fixed : normal_record (columns_at due held r) x ≡ x

module _ (opened : ℕ) (held : Data) (r : List ℕ) (l : length r ≡ 84) (e : fault_at opened 0 held (view r) ≡ 0) where
  abbrev x : List ℕ
  x = normal_record (type_columns (type_of r)) r

  k : EachStill (type_columns (type_of r)) r x
  k = normal_still (type_columns (type_of r)) r (type_table (type_of r)) l (body-sound opened 0 held r e)

  both : (column 0 2 x ≡ column 0 2 r) × (bare (view_as (type_of r) x) ≡ bare (view_as (type_of r) r))
  both = type_step (type_of r) r k (normalised (type_columns (type_of r)) r (type_table (type_of r)) l (body-sound opened 0 held r e)).judged

  same_type : type_of x ≡ type_of r
  same_type = start_two r x both.0

  same_view : bare (view x) ≡ bare (view r)
  unfolding view
  same_view = ap (λ (t : RecordType). bare (view_as t x)) same_type ∙ both.1

  still_good : Good opened (view x)
  still_good = record {
    known = rw kinds g.known;
    sound = type_columns_lem x ∙ rw same_type (sound_still r x (type_columns (type_of r)) k (body-sound opened 0 held r e));
    low = rw (kinds, levels) g.low;
    high = rw (kinds, levels) g.high;
    near = rw levels g.near;
    ruled = ap (λ (v : View). v.rule_fault) same_view ∙ g.ruled;
  }
    where
      g : Good opened (view r)
      g = good opened held (view r) e

      kinds : (view x).kind ≡ (view r).kind
      kinds = ap (λ (v : View). v.kind) same_view

      levels : (view x).level ≡ (view r).level
      levels = ap (λ (v : View). v.level) same_view

  pub head-same : Same opened 0 held r (normal_record (columns_at 0 held r) r)
  head-same = record {
    fault = good_fault_at opened held (view x) still_good;
    opens = ap (open_after opened 0) same_view;
    dues = ap (due_after 0) same_view;
    holds = ap (held_after 0 held) same_view;
    seen = λ z. same_view;
    columns = ap type_columns same_type;
    fixed = own_normal r x (type_columns (type_of r)) k;
  }

-- a data record
rule_same : (held : Data) (behind : ℕ) (r x : List ℕ) → EachStill (data_columns held behind) r x → data_rule held x ≡ data_rule held r
unfolding data_columns direction_ok
rule_same nothing behind r x k = refl
rule_same (points_3d count) behind r x k = refl
rule_same (points_2d count) behind r x k = refl
rule_same (triangles count) behind r x k = refl
rule_same (heights count) behind r x k = refl
rule_same notes behind r x k = rw (number_at-same r x data_note k "writing direction", integer_at-same r x data_note k "direction")
rule_same attributes behind r x k = refl

pub data_same : (opened due : ℕ) (held : Data) (r : List ℕ) → length r ≡ 84 → fault_at opened (suc due) held (view r) ≡ 0 → Same opened (suc due) held r (normal_record (columns_at (suc due) held r) r)
unfolding data_fault
data_same opened due held r l e = record {
  fault = data_columns_lem held due x ∙ rule_still (data_columns held due) r x 6 (data_rule held r) (data_rule held x) k (rule_same held due r x k) (sym (data_columns_lem held due r) ∙ e);
  opens = refl;
  dues = refl;
  holds = refl;
  seen = λ z. absurd (omega arith);
  columns = refl;
  fixed = own_normal r x (data_columns held due) k;
}
  where
    x : List ℕ
    x = normal_record (data_columns held due) r

    k : EachStill (data_columns held due) r x
    k = normal_still (data_columns held due) r (body-table (suc due) held r) l (body-sound opened (suc due) held r e)

pub body_same : (opened due : ℕ) (held : Data) (r : List ℕ) → length r ≡ 84 → fault_at opened due held (view r) ≡ 0 → Same opened due held r (normal_record (columns_at due held r) r)
body_same opened zero held r l e = head-same opened held r l e
body_same opened (suc due) held r l e = data_same opened due held r l e
