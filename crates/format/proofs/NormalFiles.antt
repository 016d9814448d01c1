-- A whole file in normal form: each record by the columns that judging reads of it. Assumes nothing.
use mathlib.Core.Path.{◌≡◌, refl, ap, ◌∙◌}
use mathlib.Core.Bool.{Bool, true, false, cond}
use mathlib.Core.List.{List, [], ◌∷◌, ◌++◌, map}
use Prim.Native.Nat.{ℕ, zero, suc, ◌+◌, ◌-◌, ◌≤◌, ◌<◌}
use native.Mathlib.Omega.{arith}
use lib.Dec.{eqb, ltb}
use borrow.Author.Tests.{eqb-true, ltb-true, ltb-false}
use lib.ListN.{length, take, drop, get_or, length-append, length-drop, get_or-append}
use lib.Seq.{get_or-append-add, get_or-drop, length-take-le, take_all}
use Rattle.format.specs.Basics.{Fault, none, or_else, to_fault, unless}
use Rattle.format.specs.Layout.{Col, column_fault}
use Rattle.format.specs.Record.{Data, nothing, view}
use Rattle.format.specs.Part.{Machine, part_from, part_fault}
use Rattle.format.specs.Sheet as Sheet
use Rattle.format.specs.Index as Index
use Rattle.format.specs.Judge.{accepted, due_after, held_after, open_after, judge, judge_records, judge_index_records, file_of}
use Rattle.format.specs.Normal.{normal_record, body_columns, normal_body, normal_part, normal_stage, normal_sheet_records, normal_index_records}
use Rattle.format.specs.JudgedColumns.{part_judged, columns_at, body_judged, sheet_judged, index_judged, Normalised}
use Rattle.format.proofs.JudgeStages.{part-given}
use Rattle.format.proofs.Basics.{unless_zero}
use Rattle.format.proofs.Lists.{Wide, wide_take, wide_drop, wide_append}
use Rattle.format.proofs.JudgeWalks.{Passes, or_else-none, to_fault-none}
use Rattle.format.proofs.JudgeAccepted.{accepted_ok, verdict-none}
use Rattle.format.proofs.NormalColumns.{length_part}
use Rattle.format.proofs.NormalRecords.{Table, length-normal_record, normalised}
use Rattle.format.proofs.NormalTables.{sheet-table, index-table, body-table, sheet-sound, index-sound, body-sound}

-- ---- the records of the body
pub length-body : (due : ℕ) (held : Data) (rs : List (List ℕ)) → length (normal_body due held rs) ≡ length rs
length-body due held [] = refl
length-body due held (r ∷ rs) = ap suc (length-body (due_after due (view r)) (held_after due held (view r)) rs)

pub same_columns : (due : ℕ) (held : Data) (r : List ℕ) → body_columns due held r ≡ columns_at due held r
same_columns zero held r = refl
same_columns (suc due) held r = refl

wide_body : (due : ℕ) (held : Data) (rs : List (List ℕ)) → Wide rs → Wide (normal_body due held rs)
unfolding Wide
wide_body due held [] w = tt
wide_body due held (r ∷ rs) w = (rw (same_columns due held r) (length-normal_record 0 (columns_at due held r) r (body-table due held r).end w.0), wide_body (due_after due (view r)) (held_after due held (view r)) rs w.1)

body_normalised : (opened due : ℕ) (held : Data) (rs : List (List ℕ)) → Wide rs → Passes opened due held (map view rs) → (k : ℕ) → k < length rs → Normalised (get_or (body_judged due held rs) k []) (get_or rs k []) (get_or (normal_body due held rs) k [])
unfolding Wide
body_normalised opened due held [] w p k h = absurd (omega arith)
body_normalised opened due held (r ∷ rs) w p zero h = rw (same_columns due held r) (normalised (columns_at due held r) r (body-table due held r) w.0 (body-sound opened due held r p.0))
body_normalised opened due held (r ∷ rs) w p (suc k) h = body_normalised (open_after opened due (view r)) (due_after due (view r)) (held_after due held (view r)) rs w.1 p.1 k (omega arith)

-- ---- the records of a sheet part or an index
pub both_none : (n i : ℕ) (f : Fault) → or_else (to_fault n i) f ≡ none → (n ≡ 0) × (f ≡ none)
both_none n i f e = let p = or_else-none (to_fault n i) f e in (to_fault-none n i p.0, p.1)

module _ (M : Machine) where
  pub part_long : (p : M.Phase) (rs : List (List ℕ)) → part_from M p rs ≤ length rs
  part_long p [] = omega arith
  part_long p (r ∷ rs) = at_test (M.over p) (part_long (M.step p r) rs)
    where
      at_test : (t : Bool) → part_from M (M.step p r) rs ≤ length rs → cond t 0 (suc (part_from M (M.step p r) rs)) ≤ suc (length rs)
      at_test true ih = omega arith
      at_test false ih = omega arith

module _ (M : Machine) (columns : M.Phase → List Col) where
  abbrev pub normal_by : M.Phase → List (List ℕ) → List (List ℕ)
  normal_by p [] = []
  normal_by p (r ∷ rs) = normal_record (columns p) r ∷ normal_by (M.step p r) rs

pub part_by : (p : Sheet.Phase) (rs : List (List ℕ)) → normal_part p rs ≡ normal_by Sheet.sheet_machine Sheet.phase_columns p rs
part_by p [] = refl
part_by p (r ∷ rs) = ap (λ (x : List (List ℕ)). normal_record (Sheet.phase_columns p) r ∷ x) (part_by (Sheet.after p r) rs)

pub stage_by_lem : (p : Index.Stage) (rs : List (List ℕ)) → normal_stage p rs ≡ normal_by Index.index_machine Index.stage_columns p rs
stage_by_lem p [] = refl
stage_by_lem p (r ∷ rs) = ap (λ (x : List (List ℕ)). normal_record (Index.stage_columns p) r ∷ x) (stage_by_lem (Index.after p r) rs)

module _ (M : Machine) (columns : M.Phase → List Col) (table : (p : M.Phase) → Table (columns p)) (sound : (p : M.Phase) (r : List ℕ) → M.wrong p r ≡ 0 → column_fault (columns p) r ≡ 0) where
  pub length_by : (p : M.Phase) (rs : List (List ℕ)) → length (normal_by M columns p rs) ≡ length rs
  length_by p [] = refl
  length_by p (r ∷ rs) = ap suc (length_by (M.step p r) rs)

  wide_by : (p : M.Phase) (rs : List (List ℕ)) → Wide rs → Wide (normal_by M columns p rs)
  unfolding Wide
  wide_by p [] w = tt
  wide_by p (r ∷ rs) w = (length-normal_record 0 (columns p) r (table p).end w.0, wide_by (M.step p r) rs w.1)

  part_normalised : (p : M.Phase) (i : ℕ) (rs : List (List ℕ)) → Wide rs → part_fault M p i rs ≡ none → (k : ℕ) → k < part_from M p rs → Normalised (get_or (part_judged M columns p rs) k []) (get_or rs k []) (get_or (normal_by M columns p (take (part_from M p rs) rs)) k [])
  unfolding Wide
  part_normalised p i [] w e k h = absurd (omega arith)
  part_normalised p i (r ∷ rs) w e k h = at_test (M.over p) e k h (part_normalised (M.step p r) (suc i) rs w.1)
    where
      at_test : (t : Bool) → cond t none (or_else (to_fault (M.wrong p r) i) (part_fault M (M.step p r) (suc i) rs)) ≡ none → (k : ℕ) → k < cond t 0 (suc (part_from M (M.step p r) rs)) → (part_fault M (M.step p r) (suc i) rs ≡ none → (k : ℕ) → k < part_from M (M.step p r) rs → Normalised (get_or (part_judged M columns (M.step p r) rs) k []) (get_or rs k []) (get_or (normal_by M columns (M.step p r) (take (part_from M (M.step p r) rs) rs)) k [])) → Normalised (get_or (cond t [] (columns p ∷ part_judged M columns (M.step p r) rs)) k []) (get_or (r ∷ rs) k []) (get_or (normal_by M columns p (take (cond t 0 (suc (part_from M (M.step p r) rs))) (r ∷ rs))) k [])
      at_test true e k h ih = absurd (omega arith)
      at_test false e zero h ih = normalised (columns p) r (table p) w.0 (sound p r (both_none (M.wrong p r) i (part_fault M (M.step p r) (suc i) rs) e).0)
      at_test false e (suc k) h ih = ih (both_none (M.wrong p r) i (part_fault M (M.step p r) (suc i) rs) e).1 k (omega arith)

-- ---- a file that passes: its records in normal form
pub record Done (judged : List (List Col)) (rs ns : List (List ℕ)) : Type 0 where
  pub many : length ns ≡ length rs
  pub wide : Wide ns
  pub each : (k : ℕ) → k < length rs → Normalised (get_or judged k []) (get_or rs k []) (get_or ns k [])

-- what stands behind the first n of a list
get_or-behind : {A : Type 0} (a b : List A) (n k : ℕ) (d : A) → length a ≡ n → n ≤ k → get_or (a ++ b) k d ≡ get_or b (k - n) d
get_or-behind a b n k d e l = ap (λ (j : ℕ). get_or (a ++ b) j d) back ∙ get_or-append-add a b (k - n) d
  where
    back : k ≡ length a + (k - n)
    back = omega arith

-- two parts, the first n long
module _ (ca cb : List (List Col)) (rs na nb : List (List ℕ)) (n : ℕ) (lc : length ca ≡ n) (la : length na ≡ n) (few : n ≤ length rs) where
  joined : ((k : ℕ) → k < n → Normalised (get_or ca k []) (get_or rs k []) (get_or na k [])) → ((k : ℕ) → k < length (drop n rs) → Normalised (get_or cb k []) (get_or (drop n rs) k []) (get_or nb k [])) → (k : ℕ) → k < length rs → Normalised (get_or (ca ++ cb) k []) (get_or rs k []) (get_or (na ++ nb) k [])
  joined front back k h = at_test (ltb k n) refl
    where
      whole : n ≤ k → n + (k - n) ≡ k
      whole l = omega arith

      behind : n ≤ k → get_or (drop n rs) (k - n) [] ≡ get_or rs k []
      behind l = get_or-drop n rs (k - n) [] ∙ ap (λ (j : ℕ). get_or rs j []) (whole l)

      at_test : (t : Bool) → ltb k n ≡ t → Normalised (get_or (ca ++ cb) k []) (get_or rs k []) (get_or (na ++ nb) k [])
      at_test true e = rw (get_or-append ca cb [] k (omega (arith, ltb-true k n e)), get_or-append na nb [] k (omega (arith, ltb-true k n e))) (front k (ltb-true k n e))
      at_test false e =
          let l : n ≤ k = ltb-false k n e in
          rw (get_or-behind ca cb n k [] lc l, get_or-behind na nb n k [] la l) (rw (behind l) at (back (k - n) (rw (length-drop n rs) (omega arith))))

-- ---- sheets and indexes
pub sheet-done : (rs : List (List ℕ)) (n m : ℕ) → Wide rs → judge_records rs ≡ accepted n m → Done (sheet_judged rs) rs (normal_sheet_records rs)
unfolding judge_records sheet_judged normal_sheet_records Sheet.sheet_fault Sheet.part_length
sheet-done rs n m w e = rw (part_by Sheet.due_a (take L rs)) (record {
  many = length-append front (normal_body 0 nothing (drop L rs)) ∙ rw (front_many, length-body 0 nothing (drop L rs), length-drop L rs) (omega (arith, few));
  wide = wide_append _ _ (wide_by Sheet.sheet_machine Sheet.phase_columns sheet-table sheet-sound Sheet.due_a (take L rs) (wide_take L rs w)) (wide_body 0 nothing (drop L rs) (wide_drop L rs w));
  each = joined (part_judged Sheet.sheet_machine Sheet.phase_columns Sheet.due_a rs) (body_judged 0 nothing (drop L rs)) rs front (normal_body 0 nothing (drop L rs)) L (length_part Sheet.sheet_machine Sheet.phase_columns Sheet.due_a rs) front_many few (part_normalised Sheet.sheet_machine Sheet.phase_columns sheet-table sheet-sound Sheet.due_a 1 rs w q.0) (body_normalised 0 0 nothing (drop L rs) (wide_drop L rs w) (accepted_ok (file_of rs) n m q.1).walks.0);
})
  where
    L : ℕ
    L = part_from Sheet.sheet_machine Sheet.due_a rs

    front : List (List ℕ)
    front = normal_by Sheet.sheet_machine Sheet.phase_columns Sheet.due_a (take L rs)

    q : (part_fault Sheet.sheet_machine Sheet.due_a 1 rs ≡ none) × (judge (file_of rs) ≡ accepted n m)
    q = part-given (part_fault Sheet.sheet_machine Sheet.due_a 1 rs) (judge (file_of rs)) _ e

    few : L ≤ length rs
    few = part_long Sheet.sheet_machine Sheet.due_a rs

    front_many : length front ≡ L
    front_many = length_by Sheet.sheet_machine Sheet.phase_columns sheet-table sheet-sound Sheet.due_a (take L rs) ∙ length-take-le L rs few

pub index-passed : (rs : List (List ℕ)) (n m : ℕ) → judge_index_records rs ≡ accepted n m → (part_fault Index.index_machine Index.due_a 1 rs ≡ none) × (length rs ≡ part_from Index.index_machine Index.due_a rs)
unfolding judge_index_records Index.index_fault
index-passed rs n m e = (q.0, eqb-true _ _ (unless_zero _ _ (to_fault-none (unless (eqb (length rs) (part_from Index.index_machine Index.due_a rs)) 10) 1 q.1)))
  where
    q : (part_fault Index.index_machine Index.due_a 1 rs ≡ none) × (to_fault (unless (eqb (length rs) (part_from Index.index_machine Index.due_a rs)) 10) 1 ≡ none)
    q = or_else-none (part_fault Index.index_machine Index.due_a 1 rs) _ (verdict-none (Index.index_fault rs) (length rs) 0 n m e)

pub index-done : (rs : List (List ℕ)) (n m : ℕ) → Wide rs → judge_index_records rs ≡ accepted n m → Done (index_judged rs) rs (normal_index_records rs)
unfolding index_judged normal_index_records
index-done rs n m w e = rw (stage_by_lem Index.due_a rs) (record {
  many = length_by Index.index_machine Index.stage_columns index-table index-sound Index.due_a rs;
  wide = wide_by Index.index_machine Index.stage_columns index-table index-sound Index.due_a rs w;
  each = λ k h. rw all at (part_normalised Index.index_machine Index.stage_columns index-table index-sound Index.due_a 1 rs w q.0 k (omega (arith, q.1)));
})
  where
    q : (part_fault Index.index_machine Index.due_a 1 rs ≡ none) × (length rs ≡ part_from Index.index_machine Index.due_a rs)
    q = index-passed rs n m e

    all : take (part_from Index.index_machine Index.due_a rs) rs ≡ rs
    all = take_all (part_from Index.index_machine Index.due_a rs) rs (omega (arith, q.1))
