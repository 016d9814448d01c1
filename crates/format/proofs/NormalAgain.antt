-- The normal form of an accepted file is accepted, and is its own normal form. Assumes nothing.
use mathlib.Core.Path.{◌≡◌, refl, ap, sym, ◌∙◌}
use mathlib.Core.Bool.{Bool, true, false, cond}
use mathlib.Core.List.{List, [], ◌∷◌, ◌++◌, append-nil, map}
use Prim.Native.Nat.{ℕ, zero, suc}
use Prim.Native.String.{String}
use native.Mathlib.Omega.{arith}
use borrow.Author.Tests.{eq-eqb}
use lib.ListN.{length, take, drop, get_or, length-map}
use lib.Seq.{take_at, drop_at, take_all, length-take-le}
use Rattle.format.specs.Basics.{none, fault, or_else, to_fault}
use Rattle.format.specs.Layout.{Col, number_at, sheet_b}
use Rattle.format.specs.Record.{Data, nothing, View, view}
use Rattle.format.specs.Part.{Machine, part_from, part_fault}
use Rattle.format.specs.Sheet as Sheet
use Rattle.format.specs.Index as Index
use Rattle.format.specs.Judge.{File, file_of, accepted, judge, judge_records, judge_index_records, open_after, due_after, held_after, headers_and_items, count_under, items}
use Rattle.format.specs.Edit.{due_behind}
use Rattle.format.specs.Normal.{normal_record, normal_body, normal_sheet_records, normal_index_records}
use Rattle.format.proofs.Lists.{Wide, wide_drop}
use Rattle.format.proofs.JudgeAccepted.{Ok, accepted_ok, ok_accepted}
use Rattle.format.proofs.SheetPhases.{over-part_length}
use Rattle.format.proofs.JudgeWalks.{Passes}
use Rattle.format.proofs.JudgeCounts.{Counted}
use Rattle.format.proofs.NormalTables.{sheet-table, index-table, sheet-sound, index-sound}
use Rattle.format.proofs.NormalReads.{number_at-same, own_normal, normal_still}
use Rattle.format.proofs.NormalSteps.{bare, Same, body_same, sheet_still, index_still}
use Rattle.format.proofs.JudgeStages.{part-given}
use Rattle.format.proofs.NormalFiles.{same_columns, length-body, both_none, part_long, normal_by, part_by, stage_by_lem, length_by, index-passed}

-- ---- the body
-- the walk from the same state
passes_at : (o o' n n' : ℕ) (s s' : Data) (l : List View) → o ≡ o' → n ≡ n' → s ≡ s' → Passes o' n' s' l → Passes o n s l
passes_at o o' n n' s s' l p q t h = rw (p, q, t) h

pub record BodyAgain (opened due : ℕ) (held : Data) (rs ns : List (List ℕ)) : Type 0 where
  pub passes : Passes opened due held (map view ns)
  pub ends : due_behind due (map view ns) ≡ due_behind due (map view rs)
  pub seen : map bare (headers_and_items due (map view ns)) ≡ map bare (headers_and_items due (map view rs))
  pub fixed : normal_body due held ns ≡ ns

-- one record more in front
body-cons : (opened due : ℕ) (held : Data) (r x : List ℕ) (rs ns : List (List ℕ)) → Same opened due held r x → BodyAgain (open_after opened due (view r)) (due_after due (view r)) (held_after due held (view r)) rs ns → BodyAgain opened due held (r ∷ rs) (x ∷ ns)
body-cons opened due held r x rs ns s ih = record {
  passes = (s.fault, passes_at (open_after opened due (view x)) _ (due_after due (view x)) _ (held_after due held (view x)) _ (map view ns) s.opens s.dues s.holds ih.passes);
  ends = ap (λ (n : ℕ). due_behind n (map view ns)) s.dues ∙ ih.ends;
  seen = entries due s.seen s.dues ih.seen;
  fixed = rw (same_columns due held x, s.columns, s.fixed, s.dues, s.holds, ih.fixed);
}
  where
    entries : (due : ℕ) → (due ≡ 0 → bare (view x) ≡ bare (view r)) → due_after due (view x) ≡ due_after due (view r) → map bare (headers_and_items (due_after due (view r)) (map view ns)) ≡ map bare (headers_and_items (due_after due (view r)) (map view rs)) → map bare (headers_and_items due (map view (x ∷ ns))) ≡ map bare (headers_and_items due (map view (r ∷ rs)))
    entries zero b d e = ap (λ (n : ℕ). bare (view x) ∷ map bare (headers_and_items n (map view ns))) d ∙ rw (b refl, e)
    entries (suc due) b d e = e

pub body_again : (opened due : ℕ) (held : Data) (rs : List (List ℕ)) → Wide rs → Passes opened due held (map view rs) → BodyAgain opened due held rs (normal_body due held rs)
unfolding Wide
body_again opened due held [] w p = record { passes = tt; ends = refl; seen = refl; fixed = refl }
body_again opened due held (r ∷ rs) w p = rw (same_columns due held r) (body-cons opened due held r _ rs _ (body_same opened due held r w.0 p.0) (body_again (open_after opened due (view r)) (due_after due (view r)) (held_after due held (view r)) rs w.1 p.1))

-- ---- the counts see no more of headers and items than `bare`
items_bare : (l : List View) → items (map bare l) ≡ items l
items_bare [] = refl
items_bare (r ∷ l) = rw (items_bare l)

count_under_bare : (L j : ℕ) (l : List View) → count_under L j (map bare l) ≡ count_under L j l
count_under_bare L j [] = refl
count_under_bare L j (r ∷ l) = rw (count_under_bare L j l)

counted_bare : (l : List View) → Counted l → Counted (map bare l)
counted_bare [] c = tt
counted_bare (r ∷ l) c = ((λ h. let a = c.0 h in record { each = λ j k. a.each j k ∙ sym (count_under_bare r.level j l); whole = a.whole }), counted_bare l c.1)

bare_counted : (l : List View) → Counted (map bare l) → Counted l
bare_counted [] c = tt
bare_counted (r ∷ l) c = ((λ h. let a = c.0 h in record { each = λ j k. a.each j k ∙ count_under_bare r.level j l; whole = a.whole }), bare_counted l c.1)

-- ---- a sheet part or an index, with any records behind it
module _ (M : Machine) where
  over-fault : (p : M.Phase) (i : ℕ) (rs : List (List ℕ)) → M.over p ≡ true → part_fault M p i rs ≡ none
  over-fault p i [] e = rw e
  over-fault p i (r ∷ rs) e = rw e

  none_over : (p : M.Phase) (i : ℕ) → part_fault M p i [] ≡ none → M.over p ≡ true
  none_over p i e = at_test (M.over p) e
    where
      at_test : (t : Bool) → cond t none (fault 3 1) ≡ none → t ≡ true
      at_test true e = refl
      at_test false e = let z : ◌≡◌ {A = ℕ} 0 1 = cc in absurd (omega arith)

module _ (M : Machine) (columns : M.Phase → List Col) (fixed : (p : M.Phase) (r : List ℕ) → length r ≡ 84 → M.wrong p r ≡ 0 → normal_record (columns p) (normal_record (columns p) r) ≡ normal_record (columns p) r) (still : (p : M.Phase) (r : List ℕ) → length r ≡ 84 → M.wrong p r ≡ 0 → (M.step p (normal_record (columns p) r) ≡ M.step p r) × (M.wrong p (normal_record (columns p) r) ≡ 0)) (more : List (List ℕ)) where
  pub record PartAgain (p : M.Phase) (i : ℕ) (n : ℕ) (ns : List (List ℕ)) : Type 0 where
    pub long : part_from M p (ns ++ more) ≡ n
    pub fine : part_fault M p i (ns ++ more) ≡ none
    pub own : normal_by M columns p ns ≡ ns

  part-over : (p : M.Phase) (i : ℕ) → M.over p ≡ true → PartAgain p i 0 []
  part-over p i e = record { long = over-part_length M p more e; fine = over-fault M p i more e; own = refl }

  part-cons : (p : M.Phase) (i : ℕ) (r : List ℕ) (n : ℕ) (ns : List (List ℕ)) → M.over p ≡ false → length r ≡ 84 → M.wrong p r ≡ 0 → PartAgain (M.step p r) (suc i) n ns → PartAgain p i (suc n) (normal_record (columns p) r ∷ ns)
  part-cons p i r n ns o l e a = record {
    long = rw (o, s.0) (ap suc a.long);
    fine = rw (o, s.1, s.0) a.fine;
    own = rw (fixed p r l e, s.0, a.own);
  }
    where
      s : (M.step p (normal_record (columns p) r) ≡ M.step p r) × (M.wrong p (normal_record (columns p) r) ≡ 0)
      s = still p r l e

  pub part_again : (p : M.Phase) (i : ℕ) (rs : List (List ℕ)) → Wide rs → part_fault M p i rs ≡ none → PartAgain p i (part_from M p rs) (normal_by M columns p (take (part_from M p rs) rs))
  unfolding Wide
  part_again p i [] w e = part-over p i (none_over M p i e)
  part_again p i (r ∷ rs) w e = at_test (M.over p) refl e (part_again (M.step p r) (suc i) rs w.1)
    where
      at_test : (t : Bool) → M.over p ≡ t → cond t none (or_else (to_fault (M.wrong p r) i) (part_fault M (M.step p r) (suc i) rs)) ≡ none → (part_fault M (M.step p r) (suc i) rs ≡ none → PartAgain (M.step p r) (suc i) (part_from M (M.step p r) rs) (normal_by M columns (M.step p r) (take (part_from M (M.step p r) rs) rs))) → PartAgain p i (cond t 0 (suc (part_from M (M.step p r) rs))) (normal_by M columns p (take (cond t 0 (suc (part_from M (M.step p r) rs))) (r ∷ rs)))
      at_test true o e ih = part-over p i o
      at_test false o e ih = let q = both_none (M.wrong p r) i (part_fault M (M.step p r) (suc i) rs) e in part-cons p i r _ _ o w.0 q.0 (ih q.1)

-- ---- a sheet
sheet_fixed : (p : Sheet.Phase) (r : List ℕ) → length r ≡ 84 → Sheet.wrong_in p r ≡ 0 → normal_record (Sheet.phase_columns p) (normal_record (Sheet.phase_columns p) r) ≡ normal_record (Sheet.phase_columns p) r
sheet_fixed p r l e = own_normal r _ (Sheet.phase_columns p) (normal_still (Sheet.phase_columns p) r (sheet-table p) l (sheet-sound p r e))

index_fixed : (p : Index.Stage) (r : List ℕ) → length r ≡ 84 → Index.wrong_in p r ≡ 0 → normal_record (Index.stage_columns p) (normal_record (Index.stage_columns p) r) ≡ normal_record (Index.stage_columns p) r
index_fixed p r l e = own_normal r _ (Index.stage_columns p) (normal_still (Index.stage_columns p) r (index-table p) l (index-sound p r e))

abbrev part_of : List (List ℕ) → ℕ
part_of rs = part_from Sheet.sheet_machine Sheet.due_a rs

abbrev front_of : List (List ℕ) → List (List ℕ)
front_of rs = normal_by Sheet.sheet_machine Sheet.phase_columns Sheet.due_a (take (part_of rs) rs)

-- the counts that record 2 states
second_same : (rs back : List (List ℕ)) → Wide rs → part_fault Sheet.sheet_machine Sheet.due_a 1 rs ≡ none → (name : String) → number_at sheet_b name (get_or (front_of rs ++ back) 1 []) ≡ number_at sheet_b name (get_or rs 1 [])
unfolding Wide
second_same [] back w e name = let z : ◌≡◌ {A = ℕ} 0 1 = cc in absurd (omega arith)
second_same (a ∷ []) back w e name = let q = both_none (Sheet.wrong_in Sheet.due_a a) 1 (fault 3 1) e in let z : ◌≡◌ {A = ℕ} 0 1 = cc q.1 in absurd (omega arith)
second_same (a ∷ b ∷ rs) back w e name = number_at-same b (normal_record sheet_b b) sheet_b (normal_still sheet_b b (sheet-table p) w.1.0 (sheet-sound p b r.0)) name
  where
    p : Sheet.Phase
    p = Sheet.after Sheet.due_a a

    q : (Sheet.wrong_in Sheet.due_a a ≡ 0) × (part_fault Sheet.sheet_machine p 2 (b ∷ rs) ≡ none)
    q = both_none (Sheet.wrong_in Sheet.due_a a) 1 (part_fault Sheet.sheet_machine p 2 (b ∷ rs)) e

    r : (Sheet.wrong_in p b ≡ 0) × (part_fault Sheet.sheet_machine (Sheet.after p b) 3 rs ≡ none)
    r = both_none (Sheet.wrong_in p b) 2 (part_fault Sheet.sheet_machine (Sheet.after p b) 3 rs) q.1

module _ (rs : List (List ℕ)) (n m : ℕ) (w : Wide rs) (e : judge_records rs ≡ accepted n m) where
  abbrev back : List (List ℕ)
  back = normal_body 0 nothing (drop (part_of rs) rs)

  passed : (part_fault Sheet.sheet_machine Sheet.due_a 1 rs ≡ none) × (judge (file_of rs) ≡ accepted n m)
  unfolding judge_records Sheet.sheet_fault
  passed = part-given (part_fault Sheet.sheet_machine Sheet.due_a 1 rs) (judge (file_of rs)) _ e

  ok : Ok (file_of rs)
  ok = accepted_ok (file_of rs) n m passed.1

  body : BodyAgain 0 0 nothing (drop (part_of rs) rs) back
  unfolding Sheet.part_length
  body = body_again 0 0 nothing (drop (part_of rs) rs) (wide_drop (part_of rs) rs w) ok.walks.0

  part : PartAgain Sheet.sheet_machine Sheet.phase_columns sheet_fixed sheet_still back Sheet.due_a 1 (part_of rs) (front_of rs)
  part = part_again Sheet.sheet_machine Sheet.phase_columns sheet_fixed sheet_still back Sheet.due_a 1 rs w passed.0

  front_many : length (front_of rs) ≡ part_of rs
  front_many = length_by Sheet.sheet_machine Sheet.phase_columns sheet-table sheet-sound Sheet.due_a (take (part_of rs) rs) ∙ length-take-le (part_of rs) rs (part_long Sheet.sheet_machine Sheet.due_a rs)

  abbrev file : File
  file = record { part_length = part_of rs; stated_elements = (file_of rs).stated_elements; stated_records = (file_of rs).stated_records; body = map view back }

  file_is : file_of (front_of rs ++ back) ≡ file
  unfolding Sheet.part_length Sheet.stated_elements Sheet.stated_records
  file_is = λ i. record { part_length = part.long i; stated_elements = second_same rs back w passed.0 "element count" i; stated_records = second_same rs back w passed.0 "record count" i; body = map view (behind i) }
    where
      behind : drop (part_of (front_of rs ++ back)) (front_of rs ++ back) ≡ back
      behind = ap (λ (j : ℕ). drop j (front_of rs ++ back)) part.long ∙ drop_at (front_of rs) back (part_of rs) front_many

  same-items : items (headers_and_items 0 (map view back)) ≡ items (headers_and_items 0 (file_of rs).body)
  unfolding Sheet.part_length
  same-items = sym (items_bare (headers_and_items 0 (map view back))) ∙ ap items body.seen ∙ items_bare (headers_and_items 0 (file_of rs).body)

  same_length : length (map view back) ≡ length (file_of rs).body
  unfolding Sheet.part_length
  same_length = length-map back view ∙ length-body 0 nothing (drop (part_of rs) rs) ∙ sym (length-map (drop (part_of rs) rs) view)

  file_ok : Ok file
  unfolding Sheet.part_length
  file_ok = record { walks = (body.passes, body.ends ∙ ok.walks.1); stated_elements = ok.stated_elements ∙ sym same-items; stated_records = ok.stated_records ∙ sym same_length; counted = bare_counted (headers_and_items 0 (map view back)) (rw body.seen (counted_bare (headers_and_items 0 (file_of rs).body) ok.counted)) }

  accepted_again : judge_records (front_of rs ++ back) ≡ accepted n m
  unfolding judge_records Sheet.sheet_fault Sheet.part_length
  accepted_again = rw (part.fine, file_is) (ok_accepted file file_ok ∙ rw (same_length, same-items) (sym (ok_accepted (file_of rs) ok) ∙ passed.1))

  records_are : normal_sheet_records rs ≡ front_of rs ++ back
  unfolding normal_sheet_records Sheet.part_length
  records_are = rw (part_by Sheet.due_a (take (part_of rs) rs))

  own-records : normal_sheet_records (front_of rs ++ back) ≡ front_of rs ++ back
  unfolding normal_sheet_records Sheet.part_length
  own-records = rw (part.long, take_at (front_of rs) back (part_of rs) front_many, drop_at (front_of rs) back (part_of rs) front_many, part_by Sheet.due_a (front_of rs), part.own, body.fixed)

  -- ITS NORMAL FORM IS ACCEPTED WITH THE SAME COUNTS, AND IS ITS OWN
  pub sheet_twice : (judge_records (normal_sheet_records rs) ≡ accepted n m) × (normal_sheet_records (normal_sheet_records rs) ≡ normal_sheet_records rs)
  sheet_twice = rw (records_are) (accepted_again, own-records)

-- ---- an index
index-verdict : (rs : List (List ℕ)) → part_fault Index.index_machine Index.due_a 1 rs ≡ none → length rs ≡ part_from Index.index_machine Index.due_a rs → judge_index_records rs ≡ accepted (length rs) 0
unfolding judge_index_records Index.index_fault
index-verdict rs f l = rw (f, eq-eqb (length rs) (part_from Index.index_machine Index.due_a rs) l)

module _ (rs : List (List ℕ)) (n m : ℕ) (w : Wide rs) (e : judge_index_records rs ≡ accepted n m) where
  abbrev normal : List (List ℕ)
  normal = normal_by Index.index_machine Index.stage_columns Index.due_a rs

  whole : (part_fault Index.index_machine Index.due_a 1 rs ≡ none) × (length rs ≡ part_from Index.index_machine Index.due_a rs)
  whole = index-passed rs n m e

  all : PartAgain Index.index_machine Index.stage_columns index_fixed index_still [] Index.due_a 1 (part_from Index.index_machine Index.due_a rs) normal
  all = rw (take_all (part_from Index.index_machine Index.due_a rs) rs (omega (arith, whole))) at (part_again Index.index_machine Index.stage_columns index_fixed index_still [] Index.due_a 1 rs w whole.0)

  many : length normal ≡ length rs
  many = length_by Index.index_machine Index.stage_columns index-table index-sound Index.due_a rs

  index-accepted : judge_index_records normal ≡ accepted n m
  index-accepted = index-verdict normal (rw (append-nil normal) at all.fine) (many ∙ whole.1 ∙ sym (rw (append-nil normal) at all.long)) ∙ ap (λ (j : ℕ). accepted j 0) many ∙ sym (index-verdict rs whole.0 whole.1) ∙ e

  stages_are : normal_index_records rs ≡ normal
  unfolding normal_index_records
  stages_are = stage_by_lem Index.due_a rs

  own_stages : normal_index_records normal ≡ normal
  unfolding normal_index_records
  own_stages = stage_by_lem Index.due_a normal ∙ all.own

  pub index_twice : (judge_index_records (normal_index_records rs) ≡ accepted n m) × (normal_index_records (normal_index_records rs) ≡ normal_index_records rs)
  index_twice = rw stages_are (index-accepted, own_stages)
