-- What the code writes, record by record from the one that is due first, is the normal form of an accepted file. Assumes nothing.
use Rattle.format.proofs.Reasons.{not_zero}
use mathlib.Core.Path.{◌≡◌, refl, ap, sym, ◌∙◌}
use mathlib.Core.Bool.{Bool, true, false, cond, ◌&&◌, false≢true}
use mathlib.Core.List.{List, [], ◌∷◌, ◌++◌, map}
use Prim.Native.Nat.{ℕ, zero, suc, ◌*◌, ◌/◌, ◌%◌, ◌≤◌, ◌<◌}
use native.Mathlib.Omega.{arith}
use borrow.Author.Tests.{eqb-true, le-leb, lt-leb}
use lib.Dec.{eqb, leb}
use lib.ListN.{length, take, drop}
use Rattle.std.specs.Prelude.{Ok, Err}
use Rattle.format.specs.Basics.{Outcome, first, unless, chunks, flat, stage_one_ok}
use Rattle.format.specs.Text.{bytes, begins}
use Rattle.format.specs.Layout.{element}
use Rattle.format.specs.Record.{RecordType, H, E1, E2, E3, E4, E5, E6, E7, E8, G, T, other, type_of, type_columns, count_index, Data, data_columns, view, view_as, header_view, element_view, grid_view, net_view, other_view}
use Rattle.format.specs.Part.{part_from}
use Rattle.format.specs.Sheet as Sheet
use Rattle.format.specs.Index as Index
use Rattle.format.specs.Judge as Judge
use Rattle.format.specs.Normal.{normal_record, normal_body, normal_part, normal_stage, normal_sheet_records, normal_index_records, normal_sheet, normal_index}
use Rattle.format.specs.Answers.{written_answer, judged_answer}
use Rattle.format.specs.Reasons.{refusal_number}
use Rattle.format.specs.declared.Counts.{Counts}
use Rattle.format.specs.declared.Reason.{Reason}
use Rattle.format.specs.declared.Refusal.{Refusal}
use Rattle.format.proofs.Basics.{first_zero}
use Rattle.format.proofs.Lists.{Wide, wide_chunks, wide_drop}
use Rattle.format.proofs.JudgeWalks.{Passes}
use Rattle.format.proofs.JudgeStages.{stage_one_lem, stage_given}
use Rattle.format.proofs.AcceptedSheet.{whole-records, inside, accepted-list}
use Rattle.records.specs.declared.Held.{Held}
use Rattle.records.specs.Entry.{to_data, entry_of}
use Rattle.records.proofs.Laws.{entry_counted, entry_data_records, entry_held, fault-at}
use Rattle.judge.specs.declared.Sheet.{Sheet as OpenedSheet}
use Rattle.judge.specs.Sheet.{opened_in, sheet_said}
use Rattle.judge.proofs.Opened.{sheet_refused_is, opened-sheet}
use Rattle.part_and_index.specs.declared.due.Due.TheVariants.{SheetA, IndexA}
use Rattle.part_and_index.specs.Due as Part
use Rattle.part_and_index.specs.Due.{due_in, due_at}
use Rattle.part_and_index.proofs.DueLaws.{phase_after, stage_after}
use Rattle.normal.specs.declared.due.FileDue.TheVariants as Due
use Rattle.normal.specs.Due.{behind_part, due_data, letter_columns, part_columns, rewritten, written_to}

-- ---- an index

stage_columns_lem : (p : Index.Stage) → part_columns (due_at p) ≡ Index.stage_columns p
stage_columns_lem Index.due_a = refl
stage_columns_lem (Index.due_b bs cs) = refl
stage_columns_lem (Index.due_c cs) = refl
stage_columns_lem Index.over = refl

stage_form : (p : Index.Stage) (rs : List (List ℕ)) → Wide rs → rewritten (Due.Index (due_at p)) rs ≡ normal_stage p rs
unfolding rewritten Wide
stage_form p [] w = refl
stage_form p (r ∷ rs) w = rw (stage_columns_lem p, stage_after r w.0 p, stage_form (Index.after p r) rs w.1)

-- ---- a sheet part, and what is behind it

phase_columns_lem : (p : Sheet.Phase) → part_columns (due_in p) ≡ Sheet.phase_columns p
phase_columns_lem Sheet.due_a = refl
phase_columns_lem (Sheet.due_b level more) = refl
phase_columns_lem (Sheet.due_c unit wholes more) = refl
phase_columns_lem (Sheet.due_d unit wholes more) = refl
phase_columns_lem (Sheet.due_e unit wholes more fs) = refl
phase_columns_lem (Sheet.due_f unit wholes more fs) = refl
phase_columns_lem Sheet.body = refl

phase_over : (p : Sheet.Phase) → Part.is_over (due_in p) ≡ Sheet.is_over p
phase_over Sheet.due_a = refl
phase_over (Sheet.due_b level more) = refl
phase_over (Sheet.due_c unit wholes more) = refl
phase_over (Sheet.due_d unit wholes more) = refl
phase_over (Sheet.due_e unit wholes more fs) = refl
phase_over (Sheet.due_f unit wholes more fs) = refl
phase_over Sheet.body = refl

part-form : (p : Sheet.Phase) (rs : List (List ℕ)) → Wide rs → rewritten (behind_part (due_in p)) rs ≡ normal_part p (take (part_from Sheet.sheet_machine p rs) rs) ++ rewritten Due.Entry (drop (part_from Sheet.sheet_machine p rs) rs)
unfolding rewritten Wide
part-form p [] w = refl
part-form p (r ∷ rs) w = go (Sheet.is_over p) refl (part-form (Sheet.after p r) rs w.1)
  where
    go : (t : Bool) → Sheet.is_over p ≡ t → rewritten (behind_part (due_in (Sheet.after p r))) rs ≡ normal_part (Sheet.after p r) (take (part_from Sheet.sheet_machine (Sheet.after p r) rs) rs) ++ rewritten Due.Entry (drop (part_from Sheet.sheet_machine (Sheet.after p r) rs) rs) → rewritten (behind_part (due_in p)) (r ∷ rs) ≡ normal_part p (take (part_from Sheet.sheet_machine p (r ∷ rs)) (r ∷ rs)) ++ rewritten Due.Entry (drop (part_from Sheet.sheet_machine p (r ∷ rs)) (r ∷ rs))
    go true e ih = rw (phase_over p, e)
    go false e ih = rw (phase_over p, e, phase_columns_lem p, phase_after r w.0 p, ih)

-- ---- a header or an item: its first byte tells its layout, where its type is known

elements : (a b c d e f g h : Bool) → (cond a E1 (cond b E2 (cond c E3 (cond d E4 (cond e E5 (cond f E6 (cond g E7 (cond h E8 other))))))) ≡ other → ⊥) → element ≡ type_columns (cond a E1 (cond b E2 (cond c E3 (cond d E4 (cond e E5 (cond f E6 (cond g E7 (cond h E8 other))))))))
elements true b c d e f g h n = refl
elements false true c d e f g h n = refl
elements false false true d e f g h n = refl
elements false false false true e f g h n = refl
elements false false false false true f g h n = refl
elements false false false false false true g h n = refl
elements false false false false false false true h n = refl
elements false false false false false false false true n = refl
elements false false false false false false false false n = absurd (n refl)

letter-alone : (t : RecordType) (b : Bool) → (cond b t other ≡ other → ⊥) → type_columns t ≡ type_columns (cond b t other)
letter-alone t true n = refl
letter-alone t false n = absurd (n refl)

letters_two : (a b : ℕ) (r : List ℕ) → (type_of (a ∷ b ∷ r) ≡ other → ⊥) → letter_columns (a ∷ b ∷ r) ≡ type_columns (type_of (a ∷ b ∷ r))
unfolding type_of begins bytes
letters_two a b r n = go (eqb a 72) (eqb a 69) (eqb a 71) (eqb a 84) refl refl refl refl
  where
    go : (h e g t : Bool) → eqb a 72 ≡ h → eqb a 69 ≡ e → eqb a 71 ≡ g → eqb a 84 ≡ t → letter_columns (a ∷ b ∷ r) ≡ type_columns (type_of (a ∷ b ∷ r))
    go true e g t p q x y = rw (eqb-true a 72 p) (letter-alone H (eqb b 32 && true) (rw (eqb-true a 72 p) at n))
    go false true g t p q x y = rw (eqb-true a 69 q) (elements (eqb b 49 && true) (eqb b 50 && true) (eqb b 51 && true) (eqb b 52 && true) (eqb b 53 && true) (eqb b 54 && true) (eqb b 55 && true) (eqb b 56 && true) (rw (eqb-true a 69 q) at n))
    go false false true t p q x y = rw (eqb-true a 71 x) (letter-alone G (eqb b 32 && true) (rw (eqb-true a 71 x) at n))
    go false false false true p q x y = rw (eqb-true a 84 y) (letter-alone T (eqb b 32 && true) (rw (eqb-true a 84 y) at n))
    go false false false false p q x y = absurd (n (simp (p, q, x, y)))

letters : (l : List ℕ) → length l ≡ 84 → (type_of l ≡ other → ⊥) → letter_columns l ≡ type_columns (type_of l)
letters [] whole n = absurd (omega arith)
letters (a ∷ []) whole n = absurd (omega arith)
letters (a ∷ b ∷ l) whole n = letters_two a b l n

-- what a record says by its type: a type that is not known has no count, and a header states no data records
module _ (l : List ℕ) where
  known_type : (t : RecordType) → leb (count_index (view_as t l).kind) 9 ≡ true → t ≡ other → ⊥
  unfolding other_view
  known_type t h e = false≢true (rw e at h)

  own_data : (t : RecordType) → Judge.due_of (view_as t l).kind (view_as t l).data_records ≡ (view_as t l).data_records
  unfolding header_view element_view grid_view net_view other_view
  own_data H = refl
  own_data E1 = refl
  own_data E2 = refl
  own_data E3 = refl
  own_data E4 = refl
  own_data E5 = refl
  own_data E6 = refl
  own_data E7 = refl
  own_data E8 = refl
  own_data G = refl
  own_data T = refl
  own_data other = refl

-- a record without fault where a header or an item is due
module _ (l : List ℕ) (whole : length l ≡ 84) (opened : ℕ) (held : Data) (passed : Judge.fault_at opened 0 held (view l) ≡ 0) where
  no_fault : (entry_of l).fault ≡ 0
  no_fault = (first_zero (entry_of l).fault (first (unless (Judge.level_ok opened (view l)) 7) (view l).rule_fault) (sym (fault-at l whole opened held) ∙ passed)).0

  entry_columns : letter_columns l ≡ type_columns (type_of l)
  unfolding view
  entry_columns = letters l whole (known_type l (type_of l) (entry_counted l whole no_fault))

  entry_due : (entry_of l).data_records ≡ Judge.due_after 0 (view l)
  unfolding view
  entry_due = entry_data_records l whole no_fault ∙ sym (own_data l (type_of l))

  entry_holds : to_data (entry_of l).held ≡ Judge.held_after 0 held (view l)
  entry_holds = entry_held l whole no_fault

-- ---- the body: what the code keeps is what the walk keeps

body-form : (rs : List (List ℕ)) (opened due : ℕ) (held : Held) → Wide rs → Passes opened due (to_data held) (map view rs) → rewritten (due_data held due) rs ≡ normal_body due (to_data held) rs
unfolding rewritten Wide
body-form [] opened due held wide p = refl
body-form (r ∷ rs) opened zero held wide p =
    let e = entry_of r in
    let d : e.data_records ≡ Judge.due_after 0 (view r) = entry_due r wide.0 opened (to_data held) p.0 in
    let h : to_data e.held ≡ Judge.held_after 0 (to_data held) (view r) = entry_holds r wide.0 opened (to_data held) p.0 in
    rw (entry_columns r wide.0 opened (to_data held) p.0, ← d, ← h)
    (ap (λ (x : List (List ℕ)). normal_record (type_columns (type_of r)) r ∷ x) (body-form rs (Judge.open_after opened 0 (view r)) e.data_records e.held wide.1 (rw (← d, ← h) at p.1)))
body-form (r ∷ rs) opened (suc due) held wide p =
    ap (λ (x : List (List ℕ)). normal_record (data_columns (to_data held) due) r ∷ x) (body-form rs opened due held wide.1 p.1)

-- ---- an accepted file

sheet-form : (used : ℕ) (buffer : List ℕ) → Judge.AcceptedSheet used buffer → rewritten (Due.Sheet SheetA) (chunks (used / 84) buffer) ≡ normal_sheet_records (chunks (used / 84) buffer)
unfolding normal_sheet_records Sheet.part_length
sheet-form used buffer a =
    let rs = chunks (used / 84) buffer in
    let n = part_from Sheet.sheet_machine Sheet.due_a rs in
    let wide : Wide rs = (accepted-list a).wide in
    part-form Sheet.due_a rs wide
    ∙ ap (λ (x : List (List ℕ)). normal_part Sheet.due_a (take n rs) ++ x) (body-form (drop n rs) 0 0 Held.Nothing (wide_drop n rs wide) (accepted-list a).ok.walks.0)

index-form : (rs : List (List ℕ)) → Wide rs → rewritten (Due.Index IndexA) rs ≡ normal_index_records rs
unfolding normal_index_records
index-form rs wide = stage_form Index.due_a rs wide

-- ---- `write_file`

module _ (used : ℕ) (records : List (List ℕ)) (second : List ℕ) where
  pub too_short : (r : Refusal) → r ≡ record { reason = Reason.Room; at = 0 } → length second < used → record { answer = written_answer (Err r); bytes = second } ≡ written_to used records second
  unfolding written_to written_answer
  too_short r e h = rw (e, lt-leb used (length second) h)

  pub file-written : (l' : List ℕ) → used ≤ length second → used % 84 ≡ 0 → l' ≡ flat records ++ drop (84 * (used / 84)) second → record { answer = written_answer (Ok used); bytes = l' } ≡ written_to used records second
  unfolding written_to written_answer
  file-written l' h z e = let n : 84 * (used / 84) ≡ used = omega arith in rw (le-leb used (length second) h, e, n)

-- ---- `normal_sheet`

module _ (used : ℕ) (buffer : List ℕ) where
  pub sheet-refused : (second : List ℕ) (r : Refusal) → sheet_said (Err r) ≡ opened_in used buffer 0 → record { answer = written_answer (Err r); bytes = second } ≡ normal_sheet used buffer second
  unfolding normal_sheet written_answer
  sheet-refused second r is = rw (sheet_refused_is used buffer 0 (sheet_said (Err r)) is (not_zero r.reason))

  module _ (s : OpenedSheet) (is : sheet_said (Ok s) ≡ opened_in used buffer 0) where
    a : Judge.AcceptedSheet used buffer
    a = (opened-sheet used buffer 0 (sheet_said (Ok s)) is refl).accepted

    pub sheet-room : (used ≤ length buffer) × (used % 84 ≡ 0)
    sheet-room = (inside a, (whole-records a).even)

    pub sheet-written : (second : List ℕ) (r : Outcome ℕ) → r ≡ written_to used (rewritten (Due.Sheet SheetA) (chunks (used / 84) buffer)) second → r ≡ normal_sheet used buffer second
    unfolding normal_sheet written_to
    sheet-written second r h = h ∙ rw (sheet-form used buffer a, a.judged)

-- ---- `normal_index`

module _ (used : ℕ) (buffer : List ℕ) where
  pub index-refused : (second : List ℕ) (r : Refusal) → judged_answer (Err r) ≡ Judge.judge_index used buffer → record { answer = written_answer (Err r); bytes = second } ≡ normal_index used buffer second
  unfolding normal_index judged_answer written_answer
  index-refused second r told = rw (← told)

  module _ (counts : Counts) (told : judged_answer (Ok counts) ≡ Judge.judge_index used buffer) where
    judged : Judge.judge_index used buffer ≡ Judge.accepted counts.records counts.items
    unfolding judged_answer
    judged = sym told

    pub index-room : (used ≤ length buffer) × (used % 84 ≡ 0)
    unfolding Judge.judge_index
    index-room = let w = stage_one_lem used buffer (stage_given (stage_one_ok used buffer) (Judge.judge_index_records (chunks (used / 84) buffer)) _ judged).0 in (w.inside, w.even)

    pub index-written : (second : List ℕ) (r : Outcome ℕ) → r ≡ written_to used (rewritten (Due.Index IndexA) (chunks (used / 84) buffer)) second → r ≡ normal_index used buffer second
    unfolding normal_index written_to
    index-written second r h = h ∙ rw (index-form (chunks (used / 84) buffer) (wide_chunks (used / 84) buffer (omega (arith, index-room.0))), judged)
