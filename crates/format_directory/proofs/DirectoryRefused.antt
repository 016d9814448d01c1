-- "Plain judging still refuses directory records with 4, or 1 past 200,000 records". Assumes nothing.
use mathlib.Core.Path.{◌≡◌, refl, ap, ap₂, sym, ◌∙◌, subst}
use mathlib.Core.Bool.{Bool, true, false, cond, ◌&&◌}
use mathlib.Core.List.{List, [], ◌∷◌, ◌++◌, map, map-append}
use Prim.Native.Nat.{ℕ, zero, suc, pred, ◌+◌, ◌*◌, ◌/◌, ◌%◌, ◌≤◌, ◌<◌}
use native.Mathlib.Omega.{arith}
use lib.Dec.{leb, ltb, eqb}
use lib.ListN.{length, length-map, length-drop, take, drop, take-append-drop}
use lib.Seq.{drop-append-le}
use borrow.Author.Tests.{lt-leb, leb-true, ltb-true, eqb-true}
use Rattle.format.specs.Text.{bytes, begins}
use Rattle.format.specs.Basics.{given, refused, Fault, none, fault, or_else, to_fault, first, unless, chunks, round_up}
use Rattle.format.specs.Record.{View, Data, nothing, count_index, RecordType, other, type_of, other_view, view_as, view}
use Rattle.format.specs.Part.{Machine, part_from, part_fault}
use Rattle.format.specs.Sheet.{part_length, sheet_fault, sheet_machine, due_a}
use Rattle.format.specs.Judge.{level_ok, open_after, due_after, held_after, owner_after, walk, body_fault, sheet_count_fault, count_fault, verdict, file_of, Counts, after_stage_one, after_part, judge, judge_records, judge_sheet, items, headers_and_items}
use Rattle.format.specs.Edit.{due_behind}
use Rattle.format_directory.specs.declared.Edition.{Edition}
use Rattle.format_directory.specs.declared.Edition.TheVariants.{One, Two}
use Rattle.format_directory.specs.Directory.{Layer, per_record, row, closing, shared, directory_of, layers_of, last_record, pointer_in, sheet_in, directory_in}
use Rattle.format.proofs.Basics.{and-true}
use Rattle.format.proofs.JudgeWalks.{Passes, or_else-none}
use Rattle.format.proofs.JudgeAccepted.{Ok, accepted_ok}
use Rattle.format.proofs.JudgeStages.{Whole}
use Rattle.format.proofs.JudgeRecords.{sheet-own}
use Rattle.format_directory.proofs.DirectoryLayers.{judged-part}
use Rattle.format_directory.proofs.DirectoryJudged.{RightDirectory, Accepted, right-sheet}

-- records behind a part that is in order do not change it
module _ (M : Machine) where
  on : (p : M.Phase) (i : ℕ) (rs X : List (List ℕ)) → part_fault M p i rs ≡ none → (part_fault M p i (rs ++ X) ≡ none) × (part_from M p (rs ++ X) ≡ part_from M p rs)
  on p i [] X e = go (M.over p) refl e
    where
      at : (X : List (List ℕ)) → M.over p ≡ true → (part_fault M p i X ≡ none) × (part_from M p X ≡ 0)
      at [] h = (rw h, refl)
      at (x ∷ X) h = (rw h, rw h)

      go : (t : Bool) → M.over p ≡ t → cond t none (fault 3 1) ≡ none → (part_fault M p i X ≡ none) × (part_from M p X ≡ 0)
      go true h e = at X h
      go false h e = let z : ◌≡◌ {A = ℕ} 0 1 = cc in absurd (omega arith)
  on p i (r ∷ rs) X e = go (M.over p) e (on (M.step p r) (suc i) rs X)
    where
      go : (t : Bool) → cond t none (or_else (to_fault (M.wrong p r) i) (part_fault M (M.step p r) (suc i) rs)) ≡ none → (part_fault M (M.step p r) (suc i) rs ≡ none → (part_fault M (M.step p r) (suc i) (rs ++ X) ≡ none) × (part_from M (M.step p r) (rs ++ X) ≡ part_from M (M.step p r) rs)) → (cond t none (or_else (to_fault (M.wrong p r) i) (part_fault M (M.step p r) (suc i) (rs ++ X))) ≡ none) × (cond t 0 (suc (part_from M (M.step p r) (rs ++ X))) ≡ cond t 0 (suc (part_from M (M.step p r) rs)))
      go true e ih = (refl, refl)
      go false e ih = let q = or_else-none (to_fault (M.wrong p r) i) (part_fault M (M.step p r) (suc i) rs) e in let k = ih q.1 in (ap₂ or_else q.0 k.0, ap suc k.1)

-- a record of no kind, where a header or an item is due
walk-four : (o n : ℕ) (s : Data) (owner i : ℕ) (P : List View) (z : View) (Q : List View) → Passes o n s P → due_behind n P ≡ 0 → 9 < count_index z.kind → walk o n s owner i (P ++ z ∷ Q) ≡ fault 4 (i + length P)
walk-four o zero s owner i [] z Q p e l = ap (λ (t : Bool). or_else (to_fault (first (unless t 4) (others z)) i) (walk (open_after o 0 z) (due_after 0 z) (held_after 0 s z) (owner_after 0 owner i) (suc i) Q)) (lt-leb (count_index z.kind) 9 l) ∙ ap (fault 4) none₁
  where
    others : View → ℕ
    others r = first r.column_fault (first (unless (level_ok o r) 7) r.rule_fault)

    none₁ : i ≡ i + 0
    none₁ = omega arith
walk-four o (suc n) s owner i [] z Q p e l = absurd (omega arith)
walk-four o n s owner i (r ∷ P) z Q p e l = ap (λ (x : ℕ). or_else (to_fault x i) (walk (open_after o n r) (due_after n r) (held_after n s r) (owner_after n owner i) (suc i) (P ++ z ∷ Q))) p.0 ∙ walk-four (open_after o n r) (due_after n r) (held_after n s r) (owner_after n owner i) (suc i) P z Q p.1 e l ∙ ap (fault 4) more
  where
    more : suc i + length P ≡ i + suc (length P)
    more = omega arith

-- a directory's records start with letters of no kind
unknown : (r : List ℕ) → type_of r ≡ other → 9 < count_index (view r).kind
unfolding view other_view
unknown r e = subst (λ (s : RecordType). 9 < count_index (view_as s r).kind) (sym e) (let h : 9 < 10 = omega arith in h)

row_other : (e : Edition) (ls : List Layer) → type_of (row e ls) ≡ other
unfolding type_of begins bytes row
row_other One ls = refl
row_other Two ls = refl

closing-other : (e : Edition) (p c : ℕ) → type_of (closing e p c) ≡ other
unfolding type_of begins bytes closing
closing-other One p c = refl
closing-other Two p c = refl

record First (D : List (List ℕ)) : Type 0 where
  one_of : List ℕ
  others : List (List ℕ)
  is : D ≡ one_of ∷ others
  no_kind : 9 < count_index (view one_of).kind

first_of : (e : Edition) (p : ℕ) (ls : List Layer) → First (directory_of e p ls)
unfolding directory_of
first_of e p ls = go (round_up (length ls) (per_record e))
  where
    go : (n : ℕ) → First (map (row e) (shared (per_record e) n ls) ++ (closing e p (length ls) ∷ []))
    go zero = record { one_of = closing e p (length ls); others = []; is = refl; no_kind = unknown _ (closing-other e p (length ls)) }
    go (suc n) = record { one_of = row e (take (per_record e) ls); others = map (row e) (shared (per_record e) n (drop (per_record e) ls)) ++ (closing e p (length ls) ∷ []); is = refl; no_kind = unknown _ (row_other e (take (per_record e) ls)) }

-- ---- an accepted sheet with such records behind it
record Fine (R : List (List ℕ)) : Type 0 where
  fault_free : sheet_fault R ≡ none
  ok : Ok (file_of R)

fine_of : (R : List (List ℕ)) (c : Counts) → judge_records R ≡ given c → Fine R
unfolding judge_records judge
fine_of R c e = go (sheet_fault R) refl (body_fault (file_of R)) refl e
  where
    go : (x : Fault) → sheet_fault R ≡ x → (y : Fault) → body_fault (file_of R) ≡ y → after_part x (verdict y ((file_of R).part_length + length (file_of R).body) (items (headers_and_items 0 (file_of R).body))) ≡ given c → Fine R
    go none p none q e = record { fault_free = p; ok = accepted_ok (file_of R) ((file_of R).part_length + length (file_of R).body) (items (headers_and_items 0 (file_of R).body)) (ap (λ (f : Fault). verdict f ((file_of R).part_length + length (file_of R).body) (items (headers_and_items 0 (file_of R).body))) q) }
    go none p (fault a b) q e = let z : ◌≡◌ {A = ℕ} 0 1 = cc in absurd (omega arith)
    go (fault a b) p y q e = let z : ◌≡◌ {A = ℕ} 0 1 = cc in absurd (omega arith)

module _ (R D : List (List ℕ)) (c : Counts) (j : judge_records R ≡ given c) (d : First D) where
  still_part : (sheet_fault (R ++ D) ≡ none) × (part_length (R ++ D) ≡ part_length R)
  unfolding sheet_fault part_length
  still_part = on sheet_machine due_a 1 R D (fine_of R c j).fault_free

  body_is : map view (drop (part_length (R ++ D)) (R ++ D)) ≡ map view (drop (part_length R) R) ++ view d.one_of ∷ map view d.others
  body_is = ap (λ (n : ℕ). map view (drop n (R ++ D))) still_part.1 ∙ ap (map view) (drop-append-le (part_length R) R D (judged-part R c j)) ∙ map-append view (drop (part_length R) R) D ∙ ap (λ (x : List (List ℕ)). map view (drop (part_length R) R) ++ map view x) d.is

  four : body_fault (file_of (R ++ D)) ≡ fault 4 (suc (length R))
  four = ap (λ (x : Fault). or_else x (or_else (to_fault (sheet_count_fault (file_of (R ++ D))) 2) (count_fault 0 (suc (part_length (R ++ D))) (map view (drop (part_length (R ++ D)) (R ++ D)))))) (ap₂ (λ (n : ℕ) (b : List View). walk 0 0 nothing 0 (suc n) b) still_part.1 body_is ∙ walk-four 0 0 nothing 0 (suc (part_length R)) (map view (drop (part_length R) R)) (view d.one_of) (map view d.others) (fine_of R c j).ok.walks.0 (fine_of R c j).ok.walks.1 d.no_kind ∙ ap (fault 4) place)
    where
      place : suc (part_length R) + length (map view (drop (part_length R) R)) ≡ suc (length R)
      place = rw (length-map (drop (part_length R) R) view, length-drop (part_length R) R) (omega (arith, judged-part R c j))

  refused-four : judge_records (R ++ D) ≡ refused 4 (suc (length R))
  unfolding judge_records judge
  refused-four = ap₂ (λ (x y : Fault). after_part x (verdict y ((file_of (R ++ D)).part_length + length (file_of (R ++ D)).body) (items (headers_and_items 0 (file_of (R ++ D)).body)))) still_part.0 four

-- ---- a file that is accepted with its directory
pub take_chunks : (n k : ℕ) (bs : List ℕ) → n ≤ k → take n (chunks k bs) ≡ chunks n bs
take_chunks zero k bs l = refl
take_chunks (suc n) zero bs l = absurd (omega arith)
take_chunks (suc n) (suc k) bs l = ap (λ (x : List (List ℕ)). take 84 bs ∷ x) (take_chunks n k (drop 84 bs) (omega arith))

module _ (e : Edition) (used : ℕ) (b : List ℕ) (c : Counts) (r : RightDirectory e used b c) where
  joined : chunks (used / 84) b ≡ sheet_in used b ++ directory_in used b
  unfolding sheet_in directory_in
  joined = sym (take-append-drop (pred (pointer_in (last_record used b))) (chunks (used / 84) b)) ∙ ap (λ (x : List (List ℕ)). x ++ drop (pred (pointer_in (last_record used b))) (chunks (used / 84) b)) (take_chunks (pred (pointer_in (last_record used b))) (used / 84) b (omega (arith, r.high)))

  form : used ≤ 84 * 200000 → Whole used b
  form l = record { some = ltb-true 0 used y.0; inside = leb-true used (length b) y.1; even = eqb-true (used % 84) 0 x.1; few = l }
    where
      x : (ltb 0 used && leb used (length b) ≡ true) × (eqb (used % 84) 0 ≡ true)
      x = and-true _ _ r.whole

      y : (ltb 0 used ≡ true) × (leb used (length b) ≡ true)
      y = and-true _ _ x.0

  pub plain-refuses : used ≤ 84 * 200000 → judge_sheet used b ≡ refused 4 (pointer_in (last_record used b))
  plain-refuses l = sheet-own used b (form l) ∙ ap judge_records (joined ∙ ap (λ (x : List (List ℕ)). sheet_in used b ++ x) r.directory) ∙ refused-four (sheet_in used b) (directory_of e (pointer_in (last_record used b)) (layers_of (sheet_in used b))) c s.judged (first_of e (pointer_in (last_record used b)) (layers_of (sheet_in used b))) ∙ ap (refused 4) at
    where
      s : Accepted (sheet_in used b) (pred (pointer_in (last_record used b))) c
      s = right-sheet e used b c r

      at : suc (length (sheet_in used b)) ≡ pointer_in (last_record used b)
      at = omega (arith, s.count, r.low)

pub plain_refuses_long : (used : ℕ) (b : List ℕ) → 84 * 200000 < used → judge_sheet used b ≡ refused 1 0
unfolding judge_sheet
plain_refuses_long used b l = ap (λ (t : Bool). after_stage_one t (judge_records (chunks (used / 84) b))) (last_false (ltb 0 used && leb used (length b) && eqb (used % 84) 0) (leb used (84 * 200000)) (lt-leb used (84 * 200000) l))
  where
    last_false : (x y : Bool) → y ≡ false → x && y ≡ false
    last_false true y q = q
    last_false false y q = refl
