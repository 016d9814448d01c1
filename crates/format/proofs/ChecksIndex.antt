-- An index is refused exactly so. Assumes nothing.
use mathlib.Core.Path.{◌≡◌, refl, ap, sym, ◌∙◌}
use mathlib.Core.Logic.{inl, inr, ◌↔◌, ◌≢◌}
use mathlib.Core.Bool.{Bool, true, false, cond, false≢true}
use mathlib.Core.List.{List, [], ◌∷◌, ◌++◌}
use Prim.Native.Nat.{ℕ, suc, ◌/◌, ◌<◌}
use native.Mathlib.Omega.{arith}
use lib.Dec.{eqb, eqb-suc-zero, eqb-suc-suc}
use lib.ListN.{length, length-append}
use Rattle.format.specs.Basics.{refused, Fault, none, fault, or_else, to_fault, unless, chunks, stage_one_ok}
use Rattle.format.specs.Part.{part_from, part_fault}
use Rattle.format.specs.Index.{Stage, due_a, due_b, due_c, over, is_over, after, wrong_in, index_machine, index_fault}
use Rattle.format.specs.Judge.{accepted, verdict, after_stage_one, judge_index_records, judge_index}
use Rattle.format.specs.Checks.{due_behind_all, index_walk, IndexStageTwo, LeftOver, StageOneFails, IndexRefusal}
use Rattle.format.proofs.Lists.{length-chunks}
use Rattle.format.proofs.ChecksOrder.{Says, says_map}
use Rattle.format.proofs.ChecksParts.{index-first}
use Rattle.format.proofs.ChecksWalks.{records-fault, fault_exactly, none_exactly, or_else_assoc}
use Rattle.format.proofs.ChecksJudging.{fault-number, refusal_numbered}
use Rattle.format.proofs.ChecksStages.{Third, passed, failed, stage_one_says, refusal_exactly, accepted_exactly}

-- ---- Stage two
abbrev index_fault_from : Stage → ℕ → List (List ℕ) → Fault
index_fault_from s i rs = records-fault index_walk wrong_in index-first s i rs

abbrev at_end : Stage → List (List ℕ) → Fault
at_end s rs = cond (is_over (due_behind_all index_walk s rs)) none (fault 3 1)

over_stays : (i : ℕ) (rs : List (List ℕ)) → or_else (index_fault_from over i rs) (at_end over rs) ≡ none
unfolding records-fault
over_stays i [] = refl
over_stays i (r ∷ rs) = over_stays (suc i) rs

index-total : (rs : List (List ℕ)) (s : Stage) (i : ℕ) → part_fault index_machine s i rs ≡ or_else (index_fault_from s i rs) (at_end s rs)
unfolding records-fault
index-total [] s i = refl
index-total (r ∷ rs) s i = go s (index-total rs (after s r) (suc i))
  where
    step : (q : Stage) → part_fault index_machine (after q r) (suc i) rs ≡ or_else (index_fault_from (after q r) (suc i) rs) (at_end (after q r) rs) → or_else (to_fault (wrong_in q r) i) (part_fault index_machine (after q r) (suc i) rs) ≡ or_else (index_fault_from q i (r ∷ rs)) (at_end q (r ∷ rs))
    step q ih = ap (or_else (to_fault (wrong_in q r) i)) ih ∙ sym (or_else_assoc (to_fault (wrong_in q r) i) (index_fault_from (after q r) (suc i) rs) (at_end (after q r) rs))

    go : (q : Stage) → part_fault index_machine (after q r) (suc i) rs ≡ or_else (index_fault_from (after q r) (suc i) rs) (at_end (after q r) rs) → part_fault index_machine q i (r ∷ rs) ≡ or_else (index_fault_from q i (r ∷ rs)) (at_end q (r ∷ rs))
    go due_a ih = step due_a ih
    go (due_b bs cs) ih = step (due_b bs cs) ih
    go (due_c cs) ih = step (due_c cs) ih
    go over ih = sym (over_stays i (r ∷ rs))

still_due : (s : Stage) → (s ≢ over) → (n k : ℕ) → fault 3 1 ≡ fault n k ↔ ((n ≡ 3) × (s ≢ over) × (k ≡ 1))
still_due s ne n k = (λ e. let a : n ≡ 3 = cc in let b : k ≡ 1 = cc in (a, ne, b), λ x. let a : n ≡ 3 = x.0 in let b : k ≡ 1 = x.2 in cc)

missing_exactly : (s : Stage) (n k : ℕ) → cond (is_over s) none (fault 3 1) ≡ fault n k ↔ ((n ≡ 3) × (s ≢ over) × (k ≡ 1))
missing_exactly due_a n k = still_due due_a (λ e. let x : ◌≡◌ {A = ℕ} 0 1 = cc in omega arith) n k
missing_exactly (due_b bs cs) n k = still_due (due_b bs cs) (λ e. let x : ◌≡◌ {A = ℕ} 0 1 = cc in omega arith) n k
missing_exactly (due_c cs) n k = still_due (due_c cs) (λ e. let x : ◌≡◌ {A = ℕ} 0 1 = cc in omega arith) n k
missing_exactly over n k = (λ e. let x : ◌≡◌ {A = ℕ} 0 1 = cc in absurd (omega arith), λ x. absurd (x.1 refl))

pub index_two_exactly : (rs : List (List ℕ)) (n k : ℕ) → part_fault index_machine due_a 1 rs ≡ fault n k ↔ IndexStageTwo rs n k
index_two_exactly rs n k = (λ e. there (index_fault_from due_a 1 rs) refl (sym (index-total rs due_a 1) ∙ e), λ x. index-total rs due_a 1 ∙ back x)
  where
    there : (a : Fault) → index_fault_from due_a 1 rs ≡ a → or_else (index_fault_from due_a 1 rs) (at_end due_a rs) ≡ fault n k → IndexStageTwo rs n k
    there none q e = let x = (missing_exactly (due_behind_all index_walk due_a rs) n k).0 (rw q at e) in inr (x.0, (none_exactly index_walk wrong_in index-first due_a 1 rs).0 q, x.1, x.2)
    there (fault m j) q e = inl ((fault_exactly index_walk wrong_in index-first due_a 1 rs n k).0 (q ∙ (rw q at e)))

    back : IndexStageTwo rs n k → or_else (index_fault_from due_a 1 rs) (at_end due_a rs) ≡ fault n k
    back (inl f) = rw ((fault_exactly index_walk wrong_in index-first due_a 1 rs n k).1 f)
    back (inr x) = rw ((none_exactly index_walk wrong_in index-first due_a 1 rs).1 x.1) ((missing_exactly (due_behind_all index_walk due_a rs) n k).1 (x.0, x.2, x.3))

-- ---- Stage three
left_more : (q : Stage) (r : List ℕ) (rs : List (List ℕ)) → LeftOver (after q r) rs → LeftOver q (r ∷ rs)
left_more q r rs x = record { front = r ∷ x.front; it = x.it; behind = x.behind; whole = ap (λ (l : List (List ℕ)). r ∷ l) x.whole; ended = x.ended }

left_less : (q : Stage) → q ≢ over → (r : List ℕ) (rs front : List (List ℕ)) (it : List ℕ) (behind : List (List ℕ)) → r ∷ rs ≡ front ++ it ∷ behind → due_behind_all index_walk q front ≡ over → LeftOver (after q r) rs
left_less q ne r rs [] it behind w e = absurd (ne e)
left_less q ne r rs (y ∷ front) it behind w e = let p : y ≡ r = cc in let t : rs ≡ front ++ it ∷ behind = cc in record { front = front; it = it; behind = behind; whole = t; ended = ap (λ (z : List ℕ). due_behind_all index_walk (after q z) front) (sym p) ∙ e }

left_says : (rs : List (List ℕ)) (s : Stage) → Says (eqb (length rs) (part_from index_machine s rs)) (LeftOver s rs)
left_says [] s = record { yes = λ e. absurd (false≢true (sym e)); no = λ e x. omega (arith, ap length x.whole ∙ length-append x.front (x.it ∷ x.behind)) }
left_says (r ∷ rs) s = go s (left_says rs (after s r))
  where
    due : (q : Stage) → q ≢ over → Says (eqb (length rs) (part_from index_machine (after q r) rs)) (LeftOver (after q r) rs) → Says (eqb (suc (length rs)) (suc (part_from index_machine (after q r) rs))) (LeftOver q (r ∷ rs))
    due q ne ih = rw (eqb-suc-suc (length rs) (part_from index_machine (after q r) rs)) (says_map (left_more q r rs) (λ x. left_less q ne r rs x.front x.it x.behind x.whole x.ended) ih)

    go : (q : Stage) → Says (eqb (length rs) (part_from index_machine (after q r) rs)) (LeftOver (after q r) rs) → Says (eqb (length (r ∷ rs)) (part_from index_machine q (r ∷ rs))) (LeftOver q (r ∷ rs))
    go over ih = rw (eqb-suc-zero (length rs)) (record { yes = λ e. record { front = []; it = r; behind = rs; whole = refl; ended = refl }; no = λ e. absurd (false≢true e) })
    go due_a ih = due due_a (λ e. let x : ◌≡◌ {A = ℕ} 0 1 = cc in omega arith) ih
    go (due_b bs cs) ih = due (due_b bs cs) (λ e. let x : ◌≡◌ {A = ℕ} 0 1 = cc in omega arith) ih
    go (due_c cs) ih = due (due_c cs) (λ e. let x : ◌≡◌ {A = ℕ} 0 1 = cc in omega arith) ih

abbrev left_over_fault : List (List ℕ) → Fault
left_over_fault rs = to_fault (unless (eqb (length rs) (part_from index_machine due_a rs)) 10) 1

index_third : (rs : List (List ℕ)) → Third (λ (at : ℕ). LeftOver due_a rs × (at ≡ 1)) (left_over_fault rs)
index_third rs = go (eqb (length rs) (part_from index_machine due_a rs)) refl (left_says rs due_a)
  where
    go : (t : Bool) → eqb (length rs) (part_from index_machine due_a rs) ≡ t → Says t (LeftOver due_a rs) → Third (λ (at : ℕ). LeftOver due_a rs × (at ≡ 1)) (left_over_fault rs)
    go true e s = passed (rw e) (λ at x. s.no refl x.0)
    go false e s = failed 1 (rw e) (s.yes refl, refl)

module _ (used : ℕ) (buffer : List ℕ) where
  abbrev rs : List (List ℕ)
  rs = chunks (used / 84) buffer

  abbrev Left : ℕ → Type 0
  Left at = LeftOver due_a rs × (at ≡ 1)

  is_judged : judge_index used buffer ≡ after_stage_one (stage_one_ok used buffer) (verdict (or_else (part_fault index_machine due_a 1 rs) (left_over_fault rs)) (used / 84) 0)
  unfolding judge_index judge_index_records index_fault
  is_judged = rw (length-chunks (used / 84) buffer)

  pub index-refused : (number at : ℕ) → judge_index used buffer ≡ refused number at ↔ IndexRefusal used buffer number at
  index-refused = refusal_exactly (StageOneFails used buffer) (IndexStageTwo rs) Left (stage_one_ok used buffer) (part_fault index_machine due_a 1 rs) (left_over_fault rs) (used / 84) 0 (judge_index used buffer) (stage_one_says used buffer) (index_two_exactly rs) (λ e. index_third rs) (λ a b x y. x.1 ∙ sym y.1) is_judged

  pub index-accepted : (n m : ℕ) → judge_index used buffer ≡ accepted n m ↔ (((number at : ℕ) → IndexRefusal used buffer number at → ⊥) × (n ≡ used / 84) × (m ≡ 0))
  index-accepted = accepted_exactly (StageOneFails used buffer) (IndexStageTwo rs) Left (stage_one_ok used buffer) (part_fault index_machine due_a 1 rs) (left_over_fault rs) (used / 84) 0 (judge_index used buffer) (stage_one_says used buffer) (index_two_exactly rs) (λ e. index_third rs) (λ a b x y. x.1 ∙ sym y.1) is_judged

  -- each refusal has a number
  pub index_numbered : (n k : ℕ) → judge_index used buffer ≡ refused n k → 0 < n
  index_numbered n k e = refusal_numbered n k two ((index-refused n k).0 e)
    where
      two : IndexStageTwo rs n k → 0 < n
      two (inl f) = omega (arith, (fault-number index_walk due_a 1 rs n k f).0)
      two (inr y) = omega (arith, y.0)
