-- Three stages: a sheet, and an index, is refused exactly so. Assumes nothing.
use mathlib.Core.Path.{◌≡◌, refl, ap, sym, ◌∙◌}
use mathlib.Core.Logic.{◌⊎◌, inl, inr, ◌↔◌, ◌≢◌}
use mathlib.Core.List.{List, map}
use Prim.Native.Nat.{ℕ, suc, ◌+◌, ◌/◌, ◌≤◌, ◌<◌}
use native.Mathlib.Omega.{arith}
use lib.ListN.{length, drop}
use Rattle.format.specs.Basics.{refused, Fault, none, fault, or_else, chunks, stage_one_ok}
use Rattle.format.specs.Record.{nothing, view}
use Rattle.format.specs.Part.{part_from, part_fault}
use Rattle.format.specs.Sheet.{due_a, sheet_machine, part_length, sheet_fault}
use Rattle.format.specs.Judge.{file_of, walk, headers_and_items, items, accepted, verdict, judge, after_part, after_stage_one, judge_records, judge_sheet}
use Rattle.format.specs.Checks.{Walk, FirstOf, Faults, in_order, FirstFault, StageOneFails, Ten, StageTwo, SheetRefusal, Refusal, stage_one, stage_two, stage_three, sheet_walk, of_part}
use Rattle.format.proofs.JudgeWalks.{Passes, or_else-none, walk-passes}
use Rattle.format.proofs.ChecksOrder.{first_is}
use Rattle.format.proofs.AcceptedSheet.{accepted_by, all-records}
use Rattle.format.proofs.ChecksWalks.{stage_two_fault, stage_two_exactly}
use Rattle.format.proofs.ChecksCounts.{third, one_ten}
use Rattle.format.proofs.ChecksCounts.{stage_three as stage_three_fault}
use Rattle.format.proofs.ChecksStages.{stage_one_says, refusal_exactly, accepted_exactly}

-- ---- A sheet
judged : (rs : List (List ℕ)) → judge_records rs ≡ verdict (or_else (stage_two_fault rs) (stage_three_fault (file_of rs))) ((file_of rs).part_length + length (file_of rs).body) (items (headers_and_items 0 (file_of rs).body))
unfolding judge_records judge sheet_fault part_length
judged rs = go (part_fault sheet_machine due_a 1 rs)
  where
    go : (a : Fault) → after_part a (judge (file_of rs)) ≡ verdict (or_else (or_else a (walk 0 0 nothing 0 (1 + part_from sheet_machine due_a rs) (map view (drop (part_from sheet_machine due_a rs) rs)))) (stage_three_fault (file_of rs))) ((file_of rs).part_length + length (file_of rs).body) (items (headers_and_items 0 (file_of rs).body))
    go (fault n k) = refl
    go none = rw same
      where
        same : 1 + part_from sheet_machine due_a rs ≡ suc (part_from sheet_machine due_a rs)
        same = omega arith

-- a body that passes stage two
two_passes : (rs : List (List ℕ)) → stage_two_fault rs ≡ none → Passes 0 0 nothing (file_of rs).body
unfolding part_length
two_passes rs e = (walk-passes 0 0 nothing 0 (1 + part_from sheet_machine due_a rs) (file_of rs).body (or_else-none (part_fault sheet_machine due_a 1 rs) _ e).1).0

module _ (used : ℕ) (buffer : List ℕ) where
  abbrev rs : List (List ℕ)
  rs = chunks (used / 84) buffer

  is_judged : judge_sheet used buffer ≡ after_stage_one (stage_one_ok used buffer) (verdict (or_else (stage_two_fault rs) (stage_three_fault (file_of rs))) ((file_of rs).part_length + length (file_of rs).body) (items (headers_and_items 0 (file_of rs).body)))
  unfolding judge_sheet
  is_judged = ap (after_stage_one (stage_one_ok used buffer)) (judged rs)

  pub sheet-refused : (number at : ℕ) → judge_sheet used buffer ≡ refused number at ↔ SheetRefusal used buffer number at
  sheet-refused = refusal_exactly (StageOneFails used buffer) (StageTwo rs) (Ten (file_of rs)) (stage_one_ok used buffer) (stage_two_fault rs) (stage_three_fault (file_of rs)) _ _ (judge_sheet used buffer) (stage_one_says used buffer) (stage_two_exactly rs) (λ e. third (file_of rs) (two_passes rs e)) (one_ten (file_of rs)) is_judged

  sheet_accepted_as : (a b : ℕ) → judge_sheet used buffer ≡ accepted a b ↔ (((number at : ℕ) → SheetRefusal used buffer number at → ⊥) × (a ≡ (file_of rs).part_length + length (file_of rs).body) × (b ≡ items (headers_and_items 0 (file_of rs).body)))
  sheet_accepted_as = accepted_exactly (StageOneFails used buffer) (StageTwo rs) (Ten (file_of rs)) (stage_one_ok used buffer) (stage_two_fault rs) (stage_three_fault (file_of rs)) _ _ (judge_sheet used buffer) (stage_one_says used buffer) (stage_two_exactly rs) (λ e. third (file_of rs) (two_passes rs e)) (one_ten (file_of rs)) is_judged

  -- the records are those that the used length makes
  pub sheet-accepted : (n m : ℕ) → judge_sheet used buffer ≡ accepted n m ↔ (((number at : ℕ) → SheetRefusal used buffer number at → ⊥) × (n ≡ used / 84) × (m ≡ items (headers_and_items 0 (file_of rs).body)))
  sheet-accepted n m = (λ e. let h = (sheet_accepted_as n m).0 e in (h.0, h.1 ∙ all-records (accepted_by e), h.2), λ h. let q = (sheet_accepted_as _ _).1 (h.0, refl, refl) in (sheet_accepted_as n m).1 (h.0, h.1 ∙ sym (all-records (accepted_by q)), h.2))

-- ---- Which stage a number comes from: 1 from the first alone, 10 from the third alone, 3 from no record that is there
abbrev OfRecord : ℕ → Type 0
OfRecord n = ((n ≡ 0) ⊎ (2 ≤ n)) × (n ≤ 9) × (n ≢ 3)

pub record_number : (faults : Faults) (n : ℕ) → FirstOf (in_order faults) n → OfRecord n
record_number faults n f = first_is OfRecord (in_order faults) n (inl refl, omega arith, λ e. omega arith) (number 2 (omega arith) (omega arith) (omega arith), (number 4 (omega arith) (omega arith) (omega arith), (number 5 (omega arith) (omega arith) (omega arith), (number 6 (omega arith) (omega arith) (omega arith), (number 7 (omega arith) (omega arith) (omega arith), (number 8 (omega arith) (omega arith) (omega arith), (number 9 (omega arith) (omega arith) (omega arith), tt))))))) f
  where
    number : (n : ℕ) → 2 ≤ n → n ≤ 9 → n ≢ 3 → OfRecord n
    number n l u ne = (inr l, u, ne)

pub fault-number : (W : Walk) (due : W.Due) (i : ℕ) (records : List (List ℕ)) (n k : ℕ) → FirstFault W due i records n k → (2 ≤ n) × (n ≤ 9) × (n ≢ 3)
fault-number W due i records n k f = go (record_number _ n f.fails)
  where
    go : OfRecord n → (2 ≤ n) × (n ≤ 9) × (n ≢ 3)
    go (inl z, u, ne) = absurd (f.some z)
    go (inr l, u, ne) = (l, u, ne)

-- so each refusal has a number
pub refusal_numbered : {One : Type 0} {Two : (number at : ℕ) → Type 0} {Three : (at : ℕ) → Type 0} (n k : ℕ) → (Two n k → 0 < n) → Refusal One Two Three n k → 0 < n
refusal_numbered n k two (stage_one x a b) = omega arith
refusal_numbered n k two (stage_two x y) = two y
refusal_numbered n k two (stage_three x y a t) = omega arith

pub sheet_numbered : (used : ℕ) (buffer : List ℕ) (n k : ℕ) → judge_sheet used buffer ≡ refused n k → 0 < n
sheet_numbered used buffer n k e = refusal_numbered n k two ((sheet-refused used buffer n k).0 e)
  where
    two : StageTwo (chunks (used / 84) buffer) n k → 0 < n
    two (inl f) = omega (arith, (fault-number sheet_walk (of_part due_a) 1 (chunks (used / 84) buffer) n k f).0)
    two (inr y) = omega (arith, y.0)
