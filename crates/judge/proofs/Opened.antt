-- What callers cite of an opened sheet: fault 0 says that judging accepts it, and what stands before the place. Assumes nothing.
use mathlib.Core.Path.{◌≡◌, refl, ap, sym, ◌∙◌}
use mathlib.Core.List.{List, []}
use Prim.Native.Nat.{ℕ, suc, ◌-◌, ◌/◌, ◌≤◌}
use native.Mathlib.Omega.{arith}
use native.Mathlib.Nat.{zero-add}
use lib.ListN.{take, get_or}
use Rattle.format.specs.Basics.{Answer, given, refused, chunks}
use Rattle.format.specs.Layout.{number_at, sheet_b}
use Rattle.format.specs.Sheet.{corners, part_length, stated_elements}
use Rattle.format.specs.Judge.{Counts, File, judge_sheet, sheet_in, AcceptedSheet}
use Rattle.format.specs.Edit.{due_behind, open_behind, body_place}
use Rattle.format.proofs.AcceptedSheet.{elements_are}
use Rattle.format.proofs.ChecksJudging.{sheet_numbered}
use Rattle.judge.specs.Sheet.{Sheet}
use Rattle.judge.specs.Sheet.{body_before, start_before, header_before, opened_sheet, opened_in}
use Rattle.judge.proofs.AnswerLaws.{get_or-values}

-- what fault 0 says of an opened sheet `s`: that it is accepted, and what its numbers are
pub record Opened (used : ℕ) (buffer : List ℕ) (before : ℕ) (s : Sheet) : Type 0 where
  pub accepted : AcceptedSheet used buffer
  pub items_are : s.items ≡ stated_elements (get_or (chunks (used / 84) buffer) 1 [])
  pub part_is : s.part ≡ part_length (chunks (used / 84) buffer)
  pub unit_is : s.unit ≡ number_at sheet_b "unit" (get_or (chunks (used / 84) buffer) 1 [])
  pub corners_are_lem : s.corners ≡ corners (chunks (used / 84) buffer)
  pub due_is : s.due ≡ due_behind 0 (body_before (sheet_in used buffer) before)
  pub open_level_is : s.open_level ≡ open_behind 0 0 (body_before (sheet_in used buffer) before)
  pub start_is : s.start ≡ start_before (sheet_in used buffer) before
  pub header_is : (level : ℕ) → level ≤ 8 → get_or s.headers level 0 ≡ header_before (sheet_in used buffer) before level

module _ (used : ℕ) (buffer : List ℕ) (before : ℕ) (s : Sheet) (is : s ≡ opened_in used buffer before) where
  by : (answer : Answer Counts) → judge_sheet used buffer ≡ answer → s ≡ opened_sheet answer (chunks (used / 84) buffer) before
  unfolding opened_in
  by answer e = is ∙ ap (λ (a : Answer Counts). opened_sheet a (chunks (used / 84) buffer) before) e

  pub sheet_refused_is : (s.fault ≡ 0 → ⊥) → judge_sheet used buffer ≡ refused s.fault s.at
  sheet_refused_is ne = go (judge_sheet used buffer) refl
    where
      go : (answer : Answer Counts) → judge_sheet used buffer ≡ answer → judge_sheet used buffer ≡ refused s.fault s.at
      go (given counts) e = absurd (ne (ap (λ (r : Sheet). r.fault) (by (given counts) e)))
      go (refused number at) e = e ∙ rw (by (refused number at) e)

  pub opened-sheet : s.fault ≡ 0 → Opened used buffer before s
  opened-sheet z = go (judge_sheet used buffer) refl
    where
      given-opened : (a : AcceptedSheet used buffer) → Opened used buffer before s
      given-opened a =
          let fields : s ≡ opened_sheet (given a.counts) (chunks (used / 84) buffer) before = by (given a.counts) a.judged in
          record {
            accepted = a;
            items_are = ap (λ (r : Sheet). r.items) fields ∙ sym (elements_are a);
            part_is = ap (λ (r : Sheet). r.part) fields;
            unit_is = ap (λ (r : Sheet). r.unit) fields;
            corners_are_lem = ap (λ (r : Sheet). r.corners) fields;
            due_is = ap (λ (r : Sheet). r.due) fields;
            open_level_is = ap (λ (r : Sheet). r.open_level) fields;
            start_is = ap (λ (r : Sheet). r.start) fields;
            header_is = λ level h. ap (λ (r : Sheet). get_or r.headers level 0) fields ∙ get_or-values 9 0 (header_before (sheet_in used buffer) before) level (omega arith) ∙ ap (header_before (sheet_in used buffer) before) (zero-add level);
          }

      go : (answer : Answer Counts) → judge_sheet used buffer ≡ answer → Opened used buffer before s
      go (given counts) e = given-opened (record { counts = counts; judged = e })
      go (refused number at) e = absurd (omega (arith, z, ap (λ (r : Sheet). r.fault) (by (refused number at) e), sheet_numbered used buffer number at e))

-- a place by its record number, as edits have it, stands behind one record less
pub before_place_lem : (f : File) (place : ℕ) → body_before f (place - 1) ≡ take (body_place f place) f.body
before_place_lem f place = let e : place - 1 - f.part_length ≡ place - suc f.part_length = omega arith in ap (λ (n : ℕ). take n f.body) e
