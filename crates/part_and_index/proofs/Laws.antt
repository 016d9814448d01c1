-- What callers cite: what the two answers say of a file's records. What a step means stands in proofs/Meaning, what is due behind a record in
-- proofs/DueLaws. Assumes nothing.
use mathlib.Core.Path.{◌≡◌, refl, ap, sym, ◌∙◌}
use mathlib.Core.Bool.{true}
use mathlib.Core.List.{List, []}
use Prim.Native.Nat.{ℕ, ◌≤◌}
use native.Mathlib.Omega.{arith}
use lib.Dec.{eqb}
use lib.ListN.{length, get_or}
use Rattle.format.specs.Basics.{Fault, none, fault, fine, unless}
use Rattle.format.specs.Layout.{number_at, sheet_b}
use Rattle.format.specs.Part.{part_from}
use Rattle.format.specs.Sheet.{due_a, sheet_machine, sheet_fault, part_length, corners, stated_elements, stated_records}
use Rattle.format.specs.Index as Index
use Rattle.format.proofs.EditRecords.{sheet_ok}
use Rattle.format.proofs.SheetCounts.{the_laws}
use Rattle.part_and_index.specs.Result.{SheetPart}
use Rattle.part_and_index.specs.Result.{IndexFault}
use Rattle.part_and_index.specs.Result.{sound_part, part_answer, sheet_part_of, fault_answer, index_fault_of}
use Rattle.part_and_index.proofs.Parts.{Numbered, either_numbered, number_numbered, part_numbered}

-- ---- THE SHEET PART: fault 0 says that there is none, and what the part is
pub record SoundPart (rs : List (List ℕ)) (part : SheetPart) : Type 0 where
  pub no_fault : sheet_fault rs ≡ none
  pub length_is : part.length ≡ part_length rs
  pub elements_is : part.stated_elements ≡ stated_elements (get_or rs 1 [])
  pub records_is : part.stated_records ≡ stated_records (get_or rs 1 [])
  pub unit_is : part.unit ≡ number_at sheet_b "unit" (get_or rs 1 [])
  pub corners_are_lem : part.corners ≡ corners rs
  pub inside : part.length ≤ length rs
  pub two : 2 ≤ part.length

module _ (rs : List (List ℕ)) (part : SheetPart) (answer : part ≡ sheet_part_of rs) where
  answer_is : (f : Fault) → sheet_fault rs ≡ f → part ≡ part_answer f (part_length rs) (get_or rs 1 []) (corners rs)
  unfolding sheet_part_of
  answer_is f e = answer ∙ ap (λ (f : Fault). part_answer f (part_length rs) (get_or rs 1 []) (corners rs)) e

  numbered : Numbered (sheet_fault rs)
  unfolding sheet_fault
  numbered = part_numbered sheet_machine due_a 1 rs

  sound : sheet_fault rs ≡ none → SoundPart rs part
  sound e =
      let ok : sheet_ok rs ≡ true = ap fine e in
      let is : part ≡ sound_part (part_length rs) (get_or rs 1 []) (corners rs) = answer_is none e in
      let long : part.length ≡ part_length rs = ap (λ (p : SheetPart). p.length) is in
      record {
        no_fault = e;
        length_is = long;
        elements_is = ap (λ (p : SheetPart). p.stated_elements) is;
        records_is = ap (λ (p : SheetPart). p.stated_records) is;
        unit_is = ap (λ (p : SheetPart). p.unit) is;
        corners_are_lem = ap (λ (p : SheetPart). p.corners) is;
        inside = omega (arith, the_laws.inside rs ok);
        two = omega (arith, the_laws.two rs ok);
      }

  pub sound-part : part.fault ≡ 0 → SoundPart rs part
  unfolding Numbered
  sound-part z = go (sheet_fault rs) refl numbered
    where
      go : (f : Fault) → sheet_fault rs ≡ f → Numbered f → SoundPart rs part
      go none e p = sound e
      go (fault n at) e p = absurd (p (ap (λ (p : SheetPart). p.fault) (sym (answer_is (fault n at) e)) ∙ z))

  pub refused-part : (part.fault ≡ 0 → ⊥) → sheet_fault rs ≡ fault part.fault part.at
  refused-part z = go (sheet_fault rs) refl
    where
      go : (f : Fault) → sheet_fault rs ≡ f → sheet_fault rs ≡ fault part.fault part.at
      go none e = absurd (z (ap (λ (p : SheetPart). p.fault) (answer_is none e)))
      go (fault n at) e = e ∙ rw (answer_is (fault n at) e)

-- ---- THE INDEX
module _ (rs : List (List ℕ)) (answer : IndexFault) (is : answer ≡ index_fault_of rs) where
  index_is : (f : Fault) → Index.index_fault rs ≡ f → answer ≡ fault_answer f
  unfolding index_fault_of
  index_is f e = is ∙ ap fault_answer e

  index_numbered : Numbered (Index.index_fault rs)
  unfolding Index.index_fault
  index_numbered = either_numbered _ _ (part_numbered Index.index_machine Index.due_a 1 rs) (number_numbered (unless (eqb (length rs) (part_from Index.index_machine Index.due_a rs)) 10) 1)

  pub sound-index : answer.number ≡ 0 → Index.index_fault rs ≡ none
  unfolding Numbered
  sound-index z = go (Index.index_fault rs) refl index_numbered
    where
      go : (f : Fault) → Index.index_fault rs ≡ f → Numbered f → Index.index_fault rs ≡ none
      go none e p = e
      go (fault n at) e p = absurd (p (ap (λ (a : IndexFault). a.number) (sym (index_is (fault n at) e)) ∙ z))

  pub refused-index : (answer.number ≡ 0 → ⊥) → Index.index_fault rs ≡ fault answer.number answer.at
  refused-index z = go (Index.index_fault rs) refl
    where
      go : (f : Fault) → Index.index_fault rs ≡ f → Index.index_fault rs ≡ fault answer.number answer.at
      go none e = absurd (z (ap (λ (a : IndexFault). a.number) (index_is none e)))
      go (fault n at) e = e ∙ rw (index_is (fault n at) e)
