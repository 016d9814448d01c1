-- One record more, each arm of the step in the code's own words. Assumes nothing.
use mathlib.Core.Path.{◌≡◌, refl, sym, ◌∙◌}
use mathlib.Core.List.{List}
use mathlib.Core.Logic.{◌⊎◌, inl, inr}
use Prim.Native.Nat.{ℕ}
use borrow.Author.Tests.{ne_eqb}
use lib.ListN.{length}
use Rattle.format.specs.Basics.{first}
use Rattle.format.specs.Layout.{sheet_f, index_c}
use Rattle.format.specs.Sheet as Sheet
use Rattle.format.specs.Sheet.{wholes_of, fractions_of, stated_elements, stated_records}
use Rattle.format.specs.Index as Index
use Rattle.format.proofs.Basics.{first_alone}
use Rattle.layout_faults.specs.Faults.{fault_in}
use Rattle.part_and_index.specs.declared.due.Due.{Due}
use Rattle.part_and_index.specs.declared.due.Due.TheVariants.{SheetA, SheetB, SheetC, SheetD, SheetE, SheetF, IndexA, IndexB, IndexC, Over}
use Rattle.part_and_index.specs.Progress.{Progress}
use Rattle.part_and_index.specs.Due.{next_of_whole}
use Rattle.part_and_index.specs.Progress.{phase_by, phase_of, stage_by, stage_of, fault_of, put, said_a, said_b, said, stepped}
use Rattle.part_and_index.specs.Steps.{fault_of_sheet_a, fault_of_sheet_b, fault_of_sheet_d, fault_of_sheet_e, fault_of_index_a, over_e}
use Rattle.part_and_index.proofs.FaultLaws.{columns_first, c_unjudged, index_b_unjudged}
use Rattle.part_and_index.proofs.Meaning.{step_taken}

-- ---- `step`
module _ (p : Progress) (r : List ℕ) (q : Progress) where
  pub no_whole : (length r ≡ 84 → ⊥) → q ≡ put p 1 p.due → q ≡ stepped p r
  unfolding stepped
  no_whole h e = e ∙ rw (ne_eqb (length r) 84 h)

  module _ (wide : length r ≡ 84) (next : Due) (next-is : next ≡ next_of_whole p.due r) where
    step_is : (d : Due) → p.due ≡ d → (f : ℕ) → f ≡ first (Sheet.wrong_in (phase_by d p.level p.unit p.wholes) r) (Index.wrong_in (stage_by d) r) → q ≡ said d r (put p f next) → q ≡ stepped p r
    unfolding fault_of phase_of stage_of
    step_is d e f ef h = h ∙ rw (next-is, ef, ← e) (sym (step_taken p r wide))

    -- of a sheet part
    sheet_is : (d : Due) → p.due ≡ d → stage_by d ≡ Index.over → (f : ℕ) → f ≡ Sheet.wrong_in (phase_by d p.level p.unit p.wholes) r → q ≡ said d r (put p f next) → q ≡ stepped p r
    sheet_is d e o f ef h = step_is d e f (ef ∙ rw o (sym (first_alone _))) h

    pub step-sheet-a : p.due ≡ SheetA → q ≡ said_a r (put p (fault_of_sheet_a r) next) → q ≡ stepped p r
    unfolding fault_of_sheet_a
    step-sheet-a e h = sheet_is SheetA e refl (fault_of_sheet_a r) refl h

    pub step-sheet-b : (sets : ℕ) → p.due ≡ SheetB sets → q ≡ said_b r (put p (fault_of_sheet_b p.level r) next) → q ≡ stepped p r
    unfolding fault_of_sheet_b
    step-sheet-b sets e h = sheet_is (SheetB sets) e refl (fault_of_sheet_b p.level r) refl h

    pub step-sheet-c : (sets : ℕ) → p.due ≡ SheetC sets → q ≡ put p 0 next → q ≡ stepped p r
    step-sheet-c sets e h = sheet_is (SheetC sets) e refl 0 (sym (c_unjudged r)) h

    pub step-sheet-d : (sets : ℕ) → p.due ≡ SheetD sets → (f : ℕ) → q ≡ put p f next → f ≡ fault_of_sheet_d r → q ≡ stepped p r
    unfolding fault_of_sheet_d
    step-sheet-d sets e f h ef = sheet_is (SheetD sets) e refl f ef h

    pub step-sheet-e : (fs sets : ℕ) → p.due ≡ SheetE fs sets → q ≡ over_e r p next → q ≡ stepped p r
    unfolding fault_of_sheet_e
    step-sheet-e fs sets e h = sheet_is (SheetE fs sets) e refl (fault_of_sheet_e p.unit p.wholes (fractions_of r) r) refl h

    pub step-sheet-f : (fs sets : ℕ) → p.due ≡ SheetF fs sets → (f : ℕ) → q ≡ put p f next → f ≡ fault_in sheet_f r → q ≡ stepped p r
    step-sheet-f fs sets e f h ef = sheet_is (SheetF fs sets) e refl f (columns_first sheet_f r wide f ef) h

    -- of an index
    pub step-index-a : p.due ≡ IndexA → (f : ℕ) → q ≡ put p f next → f ≡ fault_of_index_a r → q ≡ stepped p r
    unfolding fault_of_index_a
    step-index-a e f h ef = step_is IndexA e f ef h

    pub step-index-b : (bs cs : ℕ) → p.due ≡ IndexB bs cs → q ≡ put p 0 next → q ≡ stepped p r
    step-index-b bs cs e h = step_is (IndexB bs cs) e 0 (sym (index_b_unjudged r)) h

    pub step-index-c : (cs : ℕ) → p.due ≡ IndexC cs → (f : ℕ) → q ≡ put p f next → f ≡ fault_in index_c r → q ≡ stepped p r
    step-index-c cs e f h ef = step_is (IndexC cs) e f (columns_first index_c r wide f ef) h

    pub step-over : p.due ≡ Over → q ≡ put p 0 next → q ≡ stepped p r
    step-over e h = step_is Over e 0 refl h

    -- nothing is judged
    pub step-unjudged : ((sets : ℕ) × (p.due ≡ SheetC sets)) ⊎ (((bs : ℕ) × (cs : ℕ) × (p.due ≡ IndexB bs cs)) ⊎ (p.due ≡ Over)) → q ≡ put p 0 next → q ≡ stepped p r
    step-unjudged (inl e) h = step-sheet-c e.0 e.1 h
    step-unjudged (inr (inl e)) h = step-index-b e.0 e.1 e.2 h
    step-unjudged (inr (inr e)) h = step-over e h
