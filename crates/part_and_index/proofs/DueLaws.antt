-- Which record is due behind another, in the code's own words; and that what is due follows format's phases and stages. Assumes nothing.
use mathlib.Core.Path.{◌≡◌, refl, sym, ◌∙◌}
use mathlib.Core.List.{List, []}
use Prim.Native.Nat.{ℕ, zero, suc}
use native.Mathlib.Omega.{arith}
use borrow.Author.Tests.{eq-eqb, ne_eqb}
use lib.IntN.{ℤ}
use lib.ListN.{length}
use Rattle.format.specs.Layout.{find, number_at, index_a, sheet_a, sheet_d}
use Rattle.format.specs.Sheet as Sheet
use Rattle.format.specs.Index as Index
use Rattle.columns.specs.InRecord.{number_in}
use Rattle.part_and_index.specs.declared.due.Due.{Due}
use Rattle.part_and_index.specs.declared.due.Due.TheVariants.{SheetA, SheetB, SheetC, SheetD, SheetE, SheetF, IndexA, IndexB, IndexC, Over}
use Rattle.part_and_index.specs.Due.{due_in, due_at, next_of_whole, next_due}
use Rattle.part_and_index.proofs.FaultLaws.{number-there}

-- ---- `next_of_whole`
module _ (due : Due) (r : List ℕ) (wide : length r ≡ 84) where
  pub behind-a : (sets : ℕ) → due ≡ SheetA → sets ≡ number_in r 65 2 → SheetB sets ≡ next_of_whole due r
  unfolding number_at find sheet_a
  behind-a sets h e = rw (h, e, number-there r 65 2 wide (omega arith) (omega arith))

  pub behind-d : (fs sets : ℕ) → due ≡ SheetD sets → fs ≡ number_in r 9 1 → SheetE fs sets ≡ next_of_whole due r
  unfolding number_at find sheet_d
  behind-d fs sets h e = rw (h, e, number-there r 9 1 wide (omega arith) (omega arith))

  pub behind-index-a : (bs cs : ℕ) (d : Due) → due ≡ IndexA → bs ≡ number_in r 37 2 → cs ≡ number_in r 39 4 → d ≡ due_at (Index.due_bs bs cs) → d ≡ next_of_whole due r
  unfolding number_at find index_a
  behind-index-a bs cs d h e f k = k ∙ rw (h, e, f, number-there r 37 2 wide (omega arith) (omega arith), number-there r 39 4 wide (omega arith) (omega arith))

module _ (due : Due) (r : List ℕ) where
  pub behind-b : (sets : ℕ) → due ≡ SheetB sets → SheetC sets ≡ next_of_whole due r
  behind-b sets h = rw h

  pub behind-c : (sets : ℕ) → due ≡ SheetC sets → SheetD sets ≡ next_of_whole due r
  behind-c sets h = rw h

  pub behind-over : due ≡ Over → Over ≡ next_of_whole due r
  behind-over h = rw h

  module _ (d : Due) where
    pub behind-e : (fs sets : ℕ) → due ≡ SheetE fs sets → d ≡ due_in (Sheet.due_fs 0 [] sets fs) → d ≡ next_of_whole due r
    behind-e fs sets h k = k ∙ rw h

    pub behind-f : (fs sets : ℕ) → due ≡ SheetF fs sets → d ≡ due_in (Sheet.due_fs 0 [] sets fs) → d ≡ next_of_whole due r
    behind-f fs sets h k = k ∙ rw h

    pub behind-index-b : (bs cs : ℕ) → due ≡ IndexB bs cs → d ≡ due_at (Index.due_bs bs cs) → d ≡ next_of_whole due r
    behind-index-b bs cs h k = k ∙ rw h

    pub behind-index-c : (cs : ℕ) → due ≡ IndexC cs → d ≡ due_at (Index.due_cs cs) → d ≡ next_of_whole due r
    behind-index-c cs h k = k ∙ rw h

-- ---- `next_due`
module _ (due : Due) (r : List ℕ) where
  pub after_record : (d : Due) → length r ≡ 84 → d ≡ next_of_whole due r → d ≡ next_due due r
  unfolding next_due
  after_record d h e = e ∙ rw (eq-eqb (length r) 84 h)

  pub no_record : (length r ≡ 84 → ⊥) → due ≡ next_due due r
  unfolding next_due
  no_record h = rw (ne_eqb (length r) 84 h)

-- ---- THE ORDER is format's: behind a record that is due in a phase, or in a stage, what is due in the one behind it
set_due : (unit : ℕ) (wholes : List ℤ) (more : ℕ) → due_in (Sheet.after_set 0 [] more) ≡ due_in (Sheet.after_set unit wholes more)
set_due unit wholes zero = refl
set_due unit wholes (suc more) = refl

f_due : (unit : ℕ) (wholes : List ℤ) (more fs : ℕ) → due_in (Sheet.due_fs 0 [] more fs) ≡ due_in (Sheet.due_fs unit wholes more fs)
f_due unit wholes more zero = set_due unit wholes more
f_due unit wholes more (suc fs) = refl

pub due_phase : (p : Sheet.Phase) (r : List ℕ) → next_of_whole (due_in p) r ≡ due_in (Sheet.after p r)
due_phase Sheet.due_a r = refl
due_phase (Sheet.due_b level more) r = refl
due_phase (Sheet.due_c unit wholes more) r = refl
due_phase (Sheet.due_d unit wholes more) r = refl
due_phase (Sheet.due_e unit wholes more fs) r = f_due unit wholes more fs
due_phase (Sheet.due_f unit wholes more fs) r = f_due unit wholes more fs
due_phase Sheet.body r = refl

pub due_stage : (p : Index.Stage) (r : List ℕ) → next_of_whole (due_at p) r ≡ due_at (Index.after p r)
due_stage Index.due_a r = refl
due_stage (Index.due_b bs cs) r = refl
due_stage (Index.due_c cs) r = refl
due_stage Index.over r = refl

-- so of `next_due`, where the record is whole
module _ (r : List ℕ) (wide : length r ≡ 84) where
  pub phase_after : (p : Sheet.Phase) → next_due (due_in p) r ≡ due_in (Sheet.after p r)
  phase_after p = sym (after_record (due_in p) r _ wide refl) ∙ due_phase p r

  pub stage_after : (p : Index.Stage) → next_due (due_at p) r ≡ due_at (Index.after p r)
  stage_after p = sym (after_record (due_at p) r _ wide refl) ∙ due_stage p r
