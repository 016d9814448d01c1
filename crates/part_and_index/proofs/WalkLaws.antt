-- The walk over the due records of a file, each way out of it as the code has it. Assumes nothing.
use mathlib.Core.Path.{◌≡◌, refl}
use mathlib.Core.Bool.{false}
use mathlib.Core.List.{List, [], ◌∷◌}
use Prim.Native.Nat.{ℕ}
use lib.ListN.{drop}
use Rattle.part_and_index.specs.declared.due.Due.{Due}
use Rattle.part_and_index.specs.declared.due.Due.TheVariants.{SheetA, SheetB, SheetC, SheetD, SheetE, SheetF, IndexA, IndexB, IndexC, Over}
use Rattle.part_and_index.specs.Due.{is_over}
use Rattle.part_and_index.specs.Progress.{Progress}
use Rattle.part_and_index.specs.Result.{SheetPart}
use Rattle.part_and_index.specs.Steps.{passed_part, walked_from}

-- ---- the rest of the records, judged from here, comes to what all of them come to
module _ (rs : List (List ℕ)) (p : Progress) (k : ℕ) (whole : SheetPart) (left : walked_from p k (drop k rs) ≡ whole) where
  pub walk-over : p.due ≡ Over → passed_part p k ≡ whole
  walk-over o = go (drop k rs) left
    where
      go : (l : List (List ℕ)) → walked_from p k l ≡ whole → passed_part p k ≡ whole
      go [] h = rw o at h
      go (r ∷ l) h = rw o at h

-- ---- `is_over`
pub due_still : (due : Due) → (due ≡ Over → ⊥) → false ≡ is_over due
due_still SheetA h = refl
due_still (SheetB sets) h = refl
due_still (SheetC sets) h = refl
due_still (SheetD sets) h = refl
due_still (SheetE fs sets) h = refl
due_still (SheetF fs sets) h = refl
due_still IndexA h = refl
due_still (IndexB bs cs) h = refl
due_still (IndexC cs) h = refl
due_still Over h = absurd (h refl)
