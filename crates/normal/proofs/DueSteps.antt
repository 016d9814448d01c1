-- Which record is due, in the code's own words. Assumes nothing.
use mathlib.Core.Path.{◌≡◌, ap}
use mathlib.Core.Bool.{Bool, cond}
use Rattle.part_and_index.specs.declared.due.Due.{Due}
use Rattle.part_and_index.specs.declared.due.Due.TheVariants.{Over}
use Rattle.part_and_index.proofs.WalkLaws.{due_still}
use Rattle.normal.specs.declared.due.FileDue.TheVariants.{Sheet, Entry}
use Rattle.normal.specs.Due.{behind_part}

-- ---- `behind_part`

pub part_goes_on : (due : Due) → (due ≡ Over → ⊥) → Sheet due ≡ behind_part due
part_goes_on due h = ap (λ (t : Bool). cond t Entry (Sheet due)) (due_still due h)
