-- Judging a sheet part or an index a record at a time: where a progress stands among format's phases and stages, and one record more. Assumes nothing.
use Rattle.std.specs.Prelude.{cond, List, [], ◌∷◌, ℕ, eqb, ℤ, pos, length, replicate}
use Rattle.format.specs.Basics.{Answer, given, refused, first}
use Rattle.format.specs.Corner.{join}
use Rattle.format.specs.Layout.{number_at, sheet_a, sheet_b}
use Rattle.format.specs.Sheet as Sheet
use Rattle.format.specs.Index as Index
use Rattle.part_and_index.specs.declared.due.Due.{Due}
use Rattle.part_and_index.specs.declared.due.Due.TheVariants.{SheetA, SheetB, SheetC, SheetD, SheetE, SheetF, IndexA, IndexB, IndexC, Over}
use Rattle.format.specs.Reasons.{fault_number}
use Rattle.part_and_index.specs.declared.progress.Progress as Declared
use Rattle.part_and_index.specs.declared.progress.Stepped.{Stepped}
use Rattle.part_and_index.specs.Due.{next_of_whole}

-- how far judging has come: the fault of the record that was judged last, 0 for none; the record that is due; and what the records before it said
pub record Progress : Type 0 where
  pub fault : ℕ
  pub due : Due
  pub level : ℕ
  pub unit : ℕ
  pub wholes : List ℤ
  pub stated_elements : ℕ
  pub stated_records : ℕ
  pub corners : List ℤ

-- what the code keeps between two records, where the last had no fault
abbrev pub progress_said : Declared.Progress → Progress
progress_said p = record { fault = 0; due = p.due; level = p.level; unit = p.unit; wholes = p.wholes; stated_elements = p.stated_elements; stated_records = p.stated_records; corners = p.corners }

-- what the code answers of one record more
abbrev pub stepped_said : Stepped → Progress
stepped_said s = record { fault = fault_number s.verdict; due = s.progress.due; level = s.progress.level; unit = s.progress.unit; wholes = s.progress.wholes; stated_elements = s.progress.stated_elements; stated_records = s.progress.stated_records; corners = s.progress.corners }

-- ---- where a progress stands
-- the phase of a sheet part, which is over where no record of one is due
abbrev pub phase_by : Due → (level unit : ℕ) → (wholes : List ℤ) → Sheet.Phase
phase_by SheetA level unit wholes = Sheet.due_a
phase_by (SheetB sets) level unit wholes = Sheet.due_b level sets
phase_by (SheetC sets) level unit wholes = Sheet.due_c unit wholes sets
phase_by (SheetD sets) level unit wholes = Sheet.due_d unit wholes sets
phase_by (SheetE fs sets) level unit wholes = Sheet.due_e unit wholes sets fs
phase_by (SheetF fs sets) level unit wholes = Sheet.due_f unit wholes sets fs
phase_by IndexA level unit wholes = Sheet.body
phase_by (IndexB bs cs) level unit wholes = Sheet.body
phase_by (IndexC cs) level unit wholes = Sheet.body
phase_by Over level unit wholes = Sheet.body

unfoldable pub phase_of : Progress → Sheet.Phase
phase_of p = phase_by p.due p.level p.unit p.wholes

-- the stage of an index, which is over where no record of one is due
abbrev pub stage_by : Due → Index.Stage
stage_by SheetA = Index.over
stage_by (SheetB sets) = Index.over
stage_by (SheetC sets) = Index.over
stage_by (SheetD sets) = Index.over
stage_by (SheetE fs sets) = Index.over
stage_by (SheetF fs sets) = Index.over
stage_by IndexA = Index.due_a
stage_by (IndexB bs cs) = Index.due_b bs cs
stage_by (IndexC cs) = Index.due_c cs
stage_by Over = Index.over

unfoldable pub stage_of : Progress → Index.Stage
stage_of p = stage_by p.due

-- ---- one record more
-- its first fault: at most one of the two is due, and what is over has no fault
unfoldable pub fault_of : Progress → List ℕ → ℕ
fault_of p r = first (Sheet.wrong_in (phase_of p) r) (Index.wrong_in (stage_of p) r)

-- before the first record
abbrev pub started : Due → Progress
started d = record { fault = 0; due = d; level = 0; unit = 0; wholes = replicate 8 (pos 0); stated_elements = 0; stated_records = 0; corners = replicate 8 (pos 0) }

-- another fault, and another record due
abbrev pub put : Progress → (fault : ℕ) → Due → Progress
put p n d = record { fault = n; due = d; level = p.level; unit = p.unit; wholes = p.wholes; stated_elements = p.stated_elements; stated_records = p.stated_records; corners = p.corners }

-- a corner in millimetres, as joining answers it; 0 where it refuses, which a record without fault never has (proofs/Parts: corners-from)
abbrev pub joined : Answer ℤ → ℤ
joined (given z) = z
joined (refused number at) = pos 0

unfoldable pub corner_of : (unit : ℕ) → (whole fraction : ℤ) → ℤ
corner_of unit whole fraction = joined (join unit whole fraction)

abbrev pub corners_of : (unit : ℕ) → (wholes fractions : List ℤ) → List ℤ
corners_of unit [] fs = []
corners_of unit (w ∷ ws) [] = []
corners_of unit (w ∷ ws) (f ∷ fs) = corner_of unit w f ∷ corners_of unit ws fs

-- what records a, b and e say
abbrev pub said_a : List ℕ → Progress → Progress
said_a r p = record { fault = p.fault; due = p.due; level = number_at sheet_a "level" r; unit = p.unit; wholes = p.wholes; stated_elements = p.stated_elements; stated_records = p.stated_records; corners = p.corners }

abbrev pub said_b : List ℕ → Progress → Progress
said_b r p = record { fault = p.fault; due = p.due; level = p.level; unit = number_at sheet_b "unit" r; wholes = Sheet.wholes_of r; stated_elements = Sheet.stated_elements r; stated_records = Sheet.stated_records r; corners = p.corners }

abbrev pub said_e : List ℕ → Progress → Progress
said_e r p = record { fault = p.fault; due = p.due; level = p.level; unit = p.unit; wholes = p.wholes; stated_elements = p.stated_elements; stated_records = p.stated_records; corners = corners_of p.unit p.wholes (Sheet.fractions_of r) }

abbrev pub said : Due → List ℕ → Progress → Progress
said SheetA r p = said_a r p
said (SheetB sets) r p = said_b r p
said (SheetC sets) r p = p
said (SheetD sets) r p = p
said (SheetE fs sets) r p = said_e r p
said (SheetF fs sets) r p = p
said IndexA r p = p
said (IndexB bs cs) r p = p
said (IndexC cs) r p = p
said Over r p = p

-- "records of 84 bytes": bytes that are no whole record are 1, and all else stays
unfoldable pub stepped : Progress → List ℕ → Progress
stepped p r = cond (eqb (length r) 84) (said p.due r (put p (fault_of p r) (next_of_whole p.due r))) (put p 1 p.due)
