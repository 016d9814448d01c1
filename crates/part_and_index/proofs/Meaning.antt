-- What a step means: it follows format's phases of a sheet part, and the stages of an index, and the walk comes to what format's machines say of the
-- records. Assumes nothing.
use mathlib.Core.Path.{◌≡◌, refl, ap, ◌∙◌}
use mathlib.Core.Bool.{Bool, true, false, cond}
use mathlib.Core.List.{List, [], ◌∷◌}
use Prim.Native.Nat.{ℕ, zero, suc, ◌+◌}
use native.Mathlib.Nat.{add-zero}
use native.Mathlib.Omega.{arith}
use borrow.Author.Tests.{eq-eqb}
use lib.Dec.{eqb, eqb-suc-zero}
use lib.IntN.{ℤ}
use lib.ListN.{length}
use Rattle.format.specs.Basics.{Fault, none, fault, or_else, to_fault}
use Rattle.format.specs.Layout.{number_at, index_a}
use Rattle.format.specs.Part.{Machine, part_from, part_fault}
use Rattle.format.specs.Sheet as Sheet
use Rattle.format.specs.Index as Index
use Rattle.format.proofs.Basics.{first_alone}
use Rattle.format.proofs.Lists.{Wide}
use Rattle.part_and_index.specs.declared.due.Due.{Due}
use Rattle.part_and_index.specs.declared.due.Due.TheVariants.{SheetA, SheetB, SheetC, SheetD, SheetE, SheetF, IndexA, IndexB, IndexC, Over}
use Rattle.part_and_index.specs.Progress.{Progress}
use Rattle.part_and_index.specs.Result.{SheetPart}
use Rattle.part_and_index.specs.Due.{due_in, due_at, next_of_whole, is_over}
use Rattle.part_and_index.specs.Result.{refused_part}
use Rattle.part_and_index.specs.Progress.{phase_by, phase_of, stage_by, stage_of, fault_of, put, said, stepped}
use Rattle.part_and_index.specs.Steps.{passed_part, walked_from}

-- ---- a progress over a sheet part, and one over an index
abbrev pub OfSheet : Due → Type 0
OfSheet SheetA = Unit {0}
OfSheet (SheetB sets) = Unit {0}
OfSheet (SheetC sets) = Unit {0}
OfSheet (SheetD sets) = Unit {0}
OfSheet (SheetE fs sets) = Unit {0}
OfSheet (SheetF fs sets) = Unit {0}
OfSheet IndexA = ⊥
OfSheet (IndexB bs cs) = ⊥
OfSheet (IndexC cs) = ⊥
OfSheet Over = Unit {0}

abbrev pub OfIndex : Due → Type 0
OfIndex SheetA = ⊥
OfIndex (SheetB sets) = ⊥
OfIndex (SheetC sets) = ⊥
OfIndex (SheetD sets) = ⊥
OfIndex (SheetE fs sets) = ⊥
OfIndex (SheetF fs sets) = ⊥
OfIndex IndexA = Unit {0}
OfIndex (IndexB bs cs) = Unit {0}
OfIndex (IndexC cs) = Unit {0}
OfIndex Over = Unit {0}

-- ---- a whole record: what the step puts together
module _ (p : Progress) (r : List ℕ) (wide : length r ≡ 84) where
  pub step_taken : stepped p r ≡ said p.due r (put p (fault_of p r) (next_of_whole p.due r))
  unfolding stepped
  step_taken = rw (eq-eqb (length r) 84 wide)

module _ (r : List ℕ) (q : Progress) where
  said-fault : (d : Due) → (said d r q).fault ≡ q.fault
  said-fault SheetA = refl
  said-fault (SheetB sets) = refl
  said-fault (SheetC sets) = refl
  said-fault (SheetD sets) = refl
  said-fault (SheetE fs sets) = refl
  said-fault (SheetF fs sets) = refl
  said-fault IndexA = refl
  said-fault (IndexB bs cs) = refl
  said-fault (IndexC cs) = refl
  said-fault Over = refl

  said_due : (d : Due) → (said d r q).due ≡ q.due
  said_due SheetA = refl
  said_due (SheetB sets) = refl
  said_due (SheetC sets) = refl
  said_due (SheetD sets) = refl
  said_due (SheetE fs sets) = refl
  said_due (SheetF fs sets) = refl
  said_due IndexA = refl
  said_due (IndexB bs cs) = refl
  said_due (IndexC cs) = refl
  said_due Over = refl

module _ (p : Progress) (r : List ℕ) (wide : length r ≡ 84) where
  pub fault-stepped : (stepped p r).fault ≡ fault_of p r
  fault-stepped = ap (λ (q : Progress). q.fault) (step_taken p r wide) ∙ said-fault r _ p.due

  pub due_stepped : (stepped p r).due ≡ next_of_whole p.due r
  due_stepped = ap (λ (q : Progress). q.due) (step_taken p r wide) ∙ said_due r _ p.due

-- ---- THE SHEET PART: a step is format's
sheet-over : (d : Due) (level unit : ℕ) (wholes : List ℤ) → OfSheet d → is_over d ≡ Sheet.is_over (phase_by d level unit wholes)
sheet-over SheetA level unit wholes o = refl
sheet-over (SheetB sets) level unit wholes o = refl
sheet-over (SheetC sets) level unit wholes o = refl
sheet-over (SheetD sets) level unit wholes o = refl
sheet-over (SheetE fs sets) level unit wholes o = refl
sheet-over (SheetF fs sets) level unit wholes o = refl
sheet-over IndexA level unit wholes o = absurd o
sheet-over (IndexB bs cs) level unit wholes o = absurd o
sheet-over (IndexC cs) level unit wholes o = absurd o
sheet-over Over level unit wholes o = refl

no_stage : (d : Due) → OfSheet d → stage_by d ≡ Index.over
no_stage SheetA o = refl
no_stage (SheetB sets) o = refl
no_stage (SheetC sets) o = refl
no_stage (SheetD sets) o = refl
no_stage (SheetE fs sets) o = refl
no_stage (SheetF fs sets) o = refl
no_stage IndexA o = absurd o
no_stage (IndexB bs cs) o = absurd o
no_stage (IndexC cs) o = absurd o
no_stage Over o = refl

f_phase : (level unit : ℕ) (wholes : List ℤ) (sets fs : ℕ) → phase_by (due_in (Sheet.due_fs 0 [] sets fs)) level unit wholes ≡ Sheet.due_fs unit wholes sets fs
f_phase level unit wholes zero zero = refl
f_phase level unit wholes (suc sets) zero = refl
f_phase level unit wholes sets (suc fs) = refl

f_of : (sets fs : ℕ) → OfSheet (due_in (Sheet.due_fs 0 [] sets fs))
f_of zero zero = tt
f_of (suc sets) zero = tt
f_of sets (suc fs) = tt

phase_said : (d : Due) (p : Progress) (n : ℕ) (r : List ℕ) → OfSheet d → phase_of (said d r (put p n (next_of_whole d r))) ≡ Sheet.after (phase_by d p.level p.unit p.wholes) r
unfolding phase_of
phase_said SheetA p n r o = refl
phase_said (SheetB sets) p n r o = refl
phase_said (SheetC sets) p n r o = refl
phase_said (SheetD sets) p n r o = refl
phase_said (SheetE fs sets) p n r o = f_phase p.level p.unit p.wholes sets fs
phase_said (SheetF fs sets) p n r o = f_phase p.level p.unit p.wholes sets fs
phase_said IndexA p n r o = absurd o
phase_said (IndexB bs cs) p n r o = absurd o
phase_said (IndexC cs) p n r o = absurd o
phase_said Over p n r o = refl

sheet_due : (d : Due) (r : List ℕ) → OfSheet d → OfSheet (next_of_whole d r)
sheet_due SheetA r o = tt
sheet_due (SheetB sets) r o = tt
sheet_due (SheetC sets) r o = tt
sheet_due (SheetD sets) r o = tt
sheet_due (SheetE fs sets) r o = f_of sets fs
sheet_due (SheetF fs sets) r o = f_of sets fs
sheet_due IndexA r o = absurd o
sheet_due (IndexB bs cs) r o = absurd o
sheet_due (IndexC cs) r o = absurd o
sheet_due Over r o = tt

module _ (p : Progress) (of : OfSheet p.due) where
  pub over_phase : is_over p.due ≡ Sheet.is_over (phase_of p)
  unfolding phase_of
  over_phase = sheet-over p.due p.level p.unit p.wholes of

  module _ (r : List ℕ) (wide : length r ≡ 84) where
    pub fault_phase : (stepped p r).fault ≡ Sheet.wrong_in (phase_of p) r
    unfolding fault_of stage_of
    fault_phase = fault-stepped p r wide ∙ rw (no_stage p.due of) (first_alone (Sheet.wrong_in (phase_of p) r))

    pub after_phase : phase_of (stepped p r) ≡ Sheet.after (phase_of p) r
    unfolding phase_of
    after_phase = ap phase_of (step_taken p r wide) ∙ phase_said p.due p (fault_of p r) r of

    pub still_sheet : OfSheet (stepped p r).due
    still_sheet = rw (due_stepped p r wide) (sheet_due p.due r of)

-- ---- THE INDEX: a step is format's
index-over : (d : Due) → OfIndex d → is_over d ≡ Index.is_over (stage_by d)
index-over SheetA o = absurd o
index-over (SheetB sets) o = absurd o
index-over (SheetC sets) o = absurd o
index-over (SheetD sets) o = absurd o
index-over (SheetE fs sets) o = absurd o
index-over (SheetF fs sets) o = absurd o
index-over IndexA o = refl
index-over (IndexB bs cs) o = refl
index-over (IndexC cs) o = refl
index-over Over o = refl

no_phase : (d : Due) (level unit : ℕ) (wholes : List ℤ) → OfIndex d → phase_by d level unit wholes ≡ Sheet.body
no_phase SheetA level unit wholes o = absurd o
no_phase (SheetB sets) level unit wholes o = absurd o
no_phase (SheetC sets) level unit wholes o = absurd o
no_phase (SheetD sets) level unit wholes o = absurd o
no_phase (SheetE fs sets) level unit wholes o = absurd o
no_phase (SheetF fs sets) level unit wholes o = absurd o
no_phase IndexA level unit wholes o = refl
no_phase (IndexB bs cs) level unit wholes o = refl
no_phase (IndexC cs) level unit wholes o = refl
no_phase Over level unit wholes o = refl

c_stage : (cs : ℕ) → stage_by (due_at (Index.due_cs cs)) ≡ Index.due_cs cs
c_stage zero = refl
c_stage (suc cs) = refl

b_stage : (bs cs : ℕ) → stage_by (due_at (Index.due_bs bs cs)) ≡ Index.due_bs bs cs
b_stage zero cs = c_stage cs
b_stage (suc bs) cs = refl

stage_behind : (d : Due) (r : List ℕ) → OfIndex d → stage_by (next_of_whole d r) ≡ Index.after (stage_by d) r
stage_behind SheetA r o = absurd o
stage_behind (SheetB sets) r o = absurd o
stage_behind (SheetC sets) r o = absurd o
stage_behind (SheetD sets) r o = absurd o
stage_behind (SheetE fs sets) r o = absurd o
stage_behind (SheetF fs sets) r o = absurd o
stage_behind IndexA r o = b_stage (number_at index_a "b records" r) (number_at index_a "c records" r)
stage_behind (IndexB bs cs) r o = b_stage bs cs
stage_behind (IndexC cs) r o = c_stage cs
stage_behind Over r o = refl

c_of : (cs : ℕ) → OfIndex (due_at (Index.due_cs cs))
c_of zero = tt
c_of (suc cs) = tt

b_of : (bs cs : ℕ) → OfIndex (due_at (Index.due_bs bs cs))
b_of zero cs = c_of cs
b_of (suc bs) cs = tt

index_due : (d : Due) (r : List ℕ) → OfIndex d → OfIndex (next_of_whole d r)
index_due SheetA r o = absurd o
index_due (SheetB sets) r o = absurd o
index_due (SheetC sets) r o = absurd o
index_due (SheetD sets) r o = absurd o
index_due (SheetE fs sets) r o = absurd o
index_due (SheetF fs sets) r o = absurd o
index_due IndexA r o = b_of (number_at index_a "b records" r) (number_at index_a "c records" r)
index_due (IndexB bs cs) r o = b_of bs cs
index_due (IndexC cs) r o = c_of cs
index_due Over r o = tt

module _ (p : Progress) (of : OfIndex p.due) where
  pub over_stage : is_over p.due ≡ Index.is_over (stage_of p)
  unfolding stage_of
  over_stage = index-over p.due of

  module _ (r : List ℕ) (wide : length r ≡ 84) where
    pub fault_stage : (stepped p r).fault ≡ Index.wrong_in (stage_of p) r
    unfolding fault_of phase_of
    fault_stage = fault-stepped p r wide ∙ rw (no_phase p.due p.level p.unit p.wholes of)

    pub after_stage : stage_of (stepped p r) ≡ Index.after (stage_of p) r
    unfolding stage_of
    after_stage = ap stage_by (due_stepped p r wide) ∙ stage_behind p.due r of

    pub still_index : OfIndex (stepped p r).due
    still_index = rw (due_stepped p r wide) (index_due p.due r of)

-- ---- THE WALK by a machine that the steps follow
-- the progress behind the part
abbrev pub progress_from : Progress → List (List ℕ) → Progress
progress_from p [] = p
progress_from p (r ∷ rs) = cond (is_over p.due) p (progress_from (stepped p r) rs)

abbrev pub part_by : Fault → ℕ → Progress → SheetPart
part_by none n q = passed_part q n
part_by (fault number at) n q = refused_part number at

module _ (M : Machine) (Of : Due → Type 0) (at : Progress → M.Phase) (over : (p : Progress) → Of p.due → is_over p.due ≡ M.over (at p)) (wrong : (p : Progress) → Of p.due → (r : List ℕ) → length r ≡ 84 → (stepped p r).fault ≡ M.wrong (at p) r) (then : (p : Progress) → Of p.due → (r : List ℕ) → length r ≡ 84 → at (stepped p r) ≡ M.step (at p) r) (still : (p : Progress) → Of p.due → (r : List ℕ) → length r ≡ 84 → Of (stepped p r).due) where
  walked : (rs : List (List ℕ)) (p : Progress) (k : ℕ) → Wide rs → Of p.due → walked_from p k rs ≡ part_by (part_fault M (at p) (suc k) rs) (k + part_from M (at p) rs) (progress_from p rs)
  unfolding Wide
  walked [] p k w of = rw (← over p of) (go (is_over p.due))
    where
      go : (t : Bool) → cond t (passed_part p k) (refused_part 3 1) ≡ part_by (cond t none (fault 3 1)) (k + 0) p
      go true = rw (add-zero k)
      go false = refl
  walked (r ∷ rs) p k w of = rw (← over p of, ← wrong p of r w.0, ← then p of r w.0) (go (is_over p.due) (stepped p r).fault (walked rs (stepped p r) (suc k) w.1 (still p of r w.0)))
    where
      rest : ℕ
      rest = part_from M (at (stepped p r)) rs

      more : k + suc rest ≡ suc k + rest
      more = omega arith

      go : (t : Bool) (n : ℕ) → walked_from (stepped p r) (suc k) rs ≡ part_by (part_fault M (at (stepped p r)) (suc (suc k)) rs) (suc k + rest) (progress_from (stepped p r) rs) → cond t (passed_part p k) (cond (eqb n 0) (walked_from (stepped p r) (suc k) rs) (refused_part n (suc k))) ≡ part_by (cond t none (or_else (to_fault n (suc k)) (part_fault M (at (stepped p r)) (suc (suc k)) rs))) (k + cond t 0 (suc rest)) (cond t p (progress_from (stepped p r) rs))
      go true n ih = rw (add-zero k)
      go false zero ih = ih ∙ rw more
      go false (suc n) ih = rw (eqb-suc-zero n)

pub walked_sheet : (rs : List (List ℕ)) (p : Progress) (k : ℕ) → Wide rs → OfSheet p.due → walked_from p k rs ≡ part_by (part_fault Sheet.sheet_machine (phase_of p) (suc k) rs) (k + part_from Sheet.sheet_machine (phase_of p) rs) (progress_from p rs)
walked_sheet = walked Sheet.sheet_machine OfSheet phase_of over_phase fault_phase after_phase still_sheet

pub walked_index : (rs : List (List ℕ)) (p : Progress) (k : ℕ) → Wide rs → OfIndex p.due → walked_from p k rs ≡ part_by (part_fault Index.index_machine (stage_of p) (suc k) rs) (k + part_from Index.index_machine (stage_of p) rs) (progress_from p rs)
walked_index = walked Index.index_machine OfIndex stage_of over_stage fault_stage after_stage still_index
