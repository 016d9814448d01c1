-- What the two calls answer: the sheet part with what record 2 states and the corners of the last e record, and the first fault of an index. Assumes nothing.
use Rattle.format.proofs.Reasons.{not_zero}
use mathlib.Core.Path.{◌≡◌, refl, ap, sym, ◌∙◌}
use mathlib.Core.Bool.{Bool, true, false, cond, ◌||◌, false≢true}
use mathlib.Core.List.{List, [], ◌∷◌}
use Prim.Native.Nat.{ℕ, zero, suc, ◌+◌, ◌≤◌}
use native.Mathlib.Omega.{arith}
use borrow.Author.Tests.{eqb-true, eq-eqb, ne_eqb}
use lib.Dec.{eqb}
use lib.IntN.{ℤ, pos}
use lib.ListN.{length, get_or}
use Rattle.format.specs.Basics.{unless, fine, Fault, none, fault, or_else, to_fault}
use Rattle.format.specs.declared.Column.{Column}
use Rattle.format.specs.declared.Column.TheVariants.{Value, MinusZero, Malformed}
use Rattle.format.specs.Column.{column_of, integer, digits_in, digits, text_of, fits}
use Rattle.format.specs.Corner.{is_unit, fraction_ok, millimetres, join}
use Rattle.format.specs.Layout.{find, column, integer_at, number_at, column_fault, sheet_a, sheet_b, sheet_e}
use Rattle.format.specs.Part.{Machine, part_from, part_fault}
use Rattle.format.specs.Sheet as Sheet
use Rattle.format.specs.Sheet.{wholes_of, fractions_of, fractions_ok, unit_of, join_all, corners_from, stated_elements, stated_records, sheet_fault, part_length}
use Rattle.format.specs.Index as Index
use Rattle.format.proofs.Basics.{and-true, first_zero, unless_zero}
use Rattle.format.proofs.Columns.{length-column}
use Rattle.format.proofs.Lists.{Wide}
use Rattle.format.proofs.NormalReads.{read_fits}
use Rattle.format.proofs.SheetPhases.{fine_from, fault-fine}
use Rattle.part_and_index.specs.declared.due.Due.{Due}
use Rattle.part_and_index.specs.declared.due.Due.TheVariants.{SheetA, SheetB, SheetC, SheetD, SheetE, SheetF, IndexA, IndexB, IndexC, Over}
use Rattle.part_and_index.specs.Progress.{Progress}
use Rattle.part_and_index.specs.Result.{SheetPart}
use Rattle.part_and_index.specs.Due.{due_in, next_of_whole, is_over}
use Rattle.part_and_index.specs.Result.{refused_part, sound_part, part_answer, sheet_part_of, fault_answer, index_fault_of}
use Rattle.part_and_index.specs.Progress.{phase_by, phase_of, stage_of, fault_of, started, put, corner_of, corners_of, said, stepped}
use Rattle.part_and_index.specs.Steps.{passed_part, walked_from}
use Rattle.format.specs.Reasons.{refusal_number}
use Rattle.format.specs.declared.Reason.{Reason}
use Rattle.part_and_index.proofs.Meaning.{OfSheet, step_taken, due_stepped, over_phase, after_phase, still_sheet, progress_from, part_by, walked_sheet, walked_index}

-- ---- numbers fit the columns that they were read from
fits_zero : (fits 7 (pos 0) ≡ true) × (fits 4 (pos 0) ≡ true)
unfolding fits text_of digits digits_in
fits_zero = (refl, refl)

fits_read : (width : ℕ) → fits width (pos 0) ≡ true → width ≤ 18 → (l : List ℕ) → length l ≡ width → (c : Column) → column_of l ≡ c → fits width (integer c) ≡ true
fits_read width z h l e (Value n) k = rw (← e) (read_fits l n (rw e h) k).1
fits_read width z h l e MinusZero k = z
fits_read width z h l e Malformed k = z

abbrev AllFit : ℕ → List ℤ → Type 0
AllFit width [] = Unit {0}
AllFit width (z ∷ zs) = (fits width z ≡ true) × AllFit width zs

module _ (r : List ℕ) (wide : length r ≡ 84) where
  whole-fits : (start : ℕ) → start + 7 ≤ 84 → fits 7 (integer (column_of (column start 7 r))) ≡ true
  whole-fits start h = fits_read 7 fits_zero.0 (omega arith) (column start 7 r) (length-column start 7 r (omega arith)) _ refl

  fraction-fits : (start : ℕ) → start + 4 ≤ 84 → fits 4 (integer (column_of (column start 4 r))) ≡ true
  fraction-fits start h = fits_read 4 fits_zero.1 (omega arith) (column start 4 r) (length-column start 4 r (omega arith)) _ refl

  wholes_fit : AllFit 7 (wholes_of r)
  unfolding wholes_of integer_at find sheet_b
  wholes_fit = (whole-fits 0 (omega arith), (whole-fits 7 (omega arith), (whole-fits 14 (omega arith), (whole-fits 21 (omega arith), (whole-fits 47 (omega arith), (whole-fits 54 (omega arith), (whole-fits 61 (omega arith), (whole-fits 68 (omega arith), tt))))))))

  fractions_fit : AllFit 4 (fractions_of r)
  unfolding fractions_of integer_at find sheet_e
  fractions_fit = (fraction-fits 40 (omega arith), (fraction-fits 44 (omega arith), (fraction-fits 48 (omega arith), (fraction-fits 52 (omega arith), (fraction-fits 56 (omega arith), (fraction-fits 60 (omega arith), (fraction-fits 64 (omega arith), (fraction-fits 68 (omega arith), tt))))))))

-- ---- so the corners are joined: format's
corner_is : (unit : ℕ) (w f : ℤ) → is_unit unit ≡ true → fits 7 w ≡ true → fits 4 f ≡ true → fraction_ok unit w f ≡ true → corner_of unit w f ≡ millimetres unit w f
unfolding corner_of join
corner_is unit w f u a b c = rw (u, a, b, c)

corners_are_lem : (unit : ℕ) → is_unit unit ≡ true → (ws fs : List ℤ) → AllFit 7 ws → AllFit 4 fs → fractions_ok unit ws fs ≡ true → corners_of unit ws fs ≡ join_all unit ws fs
corners_are_lem unit u [] fs a b c = refl
corners_are_lem unit u (w ∷ ws) [] a b c = refl
corners_are_lem unit u (w ∷ ws) (f ∷ fs) a b c =
    let ok = and-true (fraction_ok unit w f) (fractions_ok unit ws fs) c in
    rw (corner_is unit w f u a.0 b.0 ok.0, corners_are_lem unit u ws fs a.1 b.1 ok.1)

-- ---- unit and wholes behind record b
abbrev Fit : Sheet.Phase → Type 0
Fit Sheet.due_a = Unit {0}
Fit (Sheet.due_b level more) = Unit {0}
Fit (Sheet.due_c unit wholes more) = (is_unit unit ≡ true) × AllFit 7 wholes
Fit (Sheet.due_d unit wholes more) = (is_unit unit ≡ true) × AllFit 7 wholes
Fit (Sheet.due_e unit wholes more fs) = (is_unit unit ≡ true) × AllFit 7 wholes
Fit (Sheet.due_f unit wholes more fs) = (is_unit unit ≡ true) × AllFit 7 wholes
Fit Sheet.body = Unit {0}

unit_is : (level : ℕ) → is_unit (unit_of level) ≡ true
unit_is level = go (eqb level 500 || eqb level 1000) (eqb level 2500 || eqb level 5000)
  where
    go : (s t : Bool) → is_unit (cond s 1 (cond t 10 999)) ≡ true
    go true t = refl
    go false true = refl
    go false false = refl

fit-set : (unit : ℕ) (wholes : List ℤ) → (is_unit unit ≡ true) × AllFit 7 wholes → (more fs : ℕ) → Fit (Sheet.due_fs unit wholes more fs)
fit-set unit wholes f zero zero = tt
fit-set unit wholes f (suc more) zero = f
fit-set unit wholes f more (suc fs) = f

fit-after : (p : Sheet.Phase) (r : List ℕ) → length r ≡ 84 → Sheet.wrong_in p r ≡ 0 → Fit p → Fit (Sheet.after p r)
fit-after Sheet.due_a r w z f = tt
fit-after (Sheet.due_b level more) r w z f =
    let named : number_at sheet_b "unit" r ≡ unit_of level = eqb-true _ _ (unless_zero (eqb (number_at sheet_b "unit" r) (unit_of level)) 5 (first_zero (column_fault sheet_b r) _ z).1) in
    (rw named (unit_is level), wholes_fit r w)
fit-after (Sheet.due_c unit wholes more) r w z f = f
fit-after (Sheet.due_d unit wholes more) r w z f = f
fit-after (Sheet.due_e unit wholes more fs) r w z f = fit-set unit wholes f more fs
fit-after (Sheet.due_f unit wholes more fs) r w z f = fit-set unit wholes f more fs
fit-after Sheet.body r w z f = tt

-- ---- THE CORNERS are those of the last e record. Where no e record is still to come, `latest` are those that the progress has
abbrev Ready : Due → (latest corners : List ℤ) → Type 0
Ready SheetA l c = Unit {0}
Ready (SheetB sets) l c = Unit {0}
Ready (SheetC sets) l c = Unit {0}
Ready (SheetD sets) l c = Unit {0}
Ready (SheetE fs sets) l c = Unit {0}
Ready (SheetF fs sets) l c = l ≡ c
Ready IndexA l c = Unit {0}
Ready (IndexB bs cs) l c = Unit {0}
Ready (IndexC cs) l c = Unit {0}
Ready Over l c = l ≡ c

ready_over : (d : Due) (level unit : ℕ) (wholes l c : List ℤ) → OfSheet d → Sheet.is_over (phase_by d level unit wholes) ≡ true → Ready d l c → (l ≡ c) × (phase_by d level unit wholes ≡ Sheet.body)
ready_over SheetA level unit wholes l c o e h = absurd (false≢true e)
ready_over (SheetB sets) level unit wholes l c o e h = absurd (false≢true e)
ready_over (SheetC sets) level unit wholes l c o e h = absurd (false≢true e)
ready_over (SheetD sets) level unit wholes l c o e h = absurd (false≢true e)
ready_over (SheetE fs sets) level unit wholes l c o e h = absurd (false≢true e)
ready_over (SheetF fs sets) level unit wholes l c o e h = absurd (false≢true e)
ready_over IndexA level unit wholes l c o e h = absurd o
ready_over (IndexB bs cs) level unit wholes l c o e h = absurd o
ready_over (IndexC cs) level unit wholes l c o e h = absurd o
ready_over Over level unit wholes l c o e h = (h, refl)

ready_set : (l c : List ℤ) → l ≡ c → (sets fs : ℕ) → Ready (due_in (Sheet.due_fs 0 [] sets fs)) l c
ready_set l c e zero zero = e
ready_set l c e (suc sets) zero = tt
ready_set l c e sets (suc fs) = e

module _ (p : Progress) (n : ℕ) (r : List ℕ) (l : List ℤ) (wide : length r ≡ 84) where
  ready_said : (d : Due) → OfSheet d → Fit (phase_by d p.level p.unit p.wholes) → Sheet.wrong_in (phase_by d p.level p.unit p.wholes) r ≡ 0 → Ready d l p.corners → Ready (said d r (put p n (next_of_whole d r))).due (Sheet.corners_at (phase_by d p.level p.unit p.wholes) r l) (said d r (put p n (next_of_whole d r))).corners
  ready_said SheetA o f z h = tt
  ready_said (SheetB sets) o f z h = tt
  ready_said (SheetC sets) o f z h = tt
  ready_said (SheetD sets) o f z h = tt
  ready_said (SheetE fs sets) o f z h =
      let ok : fractions_ok p.unit p.wholes (fractions_of r) ≡ true = unless_zero (fractions_ok p.unit p.wholes (fractions_of r)) 8 (first_zero (column_fault sheet_e r) _ z).1 in
      ready_set _ _ (sym (corners_are_lem p.unit f.0 p.wholes (fractions_of r) f.1 (fractions_fit r wide) ok)) sets fs
  ready_said (SheetF fs sets) o f z h = ready_set l p.corners h sets fs
  ready_said IndexA o f z h = absurd o
  ready_said (IndexB bs cs) o f z h = absurd o
  ready_said (IndexC cs) o f z h = absurd o
  ready_said Over o f z h = h

corners_stay : (l : List ℤ) (rs : List (List ℕ)) → corners_from Sheet.body l rs ≡ l
corners_stay l [] = refl
corners_stay l (r ∷ rs) = corners_stay l rs

corners-from : (rs : List (List ℕ)) (p : Progress) (l : List ℤ) → Wide rs → OfSheet p.due → Fit (phase_of p) → Ready p.due l p.corners → fine_from Sheet.sheet_machine (phase_of p) rs ≡ true → corners_from (phase_of p) l rs ≡ (progress_from p rs).corners
unfolding phase_of Wide
corners-from [] p l w of f h ok = (ready_over p.due p.level p.unit p.wholes l p.corners of ok h).0
corners-from (r ∷ rs) p l w of f h ok = go (Sheet.is_over (phase_of p)) refl (corners-from rs (stepped p r) (Sheet.corners_at (phase_of p) r l) w.1 (still_sheet p of r w.0))
  where
    end : Sheet.is_over (phase_of p) ≡ true → (l ≡ p.corners) × (phase_of p ≡ Sheet.body)
    end e = ready_over p.due p.level p.unit p.wholes l p.corners of e h

    next : phase_of (stepped p r) ≡ Sheet.after (phase_of p) r
    next = after_phase p of r w.0

    go : (t : Bool) → Sheet.is_over (phase_of p) ≡ t → (Fit (phase_of (stepped p r)) → Ready (stepped p r).due (Sheet.corners_at (phase_of p) r l) (stepped p r).corners → fine_from Sheet.sheet_machine (phase_of (stepped p r)) rs ≡ true → corners_from (phase_of (stepped p r)) (Sheet.corners_at (phase_of p) r l) rs ≡ (progress_from (stepped p r) rs).corners) → corners_from (phase_of p) l (r ∷ rs) ≡ (progress_from p (r ∷ rs)).corners
    go true e ih = rw ((end e).1, over_phase p of ∙ e) (corners_stay l rs ∙ (end e).0)
    go false e ih =
        let fine-rest = and-true (eqb (Sheet.wrong_in (phase_of p) r) 0) (fine_from Sheet.sheet_machine (Sheet.after (phase_of p) r) rs) (rw e at ok) in
        let none-wrong : Sheet.wrong_in (phase_of p) r ≡ 0 = eqb-true _ _ fine-rest.0 in
        let ready : Ready (stepped p r).due (Sheet.corners_at (phase_of p) r l) (stepped p r).corners = rw (step_taken p r w.0) (ready_said p (fault_of p r) r l w.0 p.due of f none-wrong h) in
        let rest : corners_from (phase_of (stepped p r)) (Sheet.corners_at (phase_of p) r l) rs ≡ (progress_from (stepped p r) rs).corners = ih (rw next (fit-after (phase_of p) r w.0 none-wrong f)) ready (rw next fine-rest.1) in
        rw (over_phase p of ∙ e) (ap (λ (q : Sheet.Phase). corners_from q (Sheet.corners_at (phase_of p) r l) rs) (sym next) ∙ rest)

-- ---- WHAT RECORD 2 STATES is kept behind it
abbrev BehindB : Due → Type 0
BehindB SheetA = ⊥
BehindB (SheetB sets) = ⊥
BehindB (SheetC sets) = Unit {0}
BehindB (SheetD sets) = Unit {0}
BehindB (SheetE fs sets) = Unit {0}
BehindB (SheetF fs sets) = Unit {0}
BehindB IndexA = ⊥
BehindB (IndexB bs cs) = ⊥
BehindB (IndexC cs) = ⊥
BehindB Over = Unit {0}

abbrev Same : Progress → Progress → Type 0
Same p q = (q.stated_elements ≡ p.stated_elements) × (q.stated_records ≡ p.stated_records) × (q.unit ≡ p.unit)

behind-set : (sets fs : ℕ) → BehindB (due_in (Sheet.due_fs 0 [] sets fs))
behind-set zero zero = tt
behind-set (suc sets) zero = tt
behind-set sets (suc fs) = tt

module _ (p : Progress) (n : ℕ) (r : List ℕ) where
  said-behind : (d : Due) → BehindB d → BehindB (said d r (put p n (next_of_whole d r))).due × Same p (said d r (put p n (next_of_whole d r)))
  said-behind SheetA b = absurd b
  said-behind (SheetB sets) b = absurd b
  said-behind (SheetC sets) b = (tt, (refl, refl, refl))
  said-behind (SheetD sets) b = (tt, (refl, refl, refl))
  said-behind (SheetE fs sets) b = (behind-set sets fs, (refl, refl, refl))
  said-behind (SheetF fs sets) b = (behind-set sets fs, (refl, refl, refl))
  said-behind IndexA b = absurd b
  said-behind (IndexB bs cs) b = absurd b
  said-behind (IndexC cs) b = absurd b
  said-behind Over b = (tt, (refl, refl, refl))

kept_b : (rs : List (List ℕ)) (p : Progress) → Wide rs → BehindB p.due → Same p (progress_from p rs)
unfolding Wide
kept_b [] p w b = (refl, refl, refl)
kept_b (r ∷ rs) p w b = go (is_over p.due) (kept_b rs (stepped p r) w.1 one.0)
  where
    one : BehindB (stepped p r).due × Same p (stepped p r)
    one = rw (step_taken p r w.0) (said-behind p (fault_of p r) r p.due b)

    go : (t : Bool) → Same (stepped p r) (progress_from (stepped p r) rs) → Same p (cond t p (progress_from (stepped p r) rs))
    go true rest = (refl, refl, refl)
    go false rest = (rest.0 ∙ one.1.0, rest.1 ∙ one.1.1, rest.2 ∙ one.1.2)

record Stated (q : Progress) (second : List ℕ) : Type 0 where
  elements_stated : q.stated_elements ≡ stated_elements second
  records-stated : q.stated_records ≡ stated_records second
  unit_stated : q.unit ≡ number_at sheet_b "unit" second

module _ (p : Progress) (more : ℕ) (b : List ℕ) (rs : List (List ℕ)) (at_b : p.due ≡ SheetB more) (wide : length b ≡ 84) where
  b_taken : stepped p b ≡ said (SheetB more) b (put p (fault_of p b) (next_of_whole (SheetB more) b))
  b_taken = step_taken p b wide ∙ rw at_b

  goes_on : progress_from p (b ∷ rs) ≡ progress_from (stepped p b) rs
  goes_on = ap (λ (t : Bool). cond t p (progress_from (stepped p b) rs)) (ap is_over at_b)

  b-stated : Wide rs → Stated (progress_from p (b ∷ rs)) b
  b-stated w =
      let kept : Same (stepped p b) (progress_from (stepped p b) rs) = kept_b rs (stepped p b) w (rw b_taken tt) in
      record {
        elements_stated = ap (λ (q : Progress). q.stated_elements) goes_on ∙ kept.0 ∙ ap (λ (q : Progress). q.stated_elements) b_taken;
        records-stated = ap (λ (q : Progress). q.stated_records) goes_on ∙ kept.1 ∙ ap (λ (q : Progress). q.stated_records) b_taken;
        unit_stated = ap (λ (q : Progress). q.unit) goes_on ∙ kept.2 ∙ ap (λ (q : Progress). q.unit) b_taken;
      }

stated : (rs : List (List ℕ)) → Wide rs → fine_from Sheet.sheet_machine Sheet.due_a rs ≡ true → Stated (progress_from (started SheetA) rs) (get_or rs 1 [])
unfolding Wide
stated [] w ok = absurd (false≢true ok)
stated (a ∷ []) w ok = absurd (false≢true (and-true (eqb (Sheet.wrong_in Sheet.due_a a) 0) false ok).1)
stated (a ∷ b ∷ rs) w ok = b-stated (stepped (started SheetA) a) (number_at sheet_a "revisions" a) b rs (due_stepped (started SheetA) a w.0) w.1.0 w.1.1

-- ---- THE SHEET PART
module _ (rs : List (List ℕ)) (wide : Wide rs) where
  abbrev last : Progress
  last = progress_from (started SheetA) rs

  all-corners : fine_from Sheet.sheet_machine Sheet.due_a rs ≡ true → last.corners ≡ Sheet.corners rs
  unfolding phase_of Sheet.corners
  all-corners ok = sym (corners-from rs (started SheetA) [] wide tt tt tt ok)

  sound_is : sheet_fault rs ≡ none → passed_part last (0 + part_length rs) ≡ sound_part (part_length rs) (get_or rs 1 []) (Sheet.corners rs)
  unfolding sheet_fault
  sound_is e =
      let ok : fine_from Sheet.sheet_machine Sheet.due_a rs ≡ true = sym (fault-fine Sheet.sheet_machine Sheet.due_a 1 rs) ∙ ap fine e in
      let s : Stated last (get_or rs 1 []) = stated rs wide ok in
      let n : 0 + part_length rs ≡ part_length rs = omega arith in
      rw (n, s.elements_stated, s.records-stated, s.unit_stated, all-corners ok)

  pub sheet-answer : (part : SheetPart) → part ≡ walked_from (started SheetA) 0 rs → part ≡ sheet_part_of rs
  unfolding phase_of sheet_part_of sheet_fault part_length
  sheet-answer part e = e ∙ walked_sheet rs (started SheetA) 0 wide tt ∙ go (sheet_fault rs) refl
    where
      go : (f : Fault) → sheet_fault rs ≡ f → part_by f (0 + part_length rs) last ≡ part_answer f (part_length rs) (get_or rs 1 []) (Sheet.corners rs)
      go none e = sound_is e
      go (fault n at) e = refl

-- ---- a fault has a number
unfoldable pub Numbered : Fault → Type 0
Numbered none = Unit {0}
Numbered (fault n at) = n ≡ 0 → ⊥

pub either_numbered : (f g : Fault) → Numbered f → Numbered g → Numbered (or_else f g)
unfolding Numbered
either_numbered none g p q = q
either_numbered (fault n at) g p q = p

pub number_numbered : (n at : ℕ) → Numbered (to_fault n at)
unfolding Numbered
number_numbered zero at = tt
number_numbered (suc n) at = λ e. omega arith

pub part_numbered : (M : Machine) (p : M.Phase) (i : ℕ) (rs : List (List ℕ)) → Numbered (part_fault M p i rs)
unfolding Numbered
part_numbered M p i [] = go (M.over p)
  where
    go : (t : Bool) → Numbered (cond t none (fault 3 1))
    go true = tt
    go false = λ e. omega arith
part_numbered M p i (r ∷ rs) = go (M.over p) (part_numbered M (M.step p r) (suc i) rs)
  where
    go : (t : Bool) → Numbered (part_fault M (M.step p r) (suc i) rs) → Numbered (cond t none (or_else (to_fault (M.wrong p r) i) (part_fault M (M.step p r) (suc i) rs)))
    go true ih = tt
    go false ih = either_numbered (to_fault (M.wrong p r) i) (part_fault M (M.step p r) (suc i) rs) (number_numbered (M.wrong p r) i) ih

-- ---- THE INDEX
module _ (rs : List (List ℕ)) (wide : Wide rs) (w : SheetPart) (walked : w ≡ walked_from (started IndexA) 0 rs) where
  abbrev found : Fault
  found = part_fault Index.index_machine Index.due_a 1 rs

  index_walked : w ≡ part_by found (0 + part_from Index.index_machine Index.due_a rs) (progress_from (started IndexA) rs)
  unfolding stage_of
  index_walked = walked ∙ walked_index rs (started IndexA) 0 wide tt

  by_fault : (f : Fault) → found ≡ f → w ≡ part_by f (0 + part_from Index.index_machine Index.due_a rs) (progress_from (started IndexA) rs)
  by_fault f e = index_walked ∙ ap (λ (f : Fault). part_by f (0 + part_from Index.index_machine Index.due_a rs) (progress_from (started IndexA) rs)) e

  answer_by : (f : Fault) → found ≡ f → fault_answer (or_else f (to_fault (unless (eqb (length rs) (part_from Index.index_machine Index.due_a rs)) 10) 1)) ≡ index_fault_of rs
  unfolding index_fault_of Index.index_fault
  answer_by f e = ap (λ (f : Fault). fault_answer (or_else f (to_fault (unless (eqb (length rs) (part_from Index.index_machine Index.due_a rs)) 10) 1))) (sym e)

  pub index-fails : (w.fault ≡ 0 → ⊥) → record { number = w.fault; at = w.at } ≡ index_fault_of rs
  index-fails z = go found refl
    where
      go : (f : Fault) → found ≡ f → record { number = w.fault; at = w.at } ≡ index_fault_of rs
      go none e = absurd (z (ap (λ (p : SheetPart). p.fault) (by_fault none e)))
      go (fault n at) e = ap (λ (p : SheetPart). record { number = p.fault; at = p.at }) (by_fault (fault n at) e) ∙ answer_by (fault n at) e

  module _ (z : w.fault ≡ 0) where
    no_fault : found ≡ none
    unfolding Numbered
    no_fault = go found refl (part_numbered Index.index_machine Index.due_a 1 rs)
      where
        go : (f : Fault) → found ≡ f → Numbered f → found ≡ none
        go none e h = e
        go (fault n at) e h = absurd (h (sym (ap (λ (p : SheetPart). p.fault) (by_fault (fault n at) e)) ∙ z))

    passed_is : w.length ≡ part_from Index.index_machine Index.due_a rs
    passed_is = let n : 0 + part_from Index.index_machine Index.due_a rs ≡ part_from Index.index_machine Index.due_a rs = omega arith in ap (λ (p : SheetPart). p.length) (by_fault none no_fault) ∙ n

    module _ (count : ℕ) (all : count ≡ length rs) where
      pub index_left_over : (w.length ≡ count → ⊥) → record { number = 10; at = 1 } ≡ index_fault_of rs
      index_left_over h = ap (λ (t : Bool). fault_answer (to_fault (unless t 10) 1)) (sym (ne_eqb (length rs) (part_from Index.index_machine Index.due_a rs) (λ e. h (passed_is ∙ sym e ∙ sym all)))) ∙ answer_by none no_fault

      pub index-passes : w.length ≡ count → record { number = 0; at = 0 } ≡ index_fault_of rs
      index-passes h = ap (λ (t : Bool). fault_answer (to_fault (unless t 10) 1)) (sym (eq-eqb (length rs) (part_from Index.index_machine Index.due_a rs) (sym all ∙ sym h ∙ passed_is))) ∙ answer_by none no_fault

-- the same of a refusal by its reason
pub index_refused : (rs : List (List ℕ)) → Wide rs → (reason : Reason) (at : ℕ) → refused_part (refusal_number reason) at ≡ walked_from (started IndexA) 0 rs → record { number = refusal_number reason; at = at } ≡ index_fault_of rs
index_refused rs wide reason at e = index-fails rs wide (refused_part (refusal_number reason) at) e (not_zero reason)
