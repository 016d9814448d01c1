-- What is due when a record is reached: the sheet part, an index, the open level. Assumes nothing.
use mathlib.Core.Path.{◌≡◌, refl, ap, sym, ◌∙◌}
use mathlib.Core.List.{List, [], ◌∷◌, ◌++◌, append_assoc, map}
use Prim.Native.Nat.{ℕ, zero, suc, ◌+◌}
use native.Mathlib.Omega.{arith}
use lib.IntN.{ℤ}
use lib.ListN.{length, length-append}
use Rattle.format.specs.Record.{Data, nothing, view}
use Rattle.format.specs.Layout.{number_at, sheet_d, index_a}
use Rattle.format.specs.Sheet.{Phase, due_a, due_b, due_c, due_d, due_e, due_f, body, after, after_set, due_fs}
use Rattle.format.specs.Index as Index
use Rattle.format.specs.Index.{Stage, due_bs, due_cs}
use Rattle.format.specs.Judge.{open_of}
use Rattle.format.specs.Edit.{due_behind, open_behind}
use Rattle.format.specs.Checks.{due_behind_all, Due, of_part, header_or_item, data_due, enter, due_again, stated, due_next, sheet_walk, index_walk, InFront, PhaseMeans, DueMeans, StageMeans, OpenLevel}
use Rattle.format.proofs.JudgeWalks.{sort}
use Rattle.format.proofs.ChecksEdits.{open_is}

append-nil : (xs : List (List ℕ)) → xs ++ [] ≡ xs
append-nil [] = refl
append-nil (x ∷ xs) = ap (λ (l : List (List ℕ)). x ∷ l) (append-nil xs)

-- ---- The sheet part
-- one record more in the set that is started
more-started : (records : List (List ℕ)) (unit : ℕ) (wholes : List ℤ) (to_come : ℕ) (started : List (List ℕ)) (r : List ℕ) → InFront records unit wholes to_come started → InFront (records ++ r ∷ []) unit wholes to_come (started ++ r ∷ [])
more-started records unit wholes to_come started r f = record {
  a = f.a;
  b = f.b;
  c = f.c;
  sets = f.sets;
  ended = f.ended;
  whole = ap (λ (l : List (List ℕ)). l ++ r ∷ []) f.whole ∙ ap (λ (l : List (List ℕ)). f.a ∷ f.b ∷ f.c ∷ l) (append_assoc f.sets started (r ∷ []));
  are_sets = f.are_sets;
  count = f.count;
  unit_of_b = f.unit_of_b;
  wholes_of_b = f.wholes_of_b;
}

-- a set that ends
set_ends : (records : List (List ℕ)) (unit : ℕ) (wholes : List ℤ) (more : ℕ) (d e : List ℕ) (fs : List (List ℕ)) → length fs ≡ number_at sheet_d "f records" d → InFront records unit wholes (suc more) (d ∷ e ∷ fs) → InFront records unit wholes more []
set_ends records unit wholes more d e fs n f = record {
  a = f.a;
  b = f.b;
  c = f.c;
  sets = f.sets ++ d ∷ e ∷ fs;
  ended = suc f.ended;
  whole = f.whole ∙ ap (λ (l : List (List ℕ)). f.a ∷ f.b ∷ f.c ∷ l) (sym (append-nil (f.sets ++ d ∷ e ∷ fs)));
  are_sets = (f.sets, d, e, fs, refl, n, f.are_sets);
  count = omega (arith, f.count);
  unit_of_b = f.unit_of_b;
  wholes_of_b = f.wholes_of_b;
}

after-set : (records : List (List ℕ)) (unit : ℕ) (wholes : List ℤ) (more : ℕ) → InFront records unit wholes more [] → PhaseMeans (after_set unit wholes more) records
after-set records unit wholes zero f = (records, [], unit, wholes, sym (append-nil records), f)
after-set records unit wholes (suc more) f = f

after-e : (records : List (List ℕ)) (unit : ℕ) (wholes : List ℤ) (more fs : ℕ) (d e : List ℕ) (done : List (List ℕ)) → InFront records unit wholes (suc more) (d ∷ e ∷ done) → length done + fs ≡ number_at sheet_d "f records" d → PhaseMeans (due_fs unit wholes more fs) records
after-e records unit wholes more zero d e done f n = after-set records unit wholes more (set_ends records unit wholes more d e done (omega arith) f)
after-e records unit wholes more (suc fs) d e done f n = (d, e, done, f, n)

phase_step : (p : Phase) (records : List (List ℕ)) (r : List ℕ) → PhaseMeans p records → PhaseMeans (after p r) (records ++ r ∷ [])
phase_step due_a records r m = (r, ap (λ (l : List (List ℕ)). l ++ r ∷ []) m, refl, refl)
phase_step (due_b level more) records r m = (m.0, r, ap (λ (l : List (List ℕ)). l ++ r ∷ []) m.1, m.3, refl, refl)
phase_step (due_c unit wholes more) records r m = record { a = m.0; b = m.1; c = r; sets = []; ended = 0; whole = ap (λ (l : List (List ℕ)). l ++ r ∷ []) m.2; are_sets = refl; count = omega (arith, m.3); unit_of_b = m.4; wholes_of_b = m.5 }
phase_step (due_d unit wholes more) records r m = (r, more-started records unit wholes (suc more) [] r m, refl)
phase_step (due_e unit wholes more fs) records r m = after-e (records ++ r ∷ []) unit wholes more fs m.0 r [] (more-started records unit wholes (suc more) (m.0 ∷ []) r m.1) (omega (arith, m.2))
phase_step (due_f unit wholes more fs) records r m = after-e (records ++ r ∷ []) unit wholes more fs m.0 m.1 (m.2 ++ r ∷ []) (more-started records unit wholes (suc more) (m.0 ∷ m.1 ∷ m.2) r m.3) (omega (arith, m.4, length-append m.2 (r ∷ [])))
phase_step body records r m = (m.0, m.1 ++ r ∷ [], m.2, m.3, ap (λ (l : List (List ℕ)). l ++ r ∷ []) m.4 ∙ append_assoc m.0 m.1 (r ∷ []), m.5)

enter_means : (p : Phase) (records : List (List ℕ)) → PhaseMeans p records → DueMeans (enter p) records
enter_means due_a records m = m
enter_means (due_b level more) records m = m
enter_means (due_c unit wholes more) records m = m
enter_means (due_d unit wholes more) records m = m
enter_means (due_e unit wholes more fs) records m = m
enter_means (due_f unit wholes more fs) records m = m
enter_means body records m = m

again_means : (o : ℕ) (held : Data) (n : ℕ) (records : List (List ℕ)) → PhaseMeans body records → DueMeans (due_again o held n) records
again_means o held zero records m = m
again_means o held (suc n) records m = m

due_step : (due : Due) (records : List (List ℕ)) (r : List ℕ) → DueMeans due records → DueMeans (due_next due r) (records ++ r ∷ [])
due_step (of_part p) records r m = enter_means (after p r) (records ++ r ∷ []) (phase_step p records r m)
due_step (header_or_item opened) records r m = again_means (open_of (view r).kind (view r).level) (view r).data_held (stated r) (records ++ r ∷ []) (phase_step body records r m)
due_step (data_due opened held more) records r m = again_means opened held more (records ++ r ∷ []) (phase_step body records r m)

due_means_from : (rs : List (List ℕ)) (due : Due) (front : List (List ℕ)) → DueMeans due front → DueMeans (due_behind_all sheet_walk due rs) (front ++ rs)
due_means_from [] due front m = rw (append-nil front) m
due_means_from (r ∷ rs) due front m = rw (append_assoc front (r ∷ []) rs) at (due_means_from rs (due_next due r) (front ++ r ∷ []) (due_step due front r m))

pub due_means : (records : List (List ℕ)) → DueMeans (due_behind_all sheet_walk (of_part due_a) records) records
due_means records = due_means_from records (of_part due_a) [] refl

-- ---- The body
again_behind : (o : ℕ) (held : Data) (n : ℕ) (rs : List (List ℕ)) → due_behind_all sheet_walk (due_again o held n) rs ≡ due_again (open_behind o n (map view rs)) (sort n held (map view rs)) (due_behind n (map view rs))
again_behind o held n [] = refl
again_behind o held zero (r ∷ rs) = again_behind (open_of (view r).kind (view r).level) (view r).data_held (stated r) rs
again_behind o held (suc n) (r ∷ rs) = again_behind o held n rs

again_open : (o : ℕ) (held : Data) (n opened : ℕ) → due_again o held n ≡ header_or_item opened → (n ≡ 0) × (o ≡ opened)
again_open o held zero opened e = let x : o ≡ opened = cc in (refl, x)
again_open o held (suc n) opened e = let x : ◌≡◌ {A = ℕ} 0 1 = cc in absurd (omega arith)

pub open_means : (rs : List (List ℕ)) (opened : ℕ) → due_behind_all sheet_walk (header_or_item 0) rs ≡ header_or_item opened → OpenLevel (map view rs) opened
open_means rs opened e = rw (again_open (open_behind 0 0 (map view rs)) (sort 0 nothing (map view rs)) (due_behind 0 (map view rs)) opened (sym (again_behind 0 nothing 0 rs) ∙ e)).1 at (open_is (map view rs))

-- ---- An index
due_cs_lem : (cs : ℕ) (a : List ℕ) (done : List (List ℕ)) (records : List (List ℕ)) → records ≡ a ∷ done → length done + cs ≡ number_at index_a "b records" a + number_at index_a "c records" a → StageMeans (due_cs cs) records
due_cs_lem zero a done records w n = (a, done, [], w ∙ ap (λ (l : List (List ℕ)). a ∷ l) (sym (append-nil done)), omega arith)
due_cs_lem (suc cs) a done records w n = (a, done, w, n)

due_bs_lem : (bs cs : ℕ) (a : List ℕ) (done : List (List ℕ)) (records : List (List ℕ)) → records ≡ a ∷ done → length done + bs ≡ number_at index_a "b records" a → cs ≡ number_at index_a "c records" a → StageMeans (due_bs bs cs) records
due_bs_lem zero cs a done records w n c = due_cs_lem cs a done records w (omega arith)
due_bs_lem (suc bs) cs a done records w n c = (a, done, w, n, c)

stage_step : (s : Stage) (records : List (List ℕ)) (r : List ℕ) → StageMeans s records → StageMeans (Index.after s r) (records ++ r ∷ [])
stage_step Index.due_a records r m = due_bs_lem (number_at index_a "b records" r) (number_at index_a "c records" r) r [] (records ++ r ∷ []) (ap (λ (l : List (List ℕ)). l ++ r ∷ []) m) (omega arith) refl
stage_step (Index.due_b bs cs) records r m = due_bs_lem bs cs m.0 (m.1 ++ r ∷ []) (records ++ r ∷ []) (ap (λ (l : List (List ℕ)). l ++ r ∷ []) m.2) (omega (arith, m.3, length-append m.1 (r ∷ []))) m.4
stage_step (Index.due_c cs) records r m = due_cs_lem cs m.0 (m.1 ++ r ∷ []) (records ++ r ∷ []) (ap (λ (l : List (List ℕ)). l ++ r ∷ []) m.2) (omega (arith, m.3, length-append m.1 (r ∷ [])))
stage_step Index.over records r m = (m.0, m.1, m.2 ++ r ∷ [], ap (λ (l : List (List ℕ)). l ++ r ∷ []) m.3 ∙ ap (λ (l : List (List ℕ)). m.0 ∷ l) (append_assoc m.1 m.2 (r ∷ [])), m.4)

stage_means_from : (rs : List (List ℕ)) (s : Stage) (front : List (List ℕ)) → StageMeans s front → StageMeans (due_behind_all index_walk s rs) (front ++ rs)
stage_means_from [] s front m = rw (append-nil front) m
stage_means_from (r ∷ rs) s front m = rw (append_assoc front (r ∷ []) rs) at (stage_means_from rs (Index.after s r) (front ++ r ∷ []) (stage_step s front r m))

pub stage_means : (records : List (List ℕ)) → StageMeans (due_behind_all index_walk Index.due_a records) records
stage_means records = stage_means_from records Index.due_a [] refl
