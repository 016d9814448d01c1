-- The calls: a file, sheet or index, brought to normal form in a second buffer. Assumes nothing.
use mathlib.Core.Path.{◌≡◌, refl, ap, sym, ◌∙◌}
use mathlib.Core.Bool.{true}
use mathlib.Core.List.{List, ◌++◌}
use Prim.Native.Nat.{ℕ, ◌*◌, ◌/◌, ◌≤◌, ◌<◌}
use native.Mathlib.Omega.{arith}
use borrow.Author.Tests.{le-leb, lt-leb}
use lib.ListN.{length, take, drop, length-append, length-drop}
use lib.Seq.{take_at, drop_at}
use Rattle.format.specs.Basics.{Answer, given, refused, Outcome, chunks, flat, stage_one_ok}
use Rattle.format.specs.Layout.{Col}
use Rattle.format.specs.Judge.{Counts, accepted, after_stage_one}
use Rattle.format.specs.Normal.{normal_to}
use Rattle.format.specs.JudgedColumns.{NormalForm}
use Rattle.format.proofs.Lists.{Wide, wide_chunks, length-flat, chunks-flat, length-chunks}
use Rattle.format.proofs.JudgeStages.{Whole, whole_ok, stage_one_lem, stage_given}
use Rattle.format.proofs.NormalFiles.{Done}

-- ---- refused as judging does; 15 where the second buffer is short; or written
pub refused_as_judged : (v : Answer Counts) (number at : ℕ) → v ≡ refused number at → (used : ℕ) (ns : List (List ℕ)) (second : List ℕ) → normal_to v used ns second ≡ record { answer = refused number at; bytes = second }
refused_as_judged v number at e used ns second = rw e

pub refused-short : (v : Answer Counts) (n m : ℕ) → v ≡ accepted n m → (used : ℕ) (ns : List (List ℕ)) (second : List ℕ) → length second < used → normal_to v used ns second ≡ record { answer = refused 15 0; bytes = second }
refused-short v n m e used ns second l = rw (e, lt-leb used (length second) l)

pub written_long : (v : Answer Counts) (n m : ℕ) → v ≡ accepted n m → (used : ℕ) (ns : List (List ℕ)) (second : List ℕ) → used ≤ length second → normal_to v used ns second ≡ record { answer = given used; bytes = flat ns ++ drop used second }
written_long v n m e used ns second l = rw (e, le-leb used (length second) l)

-- ---- the second buffer
module _ (used : ℕ) (buffer : List ℕ) (w : Whole used buffer) where
  multiple : 84 * (used / 84) ≡ used
  multiple = omega (arith, w.even)

  wide : Wide (chunks (used / 84) buffer)
  wide = wide_chunks (used / 84) buffer (omega (arith, w.inside))

  for_all : (other : List ℕ) → used ≤ length other → stage_one_ok used other ≡ true
  for_all other l = whole_ok 84 used other (record { some = w.some; inside = l; even = w.even; few = w.few })

module _ (judged : List (List Col)) (ns : List (List ℕ)) (used : ℕ) (buffer second : List ℕ) (w : Whole used buffer) (l : used ≤ length second) (d : Done judged (chunks (used / 84) buffer) ns) where
  many : length ns ≡ used / 84
  many = d.many ∙ length-chunks (used / 84) buffer

  written : length (flat ns) ≡ used
  written = length-flat ns d.wide ∙ omega (arith, many, multiple used buffer w)

  long : length (flat ns ++ drop used second) ≡ length second
  long = length-append (flat ns) (drop used second) ∙ rw (written, length-drop used second) (omega arith)

  read : chunks (used / 84) (flat ns ++ drop used second) ≡ ns
  read = ap (λ (j : ℕ). chunks j (flat ns ++ drop used second)) (sym many) ∙ chunks-flat ns (drop used second) d.wide

  normal_form : NormalForm judged used buffer second (flat ns ++ drop used second)
  normal_form = record {
    long = long;
    records = λ k h. rw read (d.each k (rw (length-chunks (used / 84) buffer) h));
    behind = drop_at (flat ns) (drop used second) used written;
  }

-- ---- records are judged by `J`, have the judged columns `C` and the normal form `N`
abbrev judge_by : (List (List ℕ) → Answer Counts) → ℕ → List ℕ → Answer Counts
judge_by J used buffer = after_stage_one (stage_one_ok used buffer) (J (chunks (used / 84) buffer))

abbrev normal_call : (List (List ℕ) → Answer Counts) → (List (List ℕ) → List (List ℕ)) → ℕ → List ℕ → List ℕ → Outcome ℕ
normal_call J N used buffer second = normal_to (judge_by J used buffer) used (N (chunks (used / 84) buffer)) second

module _ (J : List (List ℕ) → Answer Counts) (C : List (List ℕ) → List (List Col)) (N : List (List ℕ) → List (List ℕ)) (done : (rs : List (List ℕ)) (n m : ℕ) → Wide rs → J rs ≡ accepted n m → Done (C rs) rs (N rs)) (again : (rs : List (List ℕ)) (n m : ℕ) → Wide rs → J rs ≡ accepted n m → (J (N rs) ≡ accepted n m) × (N (N rs) ≡ N rs)) (used : ℕ) (buffer second : List ℕ) (n m : ℕ) (e : judge_by J used buffer ≡ accepted n m) (l : used ≤ length second) where
  abbrev ns : List (List ℕ)
  ns = N (chunks (used / 84) buffer)

  q : (stage_one_ok used buffer ≡ true) × (J (chunks (used / 84) buffer) ≡ accepted n m)
  q = stage_given (stage_one_ok used buffer) (J (chunks (used / 84) buffer)) _ e

  ok : Whole used buffer
  ok = stage_one_lem used buffer q.0

  d : Done (C (chunks (used / 84) buffer)) (chunks (used / 84) buffer) ns
  d = done (chunks (used / 84) buffer) n m (wide used buffer ok) q.1

  outcome : normal_call J N used buffer second ≡ record { answer = given used; bytes = flat ns ++ drop used second }
  outcome = written_long (judge_by J used buffer) n m e used ns second l

  pub call_normal : ((normal_call J N used buffer second).answer ≡ given used) × NormalForm (C (chunks (used / 84) buffer)) used buffer second (normal_call J N used buffer second).bytes
  call_normal = rw outcome (refl, normal_form (C (chunks (used / 84) buffer)) ns used buffer second ok l d)

  twice : (J ns ≡ accepted n m) × (N ns ≡ ns)
  twice = again (chunks (used / 84) buffer) n m (wide used buffer ok) q.1

  judged_again : judge_by J used (flat ns ++ drop used second) ≡ accepted n m
  judged_again = rw (for_all used buffer ok (flat ns ++ drop used second) (omega (arith, long (C (chunks (used / 84) buffer)) ns used buffer second ok l d)), read (C (chunks (used / 84) buffer)) ns used buffer second ok l d) twice.0

  -- its normal form is accepted with the same counts
  pub call_again : judge_by J used (normal_call J N used buffer second).bytes ≡ accepted n m
  call_again = rw outcome judged_again

  -- and is its own normal form
  pub call-own : (third : List ℕ) → used ≤ length third → normal_call J N used (normal_call J N used buffer second).bytes third ≡ record { answer = given used; bytes = take used (normal_call J N used buffer second).bytes ++ drop used third }
  call-own third h = rw outcome (written_long (judge_by J used (flat ns ++ drop used second)) n m judged_again used (N (chunks (used / 84) (flat ns ++ drop used second))) third h ∙ ap (λ (bs : List ℕ). record { answer = given used; bytes = bs ++ drop used third }) same)
    where
      same : flat (N (chunks (used / 84) (flat ns ++ drop used second))) ≡ take used (flat ns ++ drop used second)
      same = ap (λ (rs : List (List ℕ)). flat (N rs)) (read (C (chunks (used / 84) buffer)) ns used buffer second ok l d) ∙ ap flat twice.1 ∙ sym (take_at (flat ns) (drop used second) used (written (C (chunks (used / 84) buffer)) ns used buffer second ok l d))
