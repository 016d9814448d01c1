-- What an accepted answer says of the stages before it: the used length and the sheet part. Assumes nothing.
use mathlib.Core.Path.{◌≡◌, refl}
use mathlib.Core.Bool.{Bool, true, false, ◌&&◌}
use mathlib.Core.List.{List}
use Prim.Native.Nat.{ℕ, ◌*◌, ◌%◌, ◌≤◌, ◌<◌}
use native.Mathlib.Omega.{arith}
use lib.Dec.{leb, ltb, eqb}
use lib.ListN.{length}
use borrow.Author.Tests.{leb-true, ltb-true, eqb-true, le-leb, lt-ltb, eq-eqb}
use Rattle.format.specs.Basics.{Fault, none, fault, Answer, given, length_ok, stage_one_ok}
use Rattle.format.specs.Judge.{Counts, after_part, after_stage_one}
use Rattle.format.proofs.Basics.{and-true, true_and}

-- stage one, of records that have so many bytes
pub record WholeOf (width used : ℕ) (buffer : List ℕ) : Type 0 where
  pub some : 0 < used
  pub inside : used ≤ length buffer
  pub even : used % width ≡ 0
  pub few : used ≤ width * 200000

pub length_ok_lem : (width used : ℕ) (buffer : List ℕ) → length_ok width used buffer ≡ true → WholeOf width used buffer
length_ok_lem width used buffer e =
    let a = and-true (ltb 0 used && leb used (length buffer) && eqb (used % width) 0) (leb used (width * 200000)) e in
    let b = and-true (ltb 0 used && leb used (length buffer)) (eqb (used % width) 0) a.0 in
    let c = and-true (ltb 0 used) (leb used (length buffer)) b.0 in
    record { some = ltb-true 0 used c.0; inside = leb-true used (length buffer) c.1; even = eqb-true (used % width) 0 b.1; few = leb-true used (width * 200000) a.1 }

pub whole_ok : (width used : ℕ) (buffer : List ℕ) → WholeOf width used buffer → length_ok width used buffer ≡ true
whole_ok width used buffer w = true_and _ _ (true_and _ _ (true_and _ _ (lt-ltb 0 used w.some) (le-leb used (length buffer) w.inside)) (eq-eqb (used % width) 0 w.even)) (le-leb used (width * 200000) w.few)

abbrev pub Whole : (used : ℕ) → List ℕ → Type 0
Whole used buffer = WholeOf 84 used buffer

pub stage_one_lem : (used : ℕ) (buffer : List ℕ) → stage_one_ok used buffer ≡ true → Whole used buffer
stage_one_lem = length_ok_lem 84

-- what is given passed the stage
pub stage_given : (t : Bool) (answer : Answer Counts) (counts : Counts) → after_stage_one t answer ≡ given counts → (t ≡ true) × (answer ≡ given counts)
stage_given true answer counts e = (refl, e)
stage_given false answer counts e = let z : ◌≡◌ {A = ℕ} 0 1 = cc in absurd (omega arith)

pub part-given : (f : Fault) (answer : Answer Counts) (counts : Counts) → after_part f answer ≡ given counts → (f ≡ none) × (answer ≡ given counts)
part-given none answer counts e = (refl, e)
part-given (fault number at) answer counts e = let z : ◌≡◌ {A = ℕ} 0 1 = cc in absurd (omega arith)
