-- An entry of a list by its number, and a number that no refusal has. Assumes nothing.
use Rattle.std.specs.Prelude.{Err}
use mathlib.Core.Path.{◌≡◌, refl, sym}
use mathlib.Core.Bool.{Bool, true, false}
use mathlib.Core.List.{List, [], ◌∷◌}
use Prim.Native.Nat.{ℕ, zero, suc, ◌≤◌, ◌<◌}
use native.Mathlib.Omega.{arith}
use types.Run.{OneOf}
use borrow.Author.Tests.{eqb-true, eqb-false, leb-true, leb-false, ne_eqb}
use lib.Dec.{eqb, leb}
use lib.ListN.{length}
use Rattle.format.specs.Basics.{refused}
use Rattle.format.specs.Answers.{written_answer}
use Rattle.format.specs.Reasons.{refusal_number}
use Rattle.format.specs.declared.Reason.{Reason}
use Rattle.format.specs.declared.Refusal.{Refusal}
use Rattle.format_words.specs.Words.{from_zero, entry, refusals, refusal_words, refusal_to}

-- ---- a number that is none of a `match`'s, which are 1, 2, 3 and so on, has no entry

abbrev pub None : (count n : ℕ) → Type 0
None zero n = Unit {0}
None (suc k) n = None k n × (OneOf (suc k ∷ []) n → ⊥)

missed : (count n : ℕ) → None count n → 1 ≤ n → n ≤ count → ⊥
missed zero n h a b = omega arith
missed (suc k) n h a b = go (eqb n (suc k)) refl (λ c. missed k n h.0 a c)
  where
    go : (t : Bool) → eqb n (suc k) ≡ t → (n ≤ k → ⊥) → ⊥
    go true e ih = h.1 (eqb-true n (suc k) e)
    go false e ih = let m : n ≡ suc k → ⊥ = eqb-false n (suc k) e in ih (omega arith)

past_end : {A : Type 0} (l : List A) (k : ℕ) → length l ≤ k → from_zero k l ≡ refused 16 0
past_end [] k h = refl
past_end (x ∷ xs) zero h = absurd (omega arith)
past_end (x ∷ xs) (suc k) h = past_end xs k (omega arith)

pub outside : {A : Type 0} (count n : ℕ) (l : List A) → None count n → length l ≡ count → entry n l ≡ refused 16 0
unfolding entry
outside count zero l h e = refl
outside count (suc k) l h e = go (leb (suc k) count) refl
  where
    go : (b : Bool) → leb (suc k) count ≡ b → from_zero k l ≡ refused 16 0
    go true f = let m : suc k ≤ count = leb-true (suc k) count f in absurd (missed count (suc k) h (omega arith) m)
    go false f = let m : count < suc k = leb-false (suc k) count f in past_end l k (omega arith)

-- ---- a number that no reason has

none : (n : ℕ) → ((reason : Reason) → refusal_number reason ≡ n → ⊥) → None 19 n
none n without = (((((((((((((((((((tt, other Reason.Length), other Reason.FileType), other Reason.MissingRecord), other Reason.RecordType), other Reason.Malformed), other Reason.OutsideRange), other Reason.Level), other Reason.DataRule), other Reason.Fraction), other Reason.Count), other Reason.Place), other Reason.Block), other Reason.BlockLevel), other Reason.Limit), other Reason.Room), other Reason.Number), other Reason.RecordNumber), other Reason.LineEnd), other Reason.Directory)
  where
    other : (reason : Reason) → n ≡ refusal_number reason → ⊥
    other reason e = without reason (sym e)

pub not-said : (n : ℕ) (out : List ℕ) (r : Refusal) → r ≡ record { reason = Reason.Number; at = 0 } → ((reason : Reason) → refusal_number reason ≡ n → ⊥) → record { answer = written_answer (Err r); bytes = out } ≡ refusal_to n out
unfolding refusal_to refusal_words refusals written_answer
not-said n out r e without = rw (e, ne_eqb n 27 (λ f. without Reason.Edition (sym f)), outside 19 n refusals (none n without) refl) refl
