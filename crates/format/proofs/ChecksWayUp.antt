-- 17, of an accepted sheet. Assumes nothing.
use mathlib.Core.Path.{◌≡◌}
use mathlib.Core.Logic.{◌⊎◌, inl, inr}
use mathlib.Core.Bool.{Bool, true, false, cond, ◌&&◌}
use mathlib.Core.List.{List}
use Prim.Native.Nat.{ℕ, suc, ◌/◌, ◌≤◌}
use native.Mathlib.Omega.{arith}
use lib.Dec.{leb, ltb}
use borrow.Author.Tests.{ltb-true, ltb-false}
use Rattle.format.specs.Basics.{given, refused, unless}
use Rattle.format.specs.Judge.{AcceptedSheet}
use Rattle.format.specs.Above.{way_from, up}
use Rattle.format.specs.Run.{Buffer, sheet_of}
use Rattle.format.specs.Checks.{Check, FirstOf, AnswersFirst, way_up_checks}
use Rattle.format.proofs.ChecksOrder.{Says, says-and, says_leb, says_map, check_end, values-first, refusal_first}
use Rattle.format.proofs.AcceptedSheet.{all-records}

tested : {A : Type 0} (checks : List Check) (test : Bool) (n : ℕ) (value : A) → FirstOf checks (unless test (suc n)) → AnswersFirst checks (cond test (given value) (refused (suc n) 0))
tested checks true n value f = values-first checks value f
tested checks false n value f = refusal_first checks n f

module _ (b : Buffer) (a : AcceptedSheet b.used b.bytes) (number : ℕ) where
  part_says : Says (ltb (sheet_of b).part_length number) ((number ≡ 0) ⊎ (number ≤ (sheet_of b).part_length))
  part_says = record { yes = λ e. inr (ltb-false _ _ e); no = λ e. elim [ inl q ↦ omega (arith, ltb-true (sheet_of b).part_length number e) | inr l ↦ omega (arith, ltb-true (sheet_of b).part_length number e) ] }

  regroup : {P Q R : Type 0} → (P ⊎ Q) ⊎ R → P ⊎ (Q ⊎ R)
  regroup (inl (inl p)) = inl p
  regroup (inl (inr q)) = inr (inl q)
  regroup (inr r) = inr (inr r)

  group : {P Q R : Type 0} → P ⊎ (Q ⊎ R) → (P ⊎ Q) ⊎ R
  group (inl p) = inl (inl p)
  group (inr (inl q)) = inl (inr q)
  group (inr (inr r)) = inr r

  pub way-up-first : AnswersFirst (way_up_checks b.used b.bytes number) (up b.used b.bytes number)
  unfolding up
  way-up-first = rw (a.judged, all-records a) (tested _ (ltb (sheet_of b).part_length number && leb number (b.used / 84)) 16 (way_from (sheet_of b) number) (check_end 16 _ _ (says_map regroup group (says-and part_says (says_leb number (b.used / 84))))))
