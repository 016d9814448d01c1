-- Three stages: the first failing one answers. Assumes nothing.
use mathlib.Core.Path.{◌≡◌, refl, ap, ap₂, sym, ◌∙◌}
use mathlib.Core.Logic.{◌⊎◌, inl, inr, ◌↔◌}
use mathlib.Core.Bool.{Bool, true, false}
use mathlib.Core.List.{List}
use Prim.Native.Nat.{ℕ, ◌*◌, ◌%◌}
use native.Mathlib.Omega.{arith}
use lib.Dec.{ltb}
use lib.ListN.{length}
use borrow.Author.Tests.{ltb-true, ltb-false}
use Rattle.format.specs.Basics.{Answer, given, refused, Fault, none, fault, or_else, length_ok, stage_one_ok}
use Rattle.format.specs.Judge.{Counts, accepted, verdict, after_stage_one}
use Rattle.format.specs.Checks.{LengthFails, StageOneFails, Refusal, stage_one, stage_two, stage_three}
use Rattle.format.proofs.ChecksOrder.{Says, says_map, says-and, says_eqb, says_leb}

-- ---- Stage one
sum-right : {P Q R S : Type 0} → ((P ⊎ Q) ⊎ R) ⊎ S → P ⊎ (Q ⊎ (R ⊎ S))
sum-right (inl (inl (inl p))) = inl p
sum-right (inl (inl (inr q))) = inr (inl q)
sum-right (inl (inr r)) = inr (inr (inl r))
sum-right (inr s) = inr (inr (inr s))

sum_left : {P Q R S : Type 0} → P ⊎ (Q ⊎ (R ⊎ S)) → ((P ⊎ Q) ⊎ R) ⊎ S
sum_left (inl p) = inl (inl (inl p))
sum_left (inr (inl q)) = inl (inl (inr q))
sum_left (inr (inr (inl r))) = inl (inr r)
sum_left (inr (inr (inr s))) = inr s

pub length-says : (width used : ℕ) (buffer : List ℕ) → Says (length_ok width used buffer) (LengthFails width used buffer)
length-says width used buffer = says_map sum-right sum_left (says-and (says-and (says-and some (says_leb used (length buffer))) (says_eqb (used % width) 0)) (says_leb used (width * 200000)))
  where
    some : Says (ltb 0 used) (used ≡ 0)
    some = record { yes = λ e. omega (arith, ltb-false 0 used e); no = λ e q. omega (arith, ltb-true 0 used e) }

pub stage_one_says : (used : ℕ) (buffer : List ℕ) → Says (stage_one_ok used buffer) (StageOneFails used buffer)
stage_one_says = length-says 84

-- the values of an accepted file
records_in : Answer Counts → ℕ
records_in (given c) = c.records
records_in (refused n k) = 0

items_in : Answer Counts → ℕ
items_in (given c) = c.items
items_in (refused n k) = 0

-- ---- Three stages, of a sheet or an index
-- what stage three comes to, where stage two finds nothing
pub data Third (Three : ℕ → Type 0) (three : Fault) : Type 0 where
  passed : three ≡ none → ((at : ℕ) → Three at → ⊥) → Third Three three
  failed : (at : ℕ) → three ≡ fault 10 at → Three at → Third Three three

module _ (One : Type 0) (Two : ℕ → ℕ → Type 0) (Three : ℕ → Type 0) (ok : Bool) (two three : Fault) (n m : ℕ) (answer : Answer Counts) (first : Says ok One) (second : (number at : ℕ) → two ≡ fault number at ↔ Two number at) (third : two ≡ none → Third Three three) (lowest : (a b : ℕ) → Three a → Three b → a ≡ b) (is : answer ≡ after_stage_one ok (verdict (or_else two three) n m)) where
  data Judged : Type 0 where
    refuses : (number at : ℕ) → answer ≡ refused number at → Refusal One Two Three number at → Judged
    accepts : answer ≡ accepted n m → ((number at : ℕ) → Refusal One Two Three number at → ⊥) → Judged

  -- no fault of stage two
  none_two : two ≡ none → (number at : ℕ) → Two number at → ⊥
  none_two e number at t = clash ((second number at).1 t)
    where
      clash : two ≡ fault number at → ⊥
      clash q = let x : ◌≡◌ {A = ℕ} 0 1 = cc in omega arith

  behind_two : ok ≡ true → (One → ⊥) → (e : two ≡ none) → Third Three three → Judged
  behind_two o no_one e (passed q clear) = accepts (is ∙ rw (o, e, q)) (λ number at. elim [ stage_one x a b ↦ no_one x | stage_two x t ↦ none_two e number at t | stage_three x y a t ↦ clear at t ])
  behind_two o no_one e (failed at q t) = refuses 10 at (is ∙ rw (o, e, q)) (stage_three no_one (none_two e) refl t)

  behind_one : ok ≡ true → (One → ⊥) → (a : Fault) → two ≡ a → Judged
  behind_one o no_one none e = behind_two o no_one e (third e)
  behind_one o no_one (fault number at) e = refuses number at (is ∙ rw (o, e)) (stage_two no_one ((second number at).0 e))

  judging : (t : Bool) → ok ≡ t → Judged
  judging false e = refuses 1 0 (is ∙ rw e) (stage_one (first.yes e) refl refl)
  judging true e = behind_one e (first.no e) two refl

  -- a refusal is the only one
  one_refusal : (a b c d : ℕ) → Refusal One Two Three a b → Refusal One Two Three c d → (a ≡ c) × (b ≡ d)
  one_refusal a b c d (stage_one x p q) (stage_one y r s) = (p ∙ sym r, q ∙ sym s)
  one_refusal a b c d (stage_one x p q) (stage_two y t) = absurd (y x)
  one_refusal a b c d (stage_one x p q) (stage_three y z r t) = absurd (y x)
  one_refusal a b c d (stage_two x t) (stage_one y r s) = absurd (x y)
  one_refusal a b c d (stage_two x t) (stage_two y u) = same ((second a b).1 t) ((second c d).1 u)
    where
      same : two ≡ fault a b → two ≡ fault c d → (a ≡ c) × (b ≡ d)
      same p q = let v : a ≡ c = cc in let w : b ≡ d = cc in (v, w)
  one_refusal a b c d (stage_two x t) (stage_three y z r u) = absurd (z a b t)
  one_refusal a b c d (stage_three x z p t) (stage_one y r s) = absurd (x y)
  one_refusal a b c d (stage_three x z p t) (stage_two y u) = absurd (z c d u)
  one_refusal a b c d (stage_three x z p t) (stage_three y w r u) = (p ∙ sym r, lowest b d t u)

  pub refusal_exactly : (number at : ℕ) → answer ≡ refused number at ↔ Refusal One Two Three number at
  refusal_exactly number at = (there (judging ok refl), back (judging ok refl))
    where
      there : Judged → answer ≡ refused number at → Refusal One Two Three number at
      there (refuses a b q r) e = let v : a ≡ number = cc in let w : b ≡ at = cc in rw (v, w) at r
      there (accepts q clear) e = let x : ◌≡◌ {A = ℕ} 0 1 = cc in absurd (omega arith)

      back : Judged → Refusal One Two Three number at → answer ≡ refused number at
      back (refuses a b q r) s = let h = one_refusal a b number at r s in let v : a ≡ number = h.0 in let w : b ≡ at = h.1 in cc
      back (accepts q clear) s = absurd (clear number at s)

  pub accepted_exactly : (a b : ℕ) → answer ≡ accepted a b ↔ (((number at : ℕ) → Refusal One Two Three number at → ⊥) × (a ≡ n) × (b ≡ m))
  unfolding records_in items_in
  accepted_exactly a b = (there (judging ok refl), λ h. back (judging ok refl) h.0 h.1 h.2)
    where
      there : Judged → answer ≡ accepted a b → ((number at : ℕ) → Refusal One Two Three number at → ⊥) × (a ≡ n) × (b ≡ m)
      there (refuses k j q r) e = let x : ◌≡◌ {A = ℕ} 0 1 = cc in absurd (omega arith)
      there (accepts q clear) e = (clear, ap records_in (sym e ∙ q), ap items_in (sym e ∙ q))

      back : Judged → ((number at : ℕ) → Refusal One Two Three number at → ⊥) → a ≡ n → b ≡ m → answer ≡ accepted a b
      back (refuses k j q r) clear p₁ p₂ = absurd (clear k j r)
      back (accepts q clear) also p₁ p₂ = q ∙ ap₂ accepted (sym p₁) (sym p₂)
