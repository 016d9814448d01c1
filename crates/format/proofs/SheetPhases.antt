-- The sheet part stays in order, and as long, when its second record's counts are rewritten and the body is another. Assumes nothing.
use mathlib.Core.Path.{◌≡◌, refl, ap, sym, ◌∙◌}
use mathlib.Core.Bool.{Bool, true, false, cond, ◌&&◌, ◌||◌, true≢false}
use mathlib.Core.List.{List, [], ◌∷◌, ◌++◌}
use Prim.Native.Nat.{ℕ, zero, suc, ◌≤◌}
use native.Mathlib.Omega.{arith}
use lib.Dec.{eqb, eqb-suc-zero}
use lib.ListN.{length, take}
use borrow.Author.Tests.{eqb-true, eq-eqb}
use Rattle.format.specs.Basics.{none, fault, or_else, to_fault, fine}
use Rattle.format.specs.Part.{Machine, part_from, part_fault}
use Rattle.format.specs.Edit.{alter_at}
use Rattle.format.proofs.Basics.{and-true}
use Rattle.format.proofs.Lists.{Wide}

module _ (M : Machine) where
  -- every record of the part is in order, and none is missing
  abbrev pub fine_from : M.Phase → List (List ℕ) → Bool
  fine_from p [] = M.over p
  fine_from p (r ∷ rs) = M.over p || (eqb (M.wrong p r) 0 && fine_from (M.step p r) rs)

module _ (M : Machine) where
  pub fault-fine : (p : M.Phase) (i : ℕ) (rs : List (List ℕ)) → fine (part_fault M p i rs) ≡ fine_from M p rs
  fault-fine p i [] = go (M.over p)
    where
      go : (t : Bool) → fine (cond t none (fault 3 1)) ≡ t
      go true = refl
      go false = refl
  fault-fine p i (r ∷ rs) = go (M.over p) (M.wrong p r) (fault-fine (M.step p r) (suc i) rs)
    where
      go : (t : Bool) (n : ℕ) → fine (part_fault M (M.step p r) (suc i) rs) ≡ fine_from M (M.step p r) rs → fine (cond t none (or_else (to_fault n i) (part_fault M (M.step p r) (suc i) rs))) ≡ t || (eqb n 0 && fine_from M (M.step p r) rs)
      go true n ih = refl
      go false zero ih = ih
      go false (suc n) ih = rw (eqb-suc-zero n)

  -- nothing behind the part matters
  record Kept (p : M.Phase) (rs X : List (List ℕ)) : Type 0 where
    part_length : part_from M p (take (part_from M p rs) rs ++ X) ≡ part_from M p rs
    fine_as : fine_from M p (take (part_from M p rs) rs ++ X) ≡ true
    long : part_from M p rs ≤ length rs

  pub over-part_length : (p : M.Phase) (X : List (List ℕ)) → M.over p ≡ true → part_from M p X ≡ 0
  over-part_length p [] e = refl
  over-part_length p (r ∷ X) e = rw e

  over-fine : (p : M.Phase) (X : List (List ℕ)) → M.over p ≡ true → fine_from M p X ≡ true
  over-fine p [] e = e
  over-fine p (r ∷ X) e = rw e

  kept : (p : M.Phase) (rs X : List (List ℕ)) → fine_from M p rs ≡ true → Kept p rs X
  kept p [] X f = record { part_length = over-part_length p X f; fine_as = over-fine p X f; long = omega arith }
  kept p (r ∷ rs) X f = go (M.over p) refl (kept (M.step p r) rs X)
    where
      go : (t : Bool) → M.over p ≡ t → (fine_from M (M.step p r) rs ≡ true → Kept (M.step p r) rs X) → Kept p (r ∷ rs) X
      go true e ih = record { part_length = rw e (over-part_length p X e); fine_as = rw e (over-fine p X e); long = rw e (omega arith) }
      go false e ih = let k = ih (and-true (eqb (M.wrong p r) 0) _ (rw e at f)).1 in record { part_length = rw (e, e) (ap suc k.part_length); fine_as = rw (e, e, (and-true (eqb (M.wrong p r) 0) (fine_from M (M.step p r) rs) (rw e at f)).0) k.fine_as; long = rw e (omega (arith, k.long)) }

  pub part_length_long : (p : M.Phase) (rs : List (List ℕ)) → fine_from M p rs ≡ true → part_from M p rs ≤ length rs
  part_length_long p rs f = (kept p rs [] f).long

  -- the second record rewritten: what the machine reads of it is not
  module _ (w : List ℕ → List ℕ) (first_due : M.over M.start ≡ false) (second-due : (a : List ℕ) → M.over (M.step M.start a) ≡ false) (same_step : (a b : List ℕ) → length b ≡ 84 → M.step (M.step M.start a) (w b) ≡ M.step (M.step M.start a) b) (same-fault : (a b : List ℕ) → length b ≡ 84 → M.wrong (M.step M.start a) b ≡ 0 → M.wrong (M.step M.start a) (w b) ≡ 0) where
    one_short : (a : List ℕ) → fine_from M M.start (a ∷ []) ≡ true → ⊥
    one_short a f = true≢false (sym (rw first_due at f) ∙ never)
      where
        both : (t : Bool) → t && false ≡ false
        both true = refl
        both false = refl

        never : eqb (M.wrong M.start a) 0 && M.over (M.step M.start a) ≡ false
        never = rw (second-due a) (both (eqb (M.wrong M.start a) 0))

    pub part_length_two : (rs : List (List ℕ)) → fine_from M M.start rs ≡ true → 2 ≤ part_from M M.start rs
    part_length_two [] f = absurd (true≢false (sym f ∙ first_due))
    part_length_two (a ∷ []) f = absurd (one_short a f)
    part_length_two (a ∷ b ∷ rs) f = rw (first_due, second-due a) (omega arith)

    pub part_length-kept : (rs X : List (List ℕ)) → Wide rs → fine_from M M.start rs ≡ true → part_from M M.start (alter_at w 1 (take (part_from M M.start rs) rs) ++ X) ≡ part_from M M.start rs
    unfolding Wide
    part_length-kept [] X wd f = absurd (true≢false (sym f ∙ first_due))
    part_length-kept (a ∷ []) X wd f = absurd (one_short a f)
    part_length-kept (a ∷ b ∷ rs) X wd f = rw (first_due, second-due a, first_due, second-due a, same_step a b wd.1.0) (ap (λ (n : ℕ). suc (suc n)) (kept (M.step (M.step M.start a) b) rs X y.1).part_length)
      where
        x : (eqb (M.wrong M.start a) 0 ≡ true) × (fine_from M (M.step M.start a) (b ∷ rs) ≡ true)
        x = and-true _ _ (rw first_due at f)

        y : (eqb (M.wrong (M.step M.start a) b) 0 ≡ true) × (fine_from M (M.step (M.step M.start a) b) rs ≡ true)
        y = and-true _ _ (rw (second-due a) at x.1)

    pub fine-kept : (rs X : List (List ℕ)) → Wide rs → fine_from M M.start rs ≡ true → fine_from M M.start (alter_at w 1 (take (part_from M M.start rs) rs) ++ X) ≡ true
    unfolding Wide
    fine-kept [] X wd f = absurd (true≢false (sym f ∙ first_due))
    fine-kept (a ∷ []) X wd f = absurd (one_short a f)
    fine-kept (a ∷ b ∷ rs) X wd f = rw (first_due, second-due a, first_due, second-due a, x.0, same_step a b wd.1.0, eq-eqb _ _ (same-fault a b wd.1.0 (eqb-true _ _ y.0))) (kept (M.step (M.step M.start a) b) rs X y.1).fine_as
      where
        x : (eqb (M.wrong M.start a) 0 ≡ true) × (fine_from M (M.step M.start a) (b ∷ rs) ≡ true)
        x = and-true _ _ (rw first_due at f)

        y : (eqb (M.wrong (M.step M.start a) b) 0 ≡ true) × (fine_from M (M.step (M.step M.start a) b) rs ≡ true)
        y = and-true _ _ (rw (second-due a) at x.1)
