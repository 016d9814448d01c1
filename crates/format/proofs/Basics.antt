-- Small laws of tests, of signed numbers and of fault numbers. Assumes nothing.
use mathlib.Core.Path.{◌≡◌, refl, sym, ◌∙◌}
use mathlib.Core.Bool.{Bool, true, false, ◌&&◌, ◌||◌, false≢true}
use mathlib.Core.Logic.{◌⊎◌, inl, inr}
use Prim.Native.Nat.{ℕ, zero, suc, ◌≤◌}
use native.Mathlib.Omega.{arith}
use lib.Dec.{leb}
use lib.IntN.{pos, neg_ℤ, nat_abs}
use borrow.Author.Tests.{leb-true, leb-false}
use Rattle.format.specs.Basics.{first, unless}

pub and-true : (a b : Bool) → a && b ≡ true → (a ≡ true) × (b ≡ true)
and-true true b e = (refl, e)
and-true false b e = absurd (false≢true e)

pub true_and : (a b : Bool) → a ≡ true → b ≡ true → a && b ≡ true
true_and a b p q = rw (p, q)

-- one of the two
pub or_cases : (a b : Bool) → a || b ≡ true → (a ≡ true) ⊎ (b ≡ true)
or_cases true b e = inl refl
or_cases false b e = inr e

pub or-false : (a b : Bool) → a || b ≡ false → (a ≡ false) × (b ≡ false)
or-false true b e = absurd (false≢true (sym e))
or-false false b e = (refl, e)

pub abs_neg : (n : ℕ) → nat_abs (neg_ℤ (pos n)) ≡ n
abs_neg zero = refl
abs_neg (suc n) = refl

-- two tests behind the same first one
pub and_same : (a b c : Bool) → (a ≡ true → b ≡ c) → a && b ≡ a && c
and_same true b c h = h refl
and_same false b c h = refl

-- two orders that say the same
pub leb_same : (a b c d : ℕ) → (a ≤ b → c ≤ d) → (c ≤ d → a ≤ b) → leb a b ≡ leb c d
leb_same a b c d there back = go (leb a b) refl (leb c d) refl
  where
    go : (t : Bool) → leb a b ≡ t → (u : Bool) → leb c d ≡ u → leb a b ≡ leb c d
    go true p true q = p ∙ sym q
    go true p false q = absurd (omega (arith, there (leb-true a b p), leb-false c d q))
    go false p true q = absurd (omega (arith, back (leb-true c d q), leb-false a b p))
    go false p false q = p ∙ sym q

pub first_zero : (a b : ℕ) → first a b ≡ 0 → (a ≡ 0) × (b ≡ 0)
first_zero zero b e = (refl, e)
first_zero (suc a) b e = absurd (omega arith)

pub first_alone : (n : ℕ) → first n 0 ≡ n
first_alone zero = refl
first_alone (suc n) = refl

pub first-none : (a b : ℕ) → a ≡ 0 → b ≡ first a b
first-none a b e = rw e

pub first_some : (a b : ℕ) → (a ≡ 0 → ⊥) → a ≡ first a b
first_some zero b ne = absurd (ne refl)
first_some (suc a) b ne = refl

pub zero_first : (a b : ℕ) → a ≡ 0 → b ≡ 0 → first a b ≡ 0
zero_first a b p q = rw (p, q)

pub unless_zero : (t : Bool) (n : ℕ) → unless t (suc n) ≡ 0 → t ≡ true
unless_zero true n e = refl
unless_zero false n e = absurd (omega arith)

pub zero_unless : (t : Bool) (n : ℕ) → t ≡ true → unless t n ≡ 0
zero_unless t n e = rw e
