-- Lists of numbers that rise: members, and that the members decide the list. Assumes nothing.
use mathlib.Core.Path.{◌≡◌, refl, ap, ap₂, sym}
use mathlib.Core.Logic.{◌⊎◌, inl, inr}
use mathlib.Core.Bool.{Bool, true, false, ◌||◌, false≢true}
use mathlib.Core.List.{List, [], ◌∷◌}
use Prim.Native.Nat.{ℕ, suc, ◌≤◌}
use native.Mathlib.Omega.{arith}
use lib.Dec.{eqb}
use borrow.Author.Tests.{eqb-true, eq-eqb}
use Rattle.format.specs.Basics.{member}
use Rattle.format.proofs.Basics.{or_cases}
use Rattle.format_directory.specs.DirectoryChecks.{Rising}

pub true_or : (a b : Bool) → b ≡ true → a || b ≡ true
true_or true b e = refl
true_or false b e = e

-- ---- members
pub member-first : (n : ℕ) (ns : List ℕ) → member n (n ∷ ns) ≡ true
member-first n ns = ap (λ (t : Bool). t || member n ns) (eq-eqb n n refl)

pub member-rest : (n m : ℕ) (ns : List ℕ) → member n ns ≡ true → member n (m ∷ ns) ≡ true
member-rest n m ns e = true_or (eqb n m) (member n ns) e

-- ---- from a smaller least number on, and nothing below it
pub later : (a b : ℕ) (ns : List ℕ) → b ≤ a → Rising a ns → Rising b ns
later a b [] l h = tt
later a b (n ∷ ns) l h = (omega (arith, h.0), h.1)

pub rising_above : (least : ℕ) (ns : List ℕ) → Rising least ns → (n : ℕ) → member n ns ≡ true → least ≤ n
rising_above least [] h n e = absurd (false≢true e)
rising_above least (m ∷ ns) h n e = go (or_cases (eqb n m) (member n ns) e) (rising_above (suc m) ns h.1 n)
  where
    go : (eqb n m ≡ true) ⊎ (member n ns ≡ true) → (member n ns ≡ true → suc m ≤ n) → least ≤ n
    go (inl q) ih = omega (arith, eqb-true n m q, h.0)
    go (inr q) ih = omega (arith, ih q, h.0)

-- ---- rising lists with the same members are the same
pub rising-same : (a b : ℕ) (xs ys : List ℕ) → Rising a xs → Rising b ys → ((n : ℕ) → member n xs ≡ true → member n ys ≡ true) → ((n : ℕ) → member n ys ≡ true → member n xs ≡ true) → xs ≡ ys
rising-same a b [] [] h k f g = refl
rising-same a b [] (y ∷ ys) h k f g = absurd (false≢true (g y (member-first y ys)))
rising-same a b (x ∷ xs) [] h k f g = absurd (false≢true (f x (member-first x xs)))
rising-same a b (x ∷ xs) (y ∷ ys) h k f g = ap₂ (λ (n : ℕ) (ns : List ℕ). n ∷ ns) heads (rising-same (suc x) (suc y) xs ys h.1 k.1 forth back)
  where
    below : (p q : ℕ) (qs : List ℕ) → Rising (suc q) qs → member p (q ∷ qs) ≡ true → q ≤ p
    below p q qs r e = go (or_cases (eqb p q) (member p qs) e)
      where
        go : (eqb p q ≡ true) ⊎ (member p qs ≡ true) → q ≤ p
        go (inl s) = omega (arith, eqb-true p q s)
        go (inr s) = omega (arith, rising_above (suc q) qs r p s)

    heads : x ≡ y
    heads = omega (arith, below x y ys k.1 (f x (member-first x xs)), below y x xs h.1 (g y (member-first y ys)))

    -- a member behind the first of one list is behind the first of the other, which is less
    behind : (p q : ℕ) (ps qs : List ℕ) → p ≡ q → Rising (suc p) ps → (n : ℕ) → member n ps ≡ true → member n (q ∷ qs) ≡ true → member n qs ≡ true
    behind p q ps qs same r n e there = go (or_cases (eqb n q) (member n qs) there)
      where
        go : (eqb n q ≡ true) ⊎ (member n qs ≡ true) → member n qs ≡ true
        go (inl s) = absurd (omega (arith, eqb-true n q s, same, rising_above (suc p) ps r n e))
        go (inr s) = s

    forth : (n : ℕ) → member n xs ≡ true → member n ys ≡ true
    forth n e = behind x y xs ys heads h.1 n e (f n (member-rest n x xs e))

    back : (n : ℕ) → member n ys ≡ true → member n xs ≡ true
    back n e = behind y x ys xs (sym heads) k.1 n e (g n (member-rest n y ys e))
