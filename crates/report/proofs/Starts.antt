-- The two bytes by which an index is known. Assumes nothing.
use mathlib.Core.Path.{◌≡◌, refl, sym, ◌∙◌}
use mathlib.Core.Bool.{Bool, true, false}
use mathlib.Core.List.{List, [], ◌∷◌}
use Prim.Native.Nat.{ℕ}
use borrow.Author.Tests.{eq-eqb, ne_eqb, eqb-true, eqb-false}
use lib.Dec.{eqb}
use lib.ListN.{take}
use Rattle.std.specs.Cmp.Lexicographic.{pointwise}
use Rattle.format.specs.Text.{bytes, same, begins}

eqb_turned : (a b : ℕ) → eqb a b ≡ eqb b a
eqb_turned a b = go (eqb a b) refl
  where
    go : (t : Bool) → eqb a b ≡ t → eqb a b ≡ eqb b a
    go true e = e ∙ sym (eq-eqb b a (sym (eqb-true a b e)))
    go false e = e ∙ sym (ne_eqb b a (λ f. eqb-false a b e (sym f)))

same_turned : (k l : List ℕ) → pointwise eqb k l ≡ same l k
same_turned [] [] = refl
same_turned [] (b ∷ l) = refl
same_turned (a ∷ k) [] = refl
same_turned (a ∷ k) (b ∷ l) = rw (eqb_turned a b, same_turned k l)

pub begins_index : (l : List ℕ) (starts : Bool) → starts ≡ pointwise eqb (bytes "I ") (take 2 l) → begins "I " l ≡ starts
unfolding begins bytes
begins_index l starts e = sym (e ∙ same_turned (bytes "I ") (take 2 l))
