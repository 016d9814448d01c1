-- What 5 and 6 ask of a layout's columns they ask of those in its tables. Assumes nothing.
use mathlib.Core.Path.{◌≡◌, refl}
use mathlib.Core.Bool.{Bool, true, cond, ◌&&◌}
use mathlib.Core.List.{List, [], ◌∷◌}
use Prim.Native.Nat.{ℕ}
use Rattle.format.specs.Layout.{What, text, blank, integral, integral_or_spaces, Col, is_formed, is_inside, bytes_of, all_formed, all_inside}
use Rattle.layouts.specs.Tables.{is_tabled, tabled}

-- a test of each column, passed by any text, and the fold of it
module _ (r : List ℕ) (test : What → List ℕ → Bool) (all : List Col → Bool) (passed : (bs : List ℕ) → test text bs ≡ true) (none : all [] ≡ true) (one : (c : Col) (cs : List Col) → all (c ∷ cs) ≡ test c.what (bytes_of c r) && all cs) where
  all-tabled : (l : List Col) → all l ≡ all (tabled l)
  unfolding tabled
  all-tabled [] = refl
  all-tabled (c ∷ cs) = rw (one c cs, all-tabled cs) (go c.what refl)
    where
      go : (w : What) → c.what ≡ w → test w (bytes_of c r) && all (tabled cs) ≡ all (cond (is_tabled w) (c ∷ tabled cs) (tabled cs))
      go text e = rw (passed (bytes_of c r))
      go blank e = rw (one c (tabled cs), e)
      go (integral rule) e = rw (one c (tabled cs), e)
      go integral_or_spaces e = rw (one c (tabled cs), e)

module _ (r : List ℕ) where
  pub formed-tabled : (l : List Col) → all_formed l r ≡ all_formed (tabled l) r
  unfolding all_formed
  formed-tabled = all-tabled r is_formed (λ (l : List Col). all_formed l r) (λ bs. refl) refl (λ c cs. refl)

  pub inside-tabled : (l : List Col) → all_inside l r ≡ all_inside (tabled l) r
  unfolding all_inside
  inside-tabled = all-tabled r is_inside (λ (l : List Col). all_inside l r) (λ bs. refl) refl (λ c cs. refl)
