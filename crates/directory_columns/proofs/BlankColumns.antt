-- Spaces in the columns of a record, eight at a time, in the code's own words. Assumes nothing.
use mathlib.Core.Path.{◌≡◌, refl, ap, ap₂, sym, ◌∙◌}
use mathlib.Core.Bool.{Bool, true, false, ◌&&◌, and_assoc, and-eq-true_iff}
use mathlib.Core.List.{List, [], ◌∷◌, ◌++◌}
use Prim.Native.Nat.{ℕ, zero, suc, ◌+◌, ◌*◌, ◌≤◌, ◌<◌}
use native.Mathlib.Omega.{arith}
use borrow.Author.Tests.{le-leb, eq-eqb, ne_eqb}
use lib.Dec.{eqb}
use lib.ListN.{length, drop, take, replicate, length-drop, length-replicate, take-append-drop, drop_of_length-le}
use lib.Seq.{drop-drop, take_all}
use Rattle.format.specs.Text.{same}
use Rattle.format.specs.Layout.{column, spaces}
use Rattle.format.proofs.Basics.{true_and}
use Rattle.format.proofs.Columns.{length-column}
use Rattle.columns.specs.InRecord.{spaces_at}
use Rattle.directory_columns.specs.PackedColumns.{packed, Packs}
use Rattle.directory_columns.specs.Numbers.{spaces_from}
use Rattle.directory_columns.proofs.PackedColumns.{packed-same, spaces-small}

spaces_both : (a b : List ℕ) → spaces (a ++ b) ≡ spaces a && spaces b
spaces_both [] b = refl
spaces_both (x ∷ a) b = ap (λ (t : Bool). eqb x 32 && t) (spaces_both a b) ∙ sym (and_assoc (eqb x 32) (spaces a) (spaces b))

spaces-same : (l : List ℕ) → spaces l ≡ same l (replicate (length l) 32)
spaces-same [] = refl
spaces-same (b ∷ l) = ap (λ (t : Bool). eqb b 32 && t) (spaces-same l)

spaces-packed : (l : List ℕ) (n p : ℕ) → length l ≡ n → Packs l p → eqb p (packed (replicate n 32)) ≡ spaces l
spaces-packed l n p long c = ap (λ (q : ℕ). eqb q (packed (replicate n 32))) c.is ∙ sym (spaces-same l ∙ ap (λ (k : ℕ). same l (replicate k 32)) long ∙ packed-same l (replicate n 32) (long ∙ sym (length-replicate n 32)) c.small (spaces-small n))

-- some bytes, and those behind them
in_two : (r : List ℕ) (start width : ℕ) → spaces (drop start r) ≡ spaces (column start width r) && spaces (drop (start + width) r)
unfolding column
in_two r start width = ap spaces (sym (take-append-drop width (drop start r))) ∙ spaces_both (take width (drop start r)) (drop width (drop start r)) ∙ ap (λ (l : List ℕ). spaces (take width (drop start r)) && spaces l) (drop-drop width start r)

-- all but the last of them
spaces-front : (n : ℕ) (l : List ℕ) → spaces (take (suc n) l) ≡ true → spaces (take n l) ≡ true
spaces-front zero l h = refl
spaces-front (suc n) [] h = refl
spaces-front (suc n) (b ∷ l) h =
    let both = (and-eq-true_iff (eqb b 32) (spaces (take (suc n) l))).0 h in
    true_and (eqb b 32) (spaces (take n l)) both.0 (spaces-front n l both.1)

-- ---- `spaces_from`: so many columns of a record are looked at
pub record Clear (r : List ℕ) (k i : ℕ) : Type 0 where
  pub long : length r ≡ 84
  pub within : i ≤ 11
  pub rest : spaces_from r k ≡ spaces (drop (2 + 7 * i) r)

module _ (r : List ℕ) (k : ℕ) where
  pub short_record : (length r ≡ 84 → ⊥) → false ≡ spaces_from r k
  unfolding spaces_from
  short_record h = rw (ne_eqb (length r) 84 h)

  module _ (long : length r ≡ 84) where
    pub behind-all : 11 < k → true ≡ spaces_from r k
    unfolding spaces_from
    behind-all h = rw (eq-eqb (length r) 84 long) (sym (ap spaces (drop_of_length-le r {i = 2 + 7 * k} (omega arith))))

    pub none_looked : k ≤ 11 → Clear r k k
    unfolding spaces_from
    none_looked h = record { long = long; within = h; rest = rw (eq-eqb (length r) 84 long) }

  pub column-inside : (i : ℕ) → Clear r k i → i < 11 → 2 + 7 * i + 8 ≤ length r
  column-inside i g more = omega (arith, g.long)

  module _ (i : ℕ) (g : Clear r k i) where
    module _ (p : ℕ) (more : i < 11) (c : Packs (column (2 + 7 * i) 8 r) p) where
      eight_blank : eqb p 2314885530818453536 ≡ spaces (column (2 + 7 * i) 8 r)
      unfolding packed
      eight_blank = spaces-packed (column (2 + 7 * i) 8 r) 8 p (length-column (2 + 7 * i) 8 r (omega (arith, g.long))) c

      pub column-used : (p ≡ 2314885530818453536 → ⊥) → false ≡ spaces_from r k
      column-used ne = sym (g.rest ∙ in_two r (2 + 7 * i) 8 ∙ ap (λ (t : Bool). t && spaces (drop (2 + 7 * i + 8) r)) (sym eight_blank ∙ ne_eqb p 2314885530818453536 ne))

      seven-blank : p ≡ 2314885530818453536 → spaces (column (2 + 7 * i) 7 r) ≡ true
      unfolding column
      seven-blank e = spaces-front 7 (drop (2 + 7 * i) r) (sym eight_blank ∙ eq-eqb p 2314885530818453536 e)

      pub next-column : p ≡ 2314885530818453536 → Clear r k (i + 1)
      next-column e = record { long = g.long; within = omega arith; rest = g.rest ∙ in_two r (2 + 7 * i) 7 ∙ ap₂ (λ (t : Bool) (n : ℕ). t && spaces (drop n r)) (seven-blank e) (let q : 2 + 7 * i + 7 ≡ 2 + 7 * (i + 1) = omega arith in q) }

    -- the bytes behind the last column
    pub five-last : (t : Bool) → 11 ≤ i → t ≡ spaces_at r 79 5 → t ≡ spaces_from r k
    unfolding spaces_at column
    five-last t end e = e ∙ rw (le-leb 84 (length r) (omega (arith, g.long))) (ap spaces (take_all 5 (drop 79 r) (rw (length-drop 79 r) (omega (arith, g.long))))) ∙ sym (g.rest ∙ ap (λ (j : ℕ). spaces (drop (2 + 7 * j) r)) (let q : i ≡ 11 = omega (arith, g.within) in q))
