-- `is_filled` and `is_written_at` in the code's own words, and what callers cite of them. Assumes nothing.
use mathlib.Core.Path.{◌≡◌, refl, ap, ap₂, sym, ◌∙◌}
use mathlib.Core.Bool.{Bool, true, false, ◌&&◌, and_assoc, and-true, and-false}
use Rattle.std.specs.Prelude.{Option, Some, None}
use mathlib.Core.List.{List, [], ◌∷◌, ◌++◌}
use Prim.Native.Nat.{ℕ, zero, suc, ◌+◌, ◌-◌, ◌≤◌, ◌<◌}
use native.Mathlib.Nat.{add-sub_cancel_left, not-suc-le-zero}
use native.Mathlib.Omega.{arith}
use borrow.Author.Tests.{leb-true}
use lib.Dec.{eqb, leb}
use lib.IntN.{ℤ}
use lib.ListN.{length, length-append, take, drop, get_or, length-drop}
use lib.Seq.{length-take-le, take-suc}
use mir.Syntax.{w64}
use mir.Val.{SFits, to_z, of_z}
use Rattle.format.specs.Text.{same}
use Rattle.format.specs.Layout.{column}
use Rattle.columns.specs.declared.Rest.{Rest}
use Rattle.columns.specs.WriteSteps.{byte_of, before_of, filled, choice_of}
use Rattle.columns.specs.InRecord.{is_written_at}
use Rattle.columns.proofs.Choosing.{refusal, allowance, told}

-- ---- `is_filled`
same-last : (a b : List ℕ) (x y : ℕ) → length a ≡ length b → same (a ++ (x ∷ [])) (b ++ (y ∷ [])) ≡ same a b && eqb x y
same-last [] [] x y e = and-true (eqb x y)
same-last [] (c ∷ b) x y e = absurd (omega arith)
same-last (c ∷ a) [] x y e = absurd (omega arith)
same-last (c ∷ a) (d ∷ b) x y e = ap (λ (t : Bool). eqb c d && t) (same-last a b x y (omega arith)) ∙ sym (and_assoc (eqb c d) (same a b) (eqb x y))

length-filled : (w : ℕ) (s : Rest) → length (filled w s) ≡ w
unfolding filled
length-filled zero s = refl
length-filled (suc w) s = length-append (filled w (before_of s)) (byte_of s ∷ []) ∙ (omega (arith, length-filled w (before_of s)))

module _ (l : List ℕ) (s : Rest) where
  one_less : (j : ℕ) → suc j ≤ length l → same (take (suc j) l) (filled (suc j) s) ≡ same (take j l) (filled j (before_of s)) && eqb (get_or l j 0) (byte_of s)
  unfolding filled
  one_less j h = ap (λ (x : List ℕ). same x (filled j (before_of s) ++ (byte_of s ∷ []))) (take-suc l j 0 h) ∙ same-last (take j l) (filled j (before_of s)) (get_or l j 0) (byte_of s) (length-take-le j l (omega arith) ∙ sym (length-filled j (before_of s)))

  swapped : (a b c : Bool) → a && (b && c) ≡ (a && c) && b
  swapped true true true = refl
  swapped true true false = refl
  swapped true false true = refl
  swapped true false false = refl
  swapped false b c = refl

  pub one_compared : (i b : ℕ) (s' : Rest) (equal whole : Bool) → 0 < i → i ≤ length l → b ≡ byte_of s → s' ≡ before_of s → equal && same (take i l) (filled i s) ≡ whole → (equal && eqb (get_or l (i - 1) 0) b) && same (take (i - 1) l) (filled (i - 1) s') ≡ whole
  one_compared zero b s' equal whole h k e f g = absurd (not-suc-le-zero h)
  one_compared (suc j) b s' equal whole h k e f g =
      let i : suc j - 1 ≡ j = omega arith in
      rw (e, f, i) (sym (swapped equal (same (take j l) (filled j (before_of s))) (eqb (get_or l j 0) (byte_of s))) ∙ ap (λ (t : Bool). equal && t) (sym (one_less j k)) ∙ g)

  pub all_compared : (i : ℕ) (equal whole : Bool) → i ≤ 0 → equal && same (take i l) (filled i s) ≡ whole → equal ≡ whole
  unfolding filled
  all_compared zero equal whole h e = sym (and-true equal) ∙ e
  all_compared (suc i) equal whole h e = absurd (not-suc-le-zero h)

-- ---- `is_written_at`
module _ (l : List ℕ) (start width : ℕ) (z : ℤ) (b : Bool) (eb : b ≡ leb (start + width) (length l)) where
  pub not_inside : b ≡ false → false ≡ is_written_at l start width z
  unfolding is_written_at
  not_inside h = rw (sym eb ∙ h, and-false)

  part_length : start + width ≤ length l → length (take (start + width - start) (drop start l)) ≡ width
  part_length h = rw (add-sub_cancel_left start width) (length-take-le width (drop start l) (rw (length-drop start l) (omega arith)))

  module _ (c : Option Rest) (f : SFits w64 z) (e : c ≡ choice_of width (to_z w64 (of_z w64 z))) where
    pub not_allowed : c ≡ None → false ≡ is_written_at l start width z
    unfolding is_written_at
    not_allowed g = simp (refusal width z (told width z c None f e g))

    pub is_compared : (s : Rest) (t : Bool) → c ≡ Some s → t ≡ same (take (start + width - start) (drop start l)) (filled (length (take (start + width - start) (drop start l))) s) → b ≡ true → t ≡ is_written_at l start width z
    unfolding is_written_at column
    is_compared s t g h j =
        let room : start + width ≤ length l = leb-true (start + width) (length l) (sym eb ∙ j) in
        let a = allowance width z s (told width z c (Some s) f e g) in
        h ∙ ap₂ same (ap (λ (n : ℕ). take n (drop start l)) (add-sub_cancel_left start width)) (ap (λ (n : ℕ). filled n s) (part_length room) ∙ a.form) ∙ simp (a.width_ok_lem, a.number_fits, sym eb ∙ j)
