-- Joining: the definition's tests as the code makes them, and that no product or sum leaves the 64 bits. Assumes nothing.
use Rattle.std.specs.Prelude.{Ok, Err}
use mathlib.Core.Path.{◌≡◌, refl, sym, ◌∙◌}
use mathlib.Core.Bool.{Bool, true, false, cond, ◌&&◌, and-eq-true_iff}
use Prim.Native.Nat.{ℕ, ◌*◌, ◌^◌, ◌≤◌, ◌<◌}
use native.Mathlib.Omega.{arith}
use lib.Dec.{eqb}
use lib.IntN.{ℤ, pos, nat_abs, ◌+ℤ◌, ◌*ℤ◌}
use mir.Syntax.{w64}
use mir.Val.{SFits}
use Rattle.format.specs.Basics.{given, refused}
use Rattle.format.specs.Column.{fits}
use Rattle.format.specs.Corner.{is_unit, millimetres_each, fraction_ok, millimetres, join}
use Rattle.format.specs.Answers.{number_answer}
use Rattle.format.specs.declared.Reason.TheVariants as Reason
use Rattle.format.specs.declared.Reason.TheVariants.{Number}
use Rattle.format.specs.declared.Refusal.{Refusal}
use Rattle.format.specs.Reasons.{refusal_for}
use Rattle.format.proofs.ColumnFits.{fits-size}
use Rattle.format.proofs.Signed.{stored, back}
use Rattle.corners.proofs.Signed.{fits_abs, abs_mul, abs_add}

abbrev allowed : ℕ → ℤ → ℤ → Bool
allowed unit w f = is_unit unit && fits 7 w && fits 4 f

-- ---- what goes by the unit
either : (P : ℕ → Type 0) (t : Bool) {a b : ℕ} → P a → P b → P (cond t a b)
either P true p q = p
either P false p q = q

each_small : (unit n : ℕ) → n * millimetres_each unit ≤ n * 10
each_small unit n = either (λ k. n * k ≤ n * 10) (eqb unit 1) (omega arith) (omega arith)

pub each_some : (unit : ℕ) → 0 < millimetres_each unit
each_some unit = either (λ n. 0 < n) (eqb unit 1) (omega arith) (omega arith)

each_fits : (unit : ℕ) → SFits w64 (pos (millimetres_each unit))
each_fits unit = fits_abs (pos (millimetres_each unit)) (omega (arith, each_small unit 1))

pub stored_each : (unit : ℕ) (k : ℤ) → k ≡ pos (millimetres_each unit) → stored k ≡ pos (millimetres_each unit)
stored_each unit k e = rw e (back (pos (millimetres_each unit)) (each_fits unit))

-- ---- the returns of `join`, in order
module _ (unit : ℕ) (w f : ℤ) where
  join_tests : (s t : Bool) → allowed unit w f ≡ s → fraction_ok unit w f ≡ t → join unit w f ≡ cond s (cond t (given (millimetres unit w f)) (refused 9 0)) (refused 16 0)
  unfolding join
  join_tests s t p q = rw (p, q)

  module _ (fw : SFits w64 w) (ff : SFits w64 f) (s : Bool) (es : s ≡ allowed unit (stored w) (stored f)) where
    allowed_is : allowed unit w f ≡ s
    allowed_is = rw (es, back w fw, back f ff)

    pub not_allowed : (r : Refusal) → s ≡ false → r ≡ refusal_for Number 0 → number_answer (Err r) ≡ join unit w f
    unfolding number_answer
    not_allowed r n g = rw g (sym (join_tests false _ (allowed_is ∙ n) refl))

    module _ (ns : s ≡ true) (t : Bool) (et : t ≡ fraction_ok unit (stored w) (stored f)) where
      fraction_is : fraction_ok unit w f ≡ t
      fraction_is = rw (et, back w fw, back f ff)

      pub not_ok : (r : Refusal) → t ≡ false → r ≡ refusal_for Reason.Fraction 0 → number_answer (Err r) ≡ join unit w f
      unfolding number_answer
      not_ok r n g = rw g (sym (join_tests true false (allowed_is ∙ ns) (fraction_is ∙ n)))

      columns : (is_unit unit && fits 7 w ≡ true) × (fits 4 f ≡ true)
      columns = (and-eq-true_iff (is_unit unit && fits 7 w) (fits 4 f)).0 (allowed_is ∙ ns)

      whole-size : nat_abs w < 10 ^ 7
      whole-size = fits-size 6 w (omega arith) ((and-eq-true_iff (is_unit unit) (fits 7 w)).0 columns.0).1

      fraction-size : nat_abs f < 10 ^ 4
      fraction-size = fits-size 3 f (omega arith) columns.1

      pub whole_scaled : SFits w64 (stored w *ℤ pos 1000)
      whole_scaled = rw (back w fw) (fits_abs (w *ℤ pos 1000) (omega (arith, abs_mul w (pos 1000), whole-size)))

      module _ (k : ℤ) (ek : k ≡ pos (millimetres_each unit)) where
        pub fraction_scaled : SFits w64 (stored f *ℤ stored k)
        fraction_scaled = rw (back f ff, stored_each unit k ek) (fits_abs (f *ℤ pos (millimetres_each unit)) (omega (arith, abs_mul f (pos (millimetres_each unit)), each_small unit (nat_abs f), fraction-size)))

        sum_is : stored (stored w *ℤ pos 1000) +ℤ stored (stored f *ℤ stored k) ≡ millimetres unit w f
        unfolding millimetres
        sum_is = rw (back (stored w *ℤ pos 1000) whole_scaled, back (stored f *ℤ stored k) fraction_scaled, back w fw, back f ff, stored_each unit k ek)

        sum-size : SFits w64 (millimetres unit w f)
        unfolding millimetres
        sum-size =
            fits_abs (millimetres unit w f)
            (omega (arith, abs_add (w *ℤ pos 1000) (f *ℤ pos (millimetres_each unit)), abs_mul w (pos 1000), abs_mul f (pos (millimetres_each unit)), each_small unit (nat_abs f), whole-size, fraction-size))

        pub sum_fits : SFits w64 (stored (stored w *ℤ pos 1000) +ℤ stored (stored f *ℤ stored k))
        sum_fits = rw sum_is sum-size

        pub joined : t ≡ true → number_answer (Ok (stored (stored (stored w *ℤ pos 1000) +ℤ stored (stored f *ℤ stored k)))) ≡ join unit w f
        unfolding number_answer
        joined n = rw (sum_is, back (millimetres unit w f) sum-size) (sym (join_tests true true (allowed_is ∙ ns) (fraction_is ∙ n)))
