-- Splitting: the division of every `i64` fits, and the pair that the code tries is the definition's. Assumes nothing.
use Rattle.std.specs.Prelude.{Result, Ok, Err}
use Rattle.std.specs.Result.{result_eq}
use Rattle.std.specs.Ordering.{int_eq}
use Rattle.std.proofs.lemmas.Bool.Decides.{Decides-int_eq}
use mathlib.Core.Bool.{Bool, true, false, false≢true}
use mathlib.Core.Path.{◌≡◌, ap, ap₂, sym, ◌∙◌}
use Prim.Native.Nat.{ℕ}
use native.Mathlib.Omega.{arith}
use lib.IntN.{ℤ, pos}
use lib.Signed.{quot_z, rem_z}
use mir.Syntax.{w64}
use mir.Val.{SFits}
use Rattle.format.specs.Basics.{given}
use Rattle.format.specs.Corner.{millimetres_each, join, split}
use Rattle.format.specs.Answers.{number_answer, parts_answer}
use Rattle.format.specs.declared.Reason.TheVariants.{Number}
use Rattle.format.specs.declared.Refusal.{Refusal}
use Rattle.format.specs.Reasons.{refusal_for}
use Rattle.format.proofs.Corners.{whole_of, fraction_of, split_only, split-refuses}
use Rattle.format.proofs.Signed.{stored, back}
use Rattle.corners.proofs.Signed.{quot_fits, rem_fits}
use Rattle.corners.proofs.Joining.{stored_each}

module _ (z : ℤ) (fz : SFits w64 z) where
  whole_is : stored (quot_z (stored z) (pos 1000)) ≡ whole_of z
  whole_is = rw (back z fz) (back (whole_of z) (quot_fits z 1000 fz))

  rest_is : stored (rem_z (stored z) (pos 1000)) ≡ rem_z z (pos 1000)
  rest_is = rw (back z fz) (back (rem_z z (pos 1000)) (rem_fits z 1000 fz))

  module _ (unit : ℕ) (k : ℤ) (ek : k ≡ pos (millimetres_each unit)) where
    fraction-fits : SFits w64 (fraction_of unit z)
    fraction-fits = quot_fits (rem_z z (pos 1000)) (millimetres_each unit) (rem_fits z 1000 fz)

    fraction_is : stored (quot_z (stored (rem_z (stored z) (pos 1000))) (stored k)) ≡ fraction_of unit z
    fraction_is = rw (rest_is, stored_each unit k ek) (back (fraction_of unit z) fraction-fits)

    -- n is what joining the pair answered, and t whether it is the number; q compares refusals, of which none is met
    module _ (n : Result ℤ Refusal) (en : number_answer n ≡ join unit (stored (quot_z (stored z) (pos 1000))) (stored (quot_z (stored (rem_z (stored z) (pos 1000))) (stored k)))) (q : Refusal → Refusal → Bool) (t : Bool) (et : t ≡ result_eq int_eq q n (Ok (stored z))) where
      tried : join unit (whole_of z) (fraction_of unit z) ≡ number_answer n
      tried = sym (ap₂ (join unit) whole_is fraction_is) ∙ sym en

      joined : (n' : Result ℤ Refusal) → result_eq int_eq q n' (Ok (stored z)) ≡ true → n' ≡ Ok z
      joined (Ok y) e = ap Ok ((Decides-int_eq y (stored z)).0 e ∙ back z fz)
      joined (Err r) e = absurd (false≢true e)

      pub pair_joins : t ≡ true → parts_answer (Ok (record { whole = stored (quot_z (stored z) (pos 1000)); fraction = stored (quot_z (stored (rem_z (stored z) (pos 1000))) (stored k)) })) ≡ split unit z
      unfolding number_answer parts_answer
      pair_joins h = rw (whole_is, fraction_is) (sym (split_only unit (whole_of z) (fraction_of unit z) z (tried ∙ ap number_answer (joined n (sym et ∙ h)))))

      not-joined : (n' : Result ℤ Refusal) → result_eq int_eq q n' (Ok (stored z)) ≡ false → number_answer n' ≡ given z → ⊥
      unfolding number_answer
      not-joined (Ok y) e g = let s : y ≡ stored z = cc (back z fz) in false≢true (sym e ∙ (Decides-int_eq y (stored z)).1 s)
      not-joined (Err r) e g = let x : ◌≡◌ {A = ℕ} 0 1 = cc in omega arith

      pub none-joins : (r : Refusal) → t ≡ false → r ≡ refusal_for Number 0 → parts_answer (Err r) ≡ split unit z
      unfolding parts_answer
      none-joins r h e = rw e (sym (split-refuses unit z (λ j. not-joined n (sym et ∙ h) (sym tried ∙ j))))
