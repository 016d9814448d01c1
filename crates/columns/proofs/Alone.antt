-- `read` and `write` in the code's own words. Assumes nothing.
use mathlib.Core.Logic.{◌⊎◌, inl, inr}
use mathlib.Core.Path.{◌≡◌, refl, ap, sym, ◌∙◌}
use mathlib.Core.Bool.{Bool, true, false}
use mathlib.Core.List.{List}
use Rattle.std.specs.Prelude.{Option, Some, None, Result, Ok, Err}
use Prim.Native.Nat.{ℕ, ◌≤◌}
use borrow.Author.Tests.{le-leb}
use lib.IntN.{ℤ}
use lib.ListN.{length}
use mir.Syntax.{w64}
use mir.Val.{SFits, to_z, of_z}
use Rattle.format.specs.declared.Column.{Column}
use Rattle.format.specs.declared.Column.TheVariants.{MinusZero}
use Rattle.format.specs.declared.Reason.TheVariants.{Malformed, Number}
use Rattle.format.specs.declared.Refusal.{Refusal}
use Rattle.format.specs.Reasons.{refusal_for}
use Rattle.format.specs.Column.{width_ok, column_of, column_answer, read_alone, write_alone}
use Rattle.format.specs.Answers.{number_answer, written_answer}
use Rattle.columns.specs.declared.Rest.{Rest}
use Rattle.columns.specs.WriteSteps.{filled, choice_of}
use Rattle.columns.proofs.Choosing.{refusal, allowance, told}

-- ---- `read`

module _ (l : List ℕ) where
  pub wrong_width : (b : Bool) (r : Refusal) → b ≡ width_ok (length l) → b ≡ false → r ≡ refusal_for Number 0 → number_answer (Err r) ≡ read_alone l
  unfolding read_alone number_answer
  wrong_width b r e f g = rw (g, sym e ∙ f)

  pub read_right : 1 ≤ length l → length l ≤ 18 → column_answer (column_of l) ≡ read_alone l
  unfolding read_alone
  read_right k h = simp (le-leb 1 (length l) k, le-leb (length l) 18 h)

  -- what the column says, in the arm c' that was found
  pub is_read : (b : Bool) (c c' : Column) (r : Result ℤ Refusal) → b ≡ width_ok (length l) → b ≡ true → c ≡ column_of l → c ≡ c' → number_answer r ≡ column_answer c' → number_answer r ≡ read_alone l
  unfolding read_alone
  is_read b c c' r e f g h k = k ∙ ap column_answer (sym h ∙ g) ∙ rw (sym e ∙ f)

  pub is_malformed : (b : Bool) (c : Column) (r : Refusal) → b ≡ width_ok (length l) → b ≡ true → c ≡ column_of l → (c ≡ MinusZero) ⊎ (c ≡ Column.Malformed) → r ≡ refusal_for Malformed 0 → number_answer (Err r) ≡ read_alone l
  unfolding number_answer
  is_malformed b c r e f g (inl h) k = is_read b c MinusZero (Err r) e f g h (rw k refl)
  is_malformed b c r e f g (inr h) k = is_read b c Column.Malformed (Err r) e f g h (rw k refl)

-- ---- `write`

module _ (l : List ℕ) (z : ℤ) (c : Option Rest) (f : SFits w64 z) (e : c ≡ choice_of (length l) (to_z w64 (of_z w64 z))) where
  pub not_written : (r : Refusal) → c ≡ None → r ≡ refusal_for Number 0 → record { answer = written_answer (Err r); bytes = l } ≡ write_alone l z
  unfolding write_alone written_answer
  not_written r g h = simp (h, refusal (length l) z (told (length l) z c None f e g))

  pub is_written_lem : (s : Rest) (l' : List ℕ) → c ≡ Some s → l' ≡ filled (length l) s → record { answer = written_answer (Ok (length l)); bytes = l' } ≡ write_alone l z
  unfolding write_alone written_answer
  is_written_lem s l' g h =
      let a = allowance (length l) z s (told (length l) z c (Some s) f e g) in
      simp (a.width_ok_lem, a.number_fits, h, a.form)
