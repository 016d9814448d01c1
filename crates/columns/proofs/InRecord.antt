-- `column_at` and `write_at` in the code's own words. Assumes nothing.
use mathlib.Core.Path.{◌≡◌, ap, sym, ◌∙◌}
use mathlib.Core.Bool.{Bool, true, false, and-false}
use Rattle.std.specs.Prelude.{Option, Some, None}
use mathlib.Core.List.{List, ◌++◌}
use Prim.Native.Nat.{ℕ, ◌+◌, ◌-◌, ◌≤◌, ◌<◌}
use native.Mathlib.Nat.{add-sub_cancel_left}
use native.Mathlib.Omega.{arith}
use borrow.Author.Tests.{lt-leb, leb-true}
use lib.Dec.{leb}
use lib.IntN.{ℤ}
use lib.ListN.{length, take, drop, length-drop}
use lib.Seq.{length-take-le, drop-drop}
use mir.Syntax.{w64}
use mir.Val.{SFits, to_z, of_z}
use Rattle.format.specs.declared.Column.{Column}
use Rattle.format.specs.declared.Column.TheVariants.{Malformed}
use Rattle.format.specs.Column.{column_of, written}
use Rattle.format.specs.Layout.{column, splice}
use Rattle.columns.specs.declared.Rest.{Rest}
use Rattle.columns.specs.WriteSteps.{filled, choice_of}
use Rattle.columns.specs.InRecord.{column_at, write_at}
use Rattle.columns.proofs.Choosing.{refusal, allowance, told}
use Rattle.columns.proofs.Laws.{column-at-inside}

-- ---- `column_at`

module _ (l : List ℕ) (start width : ℕ) where
  pub too_wide : 18 < width → Malformed ≡ column_at l start width
  unfolding column_at
  too_wide h = simp (lt-leb width 18 h)

  -- b is the test that the column is whole inside the record
  module _ (b : Bool) (e : b ≡ leb (start + width) (length l)) where
    pub outside : b ≡ false → Malformed ≡ column_at l start width
    unfolding column_at
    outside h = rw (sym e ∙ h, and-false)

    pub part_read : (c : Column) → c ≡ column_of (take (start + width - start) (drop start l)) → width ≤ 18 → b ≡ true → c ≡ column_at l start width
    unfolding column
    part_read c f h t = f ∙ ap (λ (n : ℕ). column_of (take n (drop start l))) (add-sub_cancel_left start width) ∙ sym (column-at-inside l start width (leb-true (start + width) (length l) (sym e ∙ t)) h)

-- ---- `write_at`

module _ (l : List ℕ) (start width : ℕ) (z : ℤ) (b : Bool) (eb : b ≡ leb (start + width) (length l)) where
  pub no_room : b ≡ false → record { done = false; bytes = l } ≡ write_at l start width z
  unfolding write_at
  no_room h = rw (sym eb ∙ h, and-false)

  part_length : start + width ≤ length l → length (take (start + width - start) (drop start l)) ≡ width
  part_length h = rw (add-sub_cancel_left start width) (length-take-le width (drop start l) (rw (length-drop start l) (omega arith)))

  module _ (c : Option Rest) (f : SFits w64 z) (e : c ≡ choice_of width (to_z w64 (of_z w64 z))) where
    pub not-rewritten : c ≡ None → record { done = false; bytes = l } ≡ write_at l start width z
    unfolding write_at
    not-rewritten g = simp (refusal width z (told width z c None f e g))

    pub is_rewritten : (s : Rest) (part : List ℕ) → c ≡ Some s → part ≡ filled (length (take (start + width - start) (drop start l))) s → b ≡ true → record { done = true; bytes = take start l ++ (part ++ drop (start + width - start) (drop start l)) } ≡ write_at l start width z
    unfolding write_at splice
    is_rewritten s part g h t =
        let room : start + width ≤ length l = leb-true (start + width) (length l) (sym eb ∙ t) in
        let a = allowance width z s (told width z c (Some s) f e g) in
        let p : part ≡ written width z = h ∙ ap (λ (n : ℕ). filled n s) (part_length room) ∙ a.form in
        simp (a.width_ok_lem, a.number_fits, sym eb ∙ t, p, add-sub_cancel_left start width, drop-drop)
