-- `choose` in the code's own words: what the tests on width and number come to; and what its answer tells those that call it. Assumes
-- nothing.
use mathlib.Core.Path.{◌≡◌, refl, ap, sym, ◌∙◌}
use Rattle.std.specs.Prelude.{Option, Some, None, nat_lt}
use Rattle.std.specs.Bool.{then_some}
use mathlib.Core.Bool.{Bool, true, false, ◌&&◌}
use Prim.Native.Nat.{ℕ, ◌-◌, ◌^◌, ◌≤◌}
use native.Mathlib.Omega.{arith}
use borrow.Author.Tests.{leb-true}
use lib.Dec.{leb, ltb}
use lib.IntN.{ℤ, pos, nat_abs}
use lib.Signed.{lt_z}
use mir.Syntax.{w64}
use mir.Val.{SFits, to_z, of_z, bool_byte}
use Rattle.format.specs.Column.{fits, written, width_ok}
use Rattle.format.proofs.Basics.{and-true}
use Rattle.format.proofs.Signed.{stored, back}
use Rattle.columns.specs.declared.Rest.{Rest}
use Rattle.columns.specs.declared.Rest.TheVariants.{Digits}
use Rattle.columns.specs.WriteSteps.{filled, choice_of}
use Rattle.columns.proofs.Writing.{room_for, fits-room, filled-written}

-- ---- `choose`

-- no width of a column: b is the test of the width
pub unallowed : (width : ℕ) (z : ℤ) (b : Bool) → b ≡ width_ok width → b ≡ false → None ≡ choice_of width z
unfolding choice_of
unallowed width z b e h = rw (sym e ∙ h)

-- the power of ten that the number must stay below, and whether it does
module _ (width : ℕ) (z : ℤ) (b : Bool) (e : b ≡ width_ok width) (h : b ≡ true) where
  ends : (1 ≤ width) × (width ≤ 18)
  ends = let q = and-true (leb 1 width) (leb width 18) (sym e ∙ h) in (leb-true 1 width q.0, leb-true width 18 q.1)

  pub chosen : choice_of width z ≡ then_some (ltb (nat_abs z) (10 ^ room_for (lt_z z (pos 0)) width)) (Digits (lt_z z (pos 0)) (nat_abs z))
  unfolding choice_of
  chosen = rw (sym e ∙ h, fits-room width z (lt_z z (pos 0)) refl ends.0 ends.1)

  room_is : (m : Bool) → width - bool_byte m ≡ room_for m width
  room_is true = refl
  room_is false = omega arith

  -- k is the minus's byte, n the size of the number, p the power of ten that it must stay below
  pub decided : (n p k : ℕ) (r : Option Rest) → SFits w64 z → k ≡ bool_byte (lt_z (stored z) (pos 0)) → n ≡ nat_abs (stored z) → p ≡ 10 ^ (width - k) → r ≡ then_some (nat_lt n p) (Digits (lt_z (stored z) (pos 0)) n) → r ≡ choice_of width z
  decided n p k r f ek en ep er = rw (er, en, ep, ek, back z f, room_is (lt_z z (pos 0))) (sym chosen)

-- ---- what the choice tells: that width and number are not allowed, or the bytes that the stores leave
pub record Allowed (width : ℕ) (z : ℤ) (s : Rest) : Type 0 where
  pub width_ok_lem : width_ok width ≡ true
  pub number_fits : fits width z ≡ true
  pub form : filled width s ≡ written width z

module _ (width : ℕ) (z : ℤ) where
  pub refusal : None ≡ choice_of width z → width_ok width && fits width z ≡ false
  unfolding choice_of
  refusal = at_test (width_ok width && fits width z)
    where
      at_test : (t : Bool) → None ≡ then_some t (Digits (lt_z z (pos 0)) (nat_abs z)) → t ≡ false
      at_test true e = let x : ◌≡◌ {A = ℕ} 0 1 = cc in absurd (omega arith)
      at_test false e = refl

  pub allowance : (s : Rest) → Some s ≡ choice_of width z → Allowed width z s
  unfolding choice_of
  allowance s = at_test (width_ok width && fits width z) refl
    where
      at_test : (t : Bool) → width_ok width && fits width z ≡ t → Some s ≡ then_some t (Digits (lt_z z (pos 0)) (nat_abs z)) → Allowed width z s
      at_test true p e =
          let a = and-true (width_ok width) (fits width z) p in
          let w = and-true (leb 1 width) (leb width 18) a.0 in
          let d : s ≡ Digits (lt_z z (pos 0)) (nat_abs z) = cc in
          record { width_ok_lem = a.0; number_fits = a.1; form = ap (filled width) d ∙ filled-written width z (leb-true 1 width w.0) (leb-true width 18 w.1) a.1 }
      at_test false p e = let x : ◌≡◌ {A = ℕ} 0 1 = cc in absurd (omega arith)

-- what `choose` answered, of the value itself
pub told : (width : ℕ) (z : ℤ) (c c' : Option Rest) → SFits w64 z → c ≡ choice_of width (to_z w64 (of_z w64 z)) → c ≡ c' → c' ≡ choice_of width z
told width z c c' f e g = sym g ∙ e ∙ ap (choice_of width) (back z f)
