-- A signed number of 64 bits through its bits and back, which is how code reads each operand. Assumes nothing.
use mathlib.Core.Path.{◌≡◌, ap, sym, ◌∙◌, subst}
use mathlib.Core.Bool.{Bool}
use lib.IntN.{ℤ, pos}
use lib.Signed.{lt_z}
use mir.Syntax.{w64}
use mir.Val.{SFits, to_z, of_z}
use mir.ValLaws.{to_z-of_z}

-- a number as an `i64` stores it
abbrev pub stored : ℤ → ℤ
stored z = to_z w64 (of_z w64 z)

pub back : (z : ℤ) → SFits w64 z → stored z ≡ z
back z f = to_z-of_z w64 z f

-- numbers that fit are equal where their bits are
pub same_bits : (y z : ℤ) → SFits w64 y → SFits w64 z → of_z w64 y ≡ of_z w64 z → y ≡ z
same_bits y z fy fz e = sym (back y fy) ∙ ap (to_z w64) e ∙ back z fz

-- a test of the sign, as code makes it, and the same of the number
pub tested : (z : ℤ) → SFits w64 z → (b : Bool) → lt_z (stored z) (pos 0) ≡ b → lt_z z (pos 0) ≡ b
tested z f b t = subst (λ (x : ℤ). lt_z x (pos 0) ≡ b) (back z f) t
