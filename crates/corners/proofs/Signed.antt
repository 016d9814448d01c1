-- Signed 64-bit numbers: their sizes, and that what is small enough fits. Assumes nothing.
use mathlib.Core.Path.{◌≡◌, refl}
use mathlib.Core.Bool.{Bool, true, false, cond}
use Prim.Native.Nat.{ℕ, zero, suc, ◌+◌, ◌-◌, ◌*◌, ◌/◌, ◌^◌, ◌≤◌, ◌<◌}
use native.Mathlib.Nat.{div-le_self}
use native.Mathlib.Omega.{arith}
use lib.Dec.{ltb}
use lib.IntN.{ℤ, pos, negsuc, neg_ℤ, nat_abs, ◌+ℤ◌, ◌*ℤ◌}
use lib.Signed.{mag, quot_z, rem_z, mag_rem}
use mir.Syntax.{w64}
use mir.Val.{SFits}
use mir.ValLaws.{sfits_le}
use Rattle.format.proofs.Basics.{abs_neg}

-- ---- sizes
mag_le : (z : ℤ) → mag z ≤ nat_abs z
mag_le (pos n) = omega arith
mag_le (negsuc n) = omega arith

pub fits_abs : (z : ℤ) → nat_abs z < 2 ^ 63 → SFits w64 z
fits_abs z h = record { sfits = omega (arith, mag_le z) }

pub abs_mul : (a b : ℤ) → nat_abs (a *ℤ b) ≡ nat_abs a * nat_abs b
abs_mul (pos a) (pos b) = refl
abs_mul (pos a) (negsuc b) = abs_neg (a * suc b)
abs_mul (negsuc a) (pos b) = abs_neg (suc a * b)
abs_mul (negsuc a) (negsuc b) = refl

abs_sub : (a b : ℕ) (t : Bool) → nat_abs (cond t (negsuc (suc b - suc a)) (pos (a - suc b))) ≤ a + suc b
abs_sub a b true = omega arith
abs_sub a b false = omega arith

pub abs_add : (a b : ℤ) → nat_abs (a +ℤ b) ≤ nat_abs a + nat_abs b
abs_add (pos a) (pos b) = omega arith
abs_add (pos a) (negsuc b) = abs_sub a b (ltb a (suc b))
abs_add (negsuc a) (pos b) = omega (arith, abs_sub b a (ltb b (suc a)))
abs_add (negsuc a) (negsuc b) = omega arith

-- ---- division towards zero: quotient and remainder are no larger than the number, the least `i64` too
mag_neg : (r n : ℕ) → r ≤ suc n → mag (neg_ℤ (pos r)) ≤ n
mag_neg zero n h = omega arith
mag_neg (suc r) n h = omega arith

mag_quot : (z : ℤ) (d : ℕ) → mag (quot_z z (pos d)) ≤ mag z
mag_quot (pos n) d = div-le_self n d
mag_quot (negsuc n) d = mag_neg (suc n / d) n (div-le_self (suc n) d)

pub quot_fits : (z : ℤ) (d : ℕ) → SFits w64 z → SFits w64 (quot_z z (pos d))
quot_fits z d f = sfits_le (mag_quot z d) f

pub rem_fits : (z : ℤ) (d : ℕ) → SFits w64 z → SFits w64 (rem_z z (pos d))
rem_fits z d f = sfits_le (mag_rem z (pos d)) f
