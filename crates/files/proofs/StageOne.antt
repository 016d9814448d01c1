-- Stage one: that of `Plain` is format's, and the stride's bounds. Assumes nothing.
use mathlib.Core.Path.{◌≡◌, refl}
use mathlib.Core.List.{List}
use Prim.Native.Nat.{ℕ, ◌≤◌}
use native.Mathlib.Omega.{arith}
use Rattle.format.specs.Basics.{stage_one_ok}
use Rattle.files.specs.declared.Stride.{Stride}
use Rattle.files.specs.declared.Stride.TheVariants.{Plain, Lines}
use Rattle.files.specs.Records.{stride_of, length_ok}

pub plain-length : (used : ℕ) (buffer : List ℕ) → length_ok Plain used buffer ≡ stage_one_ok used buffer
unfolding length_ok stride_of
plain-length used buffer = refl

-- ---- `each` is the stride
pub stride_bounds : (stride : Stride) (each : ℕ) → each ≡ stride_of stride → (84 ≤ each) × (each ≤ 86)
unfolding stride_of
stride_bounds Plain each is = (omega arith, omega arith)
stride_bounds Lines each is = (omega arith, omega arith)
