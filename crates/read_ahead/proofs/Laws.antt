-- What the bytes read of a block add up to is below what must never come. Assumes nothing.
use mathlib.Core.Path.{◌≡◌}
use mathlib.Core.Bool.{true, ◌&&◌}
use Prim.Native.Nat.{ℕ, ◌≤◌}
use native.Mathlib.Omega.{arith}
use lib.Dec.{ltb}
use borrow.Author.Tests.{lt-ltb}

pub below : (sum : ℕ) → sum ≤ 65280 → ltb sum 65281 ≡ true
below sum h = lt-ltb sum 65281 (omega arith)

pub both_below : (first second : ℕ) → first ≤ 65280 → second ≤ 65280 → ltb first 65281 && ltb second 65281 ≡ true
both_below first second h k = rw (below first h, below second k)
