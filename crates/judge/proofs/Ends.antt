-- Where a body ends: what follows may stand a level higher, and counts for no header of the body's level. Assumes nothing.
use mathlib.Core.Path.{◌≡◌, sym, ◌∙◌}
use mathlib.Core.List.{List, ◌∷◌}
use Prim.Native.Nat.{ℕ, ◌-◌, ◌≤◌}
use native.Mathlib.Omega.{arith}
use Rattle.format.specs.Basics.{none}
use Rattle.format.specs.Record.{nothing, Kind, head, item, neither, View}
use Rattle.format.specs.Judge.{fault_at, lowest_level, count_under}
use Rattle.format.proofs.JudgeWalks.{good, good_fault_at, walk-passes}
use Rattle.format.proofs.JudgeSteps.{walk_step, count_under-low}
use Rattle.judge.specs.Walks.{fault_from, entries}

pub from_one : (k : Kind) → 1 ≤ lowest_level k
from_one head = omega arith
from_one (item k) = omega arith
from_one neither = omega arith

module _ (opened i : ℕ) (r : View) (rs : List View) (well : fault_at opened 0 nothing r ≡ 0) where
  pub level-some : 1 ≤ r.level
  level-some = let g = good opened nothing r well in omega (arith, from_one r.kind)

  module _ (shallow : r.level ≤ opened) where
    -- a record that is no deeper than the open level is as well at the level above
    well_above : fault_at (opened - 1) 0 nothing r ≡ 0
    well_above =
        let g = good opened nothing r well in
        let l = level-some in
        good_fault_at (opened - 1) nothing r (record { known = g.known; sound = g.sound; low = g.low; high = g.high; near = omega arith; ruled = g.ruled })

    pub ends_same : fault_from opened i (r ∷ rs) ≡ fault_from (opened - 1) i (r ∷ rs)
    ends_same = walk_step opened 0 nothing 0 i r rs well ∙ sym (walk_step (opened - 1) 0 nothing 0 i r rs well_above)

    pub ends_uncounted : fault_from (opened - 1) i (r ∷ rs) ≡ none → (kind : ℕ) → count_under opened kind (entries (r ∷ rs)) ≡ 0
    ends_uncounted e kind =
        let l = level-some in
        count_under-low opened kind (opened - 1) 0 nothing (r ∷ rs) (omega arith) (walk-passes (opened - 1) 0 nothing 0 i (r ∷ rs) e).0
