-- The refusals by numbers, in the code's own words. Assumes nothing.
use mathlib.Core.Path.{◌≡◌, ap, sym, ◌∙◌}
use mathlib.Core.Bool.{Bool, true, false, not, ◌&&◌}
use Prim.Native.Nat.{ℕ, suc, ◌-◌, ◌≤◌, ◌<◌}
use native.Mathlib.Omega.{arith}
use borrow.Author.Tests.{le-leb, lt-leb, not-true, not-false}
use lib.Dec.{leb}
use Rattle.format.specs.Basics.{unless}
use Rattle.format.specs.Edit.{has_room}
use Rattle.format.proofs.Basics.{leb_same}
use Rattle.edit.specs.declared.plans.Above.{Above}
use Rattle.edit.specs.Plans.{nests_in, room_fault}

-- `check_level`
module _ (opened level next : ℕ) (low : 1 ≤ level) where
  pub nests_is : leb (level - 1) opened && leb next level ≡ nests_in opened level next
  unfolding nests_in
  nests_is = ap (λ (t : Bool). t && leb next level) (leb_same (level - 1) opened level (suc opened) (λ h. omega (arith, h)) (λ h. omega (arith, h)))

  pub nests : leb (level - 1) opened && leb next level ≡ true → 0 ≡ unless (nests_in opened level next) 13
  nests e = ap (λ (t : Bool). unless t 13) (sym e ∙ nests_is)

  pub nests-not : leb (level - 1) opened && leb next level ≡ false → 13 ≡ unless (nests_in opened level next) 13
  nests-not e = ap (λ (t : Bool). unless t 13) (sym e ∙ nests_is)

-- `check_room`
module _ (above : Above) (kind records limit free length : ℕ) (flag : Bool) (flag_is : flag ≡ has_room above.total kind above.count records limit) where
  pub no_room : not flag ≡ true → 14 ≡ room_fault above kind records limit free length
  unfolding room_fault
  no_room h = sym (rw (← flag_is, not-true flag h))

  pub too_short : not flag ≡ false → free < length → 15 ≡ room_fault above kind records limit free length
  unfolding room_fault
  too_short h k = sym (rw (← flag_is, not-false flag h, lt-leb length free k))

  pub roomy : not flag ≡ false → length ≤ free → 0 ≡ room_fault above kind records limit free length
  unfolding room_fault
  roomy h k = sym (rw (← flag_is, not-false flag h, le-leb length free k))
