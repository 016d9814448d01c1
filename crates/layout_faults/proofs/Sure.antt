-- Records told at once to be without fault, and `above_zero`, in the code's own words. Assumes nothing.
use mathlib.Core.Path.{◌≡◌, refl, sym, ◌∙◌}
use mathlib.Core.Bool.{Bool, true, false, not, ◌&&◌, and_assoc, and-true}
use mathlib.Core.List.{List}
use Prim.Native.Nat.{ℕ}
use borrow.Author.Tests.{not-false}
use lib.IntN.{ℤ, pos}
use lib.Signed.{le_z}
use mir.Syntax.{w64}
use mir.Val.{SFits, to_z, of_z}
use mir.ValLaws.{to_z-of_z}
use Rattle.format.specs.Column.{integer}
use Rattle.format.specs.Layout.{Col, all_inside, column_fault, index_c, grid_header, net_header}
use Rattle.columns.specs.InRecord.{column_at}
use Rattle.form_records.specs.Sure.{sure}
use Rattle.form_records.proofs.Sound.{asking_more, sure_record, sure-formed, sure-inside}
use Rattle.layouts.specs.Tables.{tabled}
use Rattle.layout_faults.specs.Faults.{fault_in}
use Rattle.layout_faults.specs.Tables.{all_listed}
use Rattle.layout_faults.proofs.Tables.{says}

pub one_above : (l : List ℕ) (start width : ℕ) (z : ℤ) → z ≡ integer (column_at l start width) → SFits w64 z → le_z (pos 1) (to_z w64 (of_z w64 z)) ≡ le_z (pos 1) (integer (column_at l start width))
one_above l start width z e s = rw (to_z-of_z w64 z s, e)

-- a record told at once is without fault where the columns of which more is asked are inside their rules
pub faultless : (layout : List Col) (l : List ℕ) (t : Bool) → t ≡ sure layout l → all_inside (asking_more layout) l ≡ true → t ≡ true → fault_in layout l ≡ 0
unfolding fault_in column_fault
faultless layout l t e a h =
    let s = sym e ∙ h in
    rw (sure_record layout l s, sure-formed layout l s, sure-inside layout l s, a)

module _ (l : List ℕ) (t : Bool) where
  -- and some numbers above 0
  pub grid_header_faultless : (a b c d : Bool) → t ≡ sure grid_header l → not t ≡ false → a ≡ le_z (pos 1) (integer (column_at l 18 4)) → b ≡ le_z (pos 1) (integer (column_at l 22 4)) → c ≡ le_z (pos 1) (integer (column_at l 30 7)) → d ≡ le_z (pos 1) (integer (column_at l 37 7)) → ((a && b) && c) && d ≡ true → fault_in grid_header l ≡ 0
  unfolding grid_header asking_more all_inside
  grid_header_faultless a b c d e n ea eb ec ed h =
      let told = not-false t n in
      let whole = sure_record grid_header l (sym e ∙ told) in
      faultless grid_header l t e
      (rw (← says l whole 18 4 refl refl, ← says l whole 22 4 refl refl, ← says l whole 30 7 refl refl, ← says l whole 37 7 refl refl, ← ea, ← eb, ← ec, ← ed, and-true) (rw (← and_assoc, ← and_assoc) h))
      told

  pub net_header_faultless : (a : Bool) → t ≡ sure net_header l → t ≡ true → a ≡ le_z (pos 1) (integer (column_at l 20 6)) → a ≡ true → fault_in net_header l ≡ 0
  unfolding net_header asking_more all_inside
  net_header_faultless a e told ea h =
      let whole = sure_record net_header l (sym e ∙ told) in
      faultless net_header l t e (rw (← says l whole 20 6 refl refl, ← ea, h)) told

  -- and a number of a list
  pub index_c_faultless : (a : Bool) → t ≡ sure index_c l → t ≡ true → a ≡ all_listed (tabled index_c) l → a ≡ true → fault_in index_c l ≡ 0
  unfolding index_c asking_more all_inside all_listed tabled
  index_c_faultless a e told ea h =
      let whole = sure_record index_c l (sym e ∙ told) in
      faultless index_c l t e (rw (← says l whole 18 1 refl refl) (sym ea ∙ h)) told
