-- What a number that the code reads is, and its bound by its column's width. Assumes nothing.
use mathlib.Core.Path.{◌≡◌, sym}
use mathlib.Core.Bool.{true, ◌&&◌}
use mathlib.Core.List.{List}
use Prim.Native.String.{String}
use Prim.Native.Nat.{ℕ, ◌+◌, ◌<◌}
use lib.Dec.{leb}
use lib.ListN.{length}
use Rattle.format.specs.Layout.{Rule, Col, I, find, number_at}
use Rattle.columns.specs.InRecord.{number_in}
use Rattle.columns.proofs.NumberIn.{number_in_below}
use Rattle.layout_faults.proofs.Laws.{number_is}

-- the number at a column's place is the number of its name
pub stated : (l : List ℕ) → length l ≡ 84 → (table : List Col) (name : String) (start width : ℕ) (rule : Rule) → find name table ≡ I name start width rule → leb width 18 && leb (start + width) 84 ≡ true → number_in l start width ≡ number_at table name l
unfolding number_in
stated l whole table name start width rule named room = sym (number_is table name start width rule named room l whole)

-- a number that was read, by its column's width
module _ (l : List ℕ) (start n : ℕ) where
  pub one_digit : n ≡ number_in l start 1 → n < 10
  one_digit e = rw e (number_in_below l start 1)

  pub four-digits : n ≡ number_in l start 4 → n < 10000
  four-digits e = rw e (number_in_below l start 4)

  pub six_digits : n ≡ number_in l start 6 → n < 1000000
  six_digits e = rw e (number_in_below l start 6)
