-- Steps of the code: the test of a block's first record, and the walk over its data records. Private functions alone cite these. Assumes nothing.
use Rattle.std.specs.Prelude.{Bool, not, ◌&&◌, List, ℕ, ◌-◌, eqb, leb, length, drop}
use Rattle.format.specs.Basics.{fine}
use Rattle.format.specs.Record.{Data, View}
use Rattle.format.specs.Judge.{walk}
use Rattle.records.specs.Entry.{Entry}

-- an item in order, of level 2 to 9, with so many data records behind it
unfoldable pub is_item : Entry → (behind : ℕ) → Bool
is_item e behind =
    eqb e.fault 0 && not (eqb e.kind 0) && leb 2 e.level && leb e.level 9 && eqb e.rule_fault 0 && eqb e.data_records behind

-- the walk from the data record at an index, counted from 0, to the last one: all that are left are due
unfoldable pub data_walk : List View → Data → (opened index : ℕ) → Bool
data_walk views held opened index = fine (walk opened (length views - index) held 0 index (drop index views))
