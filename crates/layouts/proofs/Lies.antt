-- What a column that may hold a number has when it lies in a record. Assumes nothing.
use mathlib.Core.Path.{◌≡◌}
use mathlib.Core.Bool.{true, ◌&&◌}
use Prim.Native.Nat.{ℕ, ◌+◌, ◌≤◌}
use borrow.Author.Tests.{leb-true}
use lib.Dec.{leb}
use Rattle.format.proofs.Basics.{and-true}
pub use Rattle.layouts.specs.Lies.{lies_at, lies, all_lie, lie_index_a, lie_index_b, lie_index_c, lie_sheet_a, lie_sheet_b, lie_sheet_c, lie_sheet_d, lie_sheet_e, lie_sheet_f, lie_header, lie_element, lie_grid_header, lie_net_header, lie_data_3d, lie_data_2d, lie_data_note, lie_data_attribute, lie_data_grid, lie_data_net}

pub record Lies (start width : ℕ) : Type 0 where
  pub some : 1 ≤ width
  pub most : width ≤ 18
  pub ends : start + width ≤ 84

pub lies_is : (start width : ℕ) → leb 1 width && (leb width 18 && leb (start + width) 84) ≡ true → Lies start width
lies_is start width e =
    let p = and-true (leb 1 width) (leb width 18 && leb (start + width) 84) e in
    let q = and-true (leb width 18) (leb (start + width) 84) p.1 in
    record { some = leb-true 1 width p.0; most = leb-true width 18 q.0; ends = leb-true (start + width) 84 q.1 }
