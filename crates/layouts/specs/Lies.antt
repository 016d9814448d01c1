-- Every column of a layout that may hold a number lies in a record of 84 bytes and has a width that can be written: of each layout, computed.
-- Assumes nothing.
use Rattle.std.specs.Prelude.{◌≡◌, refl, Bool, true, cond, ◌&&◌, List, [], ◌∷◌, ℕ, ◌+◌, leb}
use Rattle.format.specs.Layout.{What, Col, index_a, index_b, index_c, sheet_a, sheet_b, sheet_c, sheet_d, sheet_e, sheet_f, header, element, grid_header, net_header, data_3d, data_2d, data_note, data_attribute, data_grid, data_net}
use Rattle.layouts.specs.Tables.{tabled, is_numeric}

abbrev pub lies_at : What → (start width : ℕ) → Bool
lies_at what start width = cond (is_numeric what) (leb 1 width && (leb width 18 && leb (start + width) 84)) true

abbrev pub lies : Col → Bool
lies c = lies_at c.what c.start c.width

abbrev pub all_lie : List Col → Bool
all_lie [] = true
all_lie (c ∷ cs) = lies c && all_lie cs

pub lie_index_a : all_lie (tabled index_a) ≡ true
unfolding index_a tabled
lie_index_a = refl

pub lie_index_b : all_lie (tabled index_b) ≡ true
unfolding index_b tabled
lie_index_b = refl

pub lie_index_c : all_lie (tabled index_c) ≡ true
unfolding index_c tabled
lie_index_c = refl

pub lie_sheet_a : all_lie (tabled sheet_a) ≡ true
unfolding sheet_a tabled
lie_sheet_a = refl

pub lie_sheet_b : all_lie (tabled sheet_b) ≡ true
unfolding sheet_b tabled
lie_sheet_b = refl

pub lie_sheet_c : all_lie (tabled sheet_c) ≡ true
unfolding sheet_c tabled
lie_sheet_c = refl

pub lie_sheet_d : all_lie (tabled sheet_d) ≡ true
unfolding sheet_d tabled
lie_sheet_d = refl

pub lie_sheet_e : all_lie (tabled sheet_e) ≡ true
unfolding sheet_e tabled
lie_sheet_e = refl

pub lie_sheet_f : all_lie (tabled sheet_f) ≡ true
unfolding sheet_f tabled
lie_sheet_f = refl

pub lie_header : all_lie (tabled header) ≡ true
unfolding header tabled
lie_header = refl

pub lie_element : all_lie (tabled element) ≡ true
unfolding element tabled
lie_element = refl

pub lie_grid_header : all_lie (tabled grid_header) ≡ true
unfolding grid_header tabled
lie_grid_header = refl

pub lie_net_header : all_lie (tabled net_header) ≡ true
unfolding net_header tabled
lie_net_header = refl

pub lie_data_3d : all_lie (tabled data_3d) ≡ true
unfolding data_3d tabled
lie_data_3d = refl

pub lie_data_2d : all_lie (tabled data_2d) ≡ true
unfolding data_2d tabled
lie_data_2d = refl

pub lie_data_note : all_lie (tabled data_note) ≡ true
unfolding data_note tabled
lie_data_note = refl

pub lie_data_attribute : all_lie (tabled data_attribute) ≡ true
unfolding data_attribute tabled
lie_data_attribute = refl

pub lie_data_grid : all_lie (tabled data_grid) ≡ true
unfolding data_grid tabled
lie_data_grid = refl

pub lie_data_net : all_lie (tabled data_net) ≡ true
unfolding data_net tabled
lie_data_net = refl
