-- Every column of these layouts that may hold a number lies in a record of 84 bytes and has a width that can be written: computed. Assumes nothing.
use Rattle.std.proofs.Common.{◌≡◌, true, refl}
use Rattle.format.specs.Layout.{index_a, index_c, sheet_a, sheet_b, sheet_d, sheet_e, sheet_f, header, element, grid_header, net_header, data_note}
use Rattle.layouts.specs.Tables.{tabled}
use Rattle.normal.specs.Rewriting.{all_lie}

pub index_a_lies : all_lie (tabled index_a) ≡ true
unfolding index_a tabled
index_a_lies = refl

pub index_c_lies : all_lie (tabled index_c) ≡ true
unfolding index_c tabled
index_c_lies = refl

pub sheet_a_lies : all_lie (tabled sheet_a) ≡ true
unfolding sheet_a tabled
sheet_a_lies = refl

pub sheet_b_lies : all_lie (tabled sheet_b) ≡ true
unfolding sheet_b tabled
sheet_b_lies = refl

pub sheet_d_lies : all_lie (tabled sheet_d) ≡ true
unfolding sheet_d tabled
sheet_d_lies = refl

pub sheet_e_lies : all_lie (tabled sheet_e) ≡ true
unfolding sheet_e tabled
sheet_e_lies = refl

pub sheet_f_lies : all_lie (tabled sheet_f) ≡ true
unfolding sheet_f tabled
sheet_f_lies = refl

pub header_lies : all_lie (tabled header) ≡ true
unfolding header tabled
header_lies = refl

pub element_lies : all_lie (tabled element) ≡ true
unfolding element tabled
element_lies = refl

pub grid_header_lies : all_lie (tabled grid_header) ≡ true
unfolding grid_header tabled
grid_header_lies = refl

pub net_header_lies : all_lie (tabled net_header) ≡ true
unfolding net_header tabled
net_header_lies = refl

pub data_note_lies : all_lie (tabled data_note) ≡ true
unfolding data_note tabled
data_note_lies = refl

pub ruleset each_lies = (index_a_lies, index_c_lies, sheet_a_lies, sheet_b_lies, sheet_d_lies, sheet_e_lies, sheet_f_lies, header_lies, element_lies, grid_header_lies, net_header_lies, data_note_lies)
