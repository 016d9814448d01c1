-- The letters of a layout's bytes, and the layouts that have letters for every byte. Assumes nothing.
use Rattle.std.specs.Prelude.{◌≡◌, refl, Bool, true, ◌&&◌, List, [], ◌∷◌, ◌++◌, ℕ, ◌+◌, eqb, leb}
use Rattle.format.specs.Layout.{Col, index_c, sheet_b, sheet_e, sheet_f, header, element, grid_header, net_header, data_note}
use Rattle.form_bytes.specs.Letters.{letters_for}
use Rattle.form_bytes.specs.Told.{has_letters}

unfoldable pub letters_of : List Col → List ℕ
letters_of [] = []
letters_of (c ∷ cs) = letters_for c.what c.width ++ letters_of cs

-- every column has a byte and letters of its own, and starts where the one before it ends; the last ends at 84
abbrev pub laid_out : ℕ → List Col → Bool
laid_out at [] = eqb at 84
laid_out at (c ∷ cs) = eqb c.start at && ((leb 1 c.width && has_letters c.what c.width) && laid_out (at + c.width) cs)

pub laid_index_c : laid_out 0 index_c ≡ true
unfolding index_c
laid_index_c = refl

pub laid_sheet_b : laid_out 0 sheet_b ≡ true
unfolding sheet_b
laid_sheet_b = refl

pub laid_sheet_e : laid_out 0 sheet_e ≡ true
unfolding sheet_e
laid_sheet_e = refl

pub laid_sheet_f : laid_out 0 sheet_f ≡ true
unfolding sheet_f
laid_sheet_f = refl

pub laid_header : laid_out 0 header ≡ true
unfolding header
laid_header = refl

pub laid_element : laid_out 0 element ≡ true
unfolding element
laid_element = refl

pub laid_grid_header : laid_out 0 grid_header ≡ true
unfolding grid_header
laid_grid_header = refl

pub laid_net_header : laid_out 0 net_header ≡ true
unfolding net_header
laid_net_header = refl

pub laid_data_note : laid_out 0 data_note ≡ true
unfolding data_note
laid_data_note = refl
