-- `words::table` meets its contract: row by row, computed. Assumes nothing.
use Rattle.std.proofs.Common.{refl, rules}
use Rattle.format.specs.Text.{bytes}
use Rattle.format.specs.Layout.{layouts, nineteen, index_a, index_b, index_c, sheet_a, sheet_b, sheet_c, sheet_d, sheet_e, sheet_f, header, element, grid_header, net_header, data_3d, data_2d, data_note, data_attribute, data_grid, data_net}
use Rattle.format_words.specs.Words.{entry, described_of}
use Rattle.words.proofs.Texts.{outside}
use Rattle.words.proofs.table.Goals as goal

pub returns-in-1 : goal.returns-in-1
unfolding entry layouts bytes described_of index_a
returns-in-1 c = rw c.in-1.is refl

pub returns-in-2 : goal.returns-in-2
unfolding entry layouts bytes described_of index_b
returns-in-2 c = rw c.in-2.is refl

pub returns-in-3 : goal.returns-in-3
unfolding entry layouts bytes described_of index_c
returns-in-3 c = rw c.in-3.is refl

pub returns-in-4 : goal.returns-in-4
unfolding entry layouts bytes described_of sheet_a
returns-in-4 c = rw c.in-4.is refl

pub returns-in-5 : goal.returns-in-5
unfolding entry layouts bytes described_of sheet_b
returns-in-5 c = rw c.in-5.is refl

pub returns-in-6 : goal.returns-in-6
unfolding entry layouts bytes described_of sheet_c
returns-in-6 c = rw c.in-6.is refl

pub returns-in-7 : goal.returns-in-7
unfolding entry layouts bytes described_of sheet_d
returns-in-7 c = rw c.in-7.is refl

pub returns-in-8 : goal.returns-in-8
unfolding entry layouts bytes described_of sheet_e
returns-in-8 c = rw c.in-8.is refl

pub returns-in-9 : goal.returns-in-9
unfolding entry layouts bytes described_of sheet_f
returns-in-9 c = rw c.in-9.is refl

pub returns-in-10 : goal.returns-in-10
unfolding entry layouts bytes described_of header
returns-in-10 c = rw c.in-10.is refl

pub returns-in-11 : goal.returns-in-11
unfolding entry layouts bytes described_of element
returns-in-11 c = rw c.in-11.is refl

pub returns-in-12 : goal.returns-in-12
unfolding entry layouts bytes described_of grid_header
returns-in-12 c = rw c.in-12.is refl

pub returns-in-13 : goal.returns-in-13
unfolding entry layouts bytes described_of net_header
returns-in-13 c = rw c.in-13.is refl

pub returns-in-14 : goal.returns-in-14
unfolding entry layouts bytes described_of data_3d
returns-in-14 c = rw c.in-14.is refl

pub returns-in-15 : goal.returns-in-15
unfolding entry layouts bytes described_of data_2d
returns-in-15 c = rw c.in-15.is refl

pub returns-in-16 : goal.returns-in-16
unfolding entry layouts bytes described_of data_note
returns-in-16 c = rw c.in-16.is refl

pub returns-in-17 : goal.returns-in-17
unfolding entry layouts bytes described_of data_attribute
returns-in-17 c = rw c.in-17.is refl

pub returns-in-18 : goal.returns-in-18
unfolding entry layouts bytes described_of data_grid
returns-in-18 c = rw c.in-18.is refl

pub returns-in-19 : goal.returns-in-19
unfolding entry layouts bytes described_of data_net
returns-in-19 c = rw c.in-19.is refl

pub returns-in_default : goal.returns-in_default
returns-in_default c = rw (outside 19 c.args.layout layouts (search rules) nineteen) (refl, refl)
