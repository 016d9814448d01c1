-- The four columns that an edit rewrites, as columns of the whole buffer. Private functions alone cite these. Assumes nothing.
use Rattle.std.specs.Prelude.{List, ℕ, ◌+◌, ◌*◌, ◌^◌, ◌≤◌, ◌<◌, pos}
use Rattle.format.specs.Column.{written}
use Rattle.format.specs.Layout.{Col, splice, find, header, sheet_b}
use Rattle.format.specs.Record.{count_name}
use Rattle.records.specs.Entry.{count_width}
use Rattle.edit.specs.declared.counts.Change.{Change}

-- the buffer with a number in a column of the record at an index, in written form
abbrev pub put : (index : ℕ) → Col → (number : ℕ) → List ℕ → List ℕ
put index col number bytes = splice (84 * index + col.start) col.width (written col.width (pos number)) bytes

-- "rewrites four columns in written form (total and own kind in the header above, both sheet counts)"
unfoldable pub with_counts : Change → List ℕ → List ℕ
with_counts c bytes =
    put 1 (find "record count" sheet_b) c.stated_records (
    put 1 (find "element count" sheet_b) c.stated_elements (
    put c.header (find (count_name c.kind) header) c.count (
    put c.header (find "total" header) c.total bytes)))

-- the two records stand in a buffer of so many bytes, and the four numbers fit their columns
pub record Fitting (c : Change) (room : ℕ) : Type 0 where
  pub header_in_lem : 84 * c.header + 84 ≤ room
  pub two_in : 168 ≤ room
  pub kind-most : c.kind ≤ 9
  pub total-fits : c.total < 10 ^ (find "total" header).width
  pub count_fits : c.count < 10 ^ count_width c.kind
  pub elements_fit : c.stated_elements < 10 ^ (find "element count" sheet_b).width
  pub records-fit : c.stated_records < 10 ^ (find "record count" sheet_b).width
