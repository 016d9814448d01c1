-- `natural` in the code's own words, and which columns of a record without fault have a number of at least 0. Assumes nothing.
use mathlib.Core.Path.{◌≡◌, refl, sym, ◌∙◌}
use mathlib.Core.List.{List}
use Prim.Native.Nat.{ℕ, ◌+◌, ◌-◌, ◌*◌, ◌^◌, ◌≤◌, ◌<◌}
use native.Mathlib.Nat.{pow-suc, pow-le-pow_right}
use native.Mathlib.Numerals.{add-one}
use native.Mathlib.Omega.{arith}
use lib.IntN.{pos}
use lib.ListN.{length, take, drop, get_or, length-take, length-drop, drop_of_length-le}
use lib.Seq.{drop-cons}
use Rattle.format.specs.declared.Column.TheVariants.{Value}
use Rattle.format.specs.Layout.{column, find, header, element, grid_header, net_header, data_note}
use Rattle.columns.specs.InRecord.{column_at, number_in}
use Rattle.columns.specs.Pass.{number_step, number_from}
use Rattle.columns.proofs.Laws.{column-at-inside}
use Rattle.columns.proofs.NumberAlone.{number-alone}
use Rattle.layout_faults.specs.Faults.{fault_in}
use Rattle.layout_faults.proofs.Laws.{number-at}
use Rattle.records.specs.Steps.{Natural}

-- ---- the loop, in the code's own words

-- two below twice a power of ten: ten times that and 15 more are two below twice the next
pub next_small : (n n' b i : ℕ) → n' ≡ number_step n b → n + 2 ≤ 2 * 10 ^ i → n' + 2 ≤ 2 * 10 ^ (i + 1)
next_small n n' b i e h = rw (e, add-one, pow-suc) (omega arith)

pub small-number : (n i width : ℕ) → n + 2 ≤ 2 * 10 ^ i → i < width → width ≤ 7 → n < 20000000
small-number n i width h k w = omega (arith, pow-le-pow_right {n = 10} (omega arith) {i = i} {j = 7} (omega arith))

-- the number after the bytes from the i-th on, where it is n before them
unfoldable pub number_on : List ℕ → (n i : ℕ) → ℕ
number_on bytes n i = number_from n (drop i bytes)

pub no_byte : (bytes : List ℕ) → number_on bytes 0 0 ≡ number_from 0 bytes
unfolding number_on
no_byte bytes = refl

pub next_byte : (bytes : List ℕ) (n n' i all : ℕ) → n' ≡ number_step n (get_or bytes i 0) → i < length bytes → number_on bytes n i ≡ all → number_on bytes n' (i + 1) ≡ all
unfolding number_on number_from
next_byte bytes n n' i all s k e = rw (s, add-one) (rw (drop-cons bytes i 0 k) at e)

module _ (l : List ℕ) (start width : ℕ) where
  -- the column's bytes, as the code takes them
  abbrev pub taken : List ℕ
  taken = take (start + width - start) (drop start l)

  pub column-taken : length l ≡ 84 → start + width ≤ 84 → length taken ≡ width
  column-taken whole h = omega (arith, length-take (start + width - start) (drop start l), length-drop start l)

  pub all-bytes : (n i : ℕ) → length l ≡ 84 → start + width ≤ 84 → width ≤ 7 → Natural l start width → length taken ≤ i → number_on taken n i ≡ number_from 0 taken → n ≡ number_in l start width
  unfolding number_on number_from column
  all-bytes n i whole h w natural k e =
      let a : start + width - start ≡ width = omega arith in
      (rw (drop_of_length-le taken k, a) at e) ∙ number-alone (take width (drop start l)) (number_in l start width) (sym (column-at-inside l start width (omega arith) (omega arith)) ∙ natural)

-- ---- the columns of a record without fault

pub known : (l : List ℕ) (start width v : ℕ) → column_at l start width ≡ Value (pos v) → Natural l start width
unfolding number_in
known l start width v e = rw e

module _ (l : List ℕ) (none : 0 ≡ fault_in header l) where
  pub header-level : Natural l 16 2
  unfolding find header
  header-level = known l 16 2 _ (number-at header "level" 16 2 _ refl refl l (sym none) refl)

module _ (l : List ℕ) (none : 0 ≡ fault_in element l) where
  pub element-level : Natural l 16 2
  unfolding find element
  element-level = known l 16 2 _ (number-at element "level" 16 2 _ refl refl l (sym none) refl)

  pub element-kind : Natural l 20 1
  unfolding find element
  element-kind = known l 20 1 _ (number-at element "data kind" 20 1 _ refl refl l (sym none) refl)

  pub element-count : Natural l 27 4
  unfolding find element
  element-count = known l 27 4 _ (number-at element "data count" 27 4 _ refl refl l (sym none) refl)

  pub element-records : Natural l 31 4
  unfolding find element
  element-records = known l 31 4 _ (number-at element "records" 31 4 _ refl refl l (sym none) refl)

module _ (l : List ℕ) (none : 0 ≡ fault_in grid_header l) where
  pub grid-level : Natural l 16 2
  unfolding find grid_header
  grid-level = known l 16 2 _ (number-at grid_header "level" 16 2 _ refl refl l (sym none) refl)

  pub grid-rows : Natural l 18 4
  unfolding find grid_header
  grid-rows = known l 18 4 _ (number-at grid_header "rows" 18 4 _ refl refl l (sym none) refl)

  pub grid_columns : Natural l 22 4
  unfolding find grid_header
  grid_columns = known l 22 4 _ (number-at grid_header "columns" 22 4 _ refl refl l (sym none) refl)

  pub grid-records : Natural l 26 4
  unfolding find grid_header
  grid-records = known l 26 4 _ (number-at grid_header "records" 26 4 _ refl refl l (sym none) refl)

  pub grid_repeat : Natural l 83 1
  unfolding find grid_header
  grid_repeat = known l 83 1 _ (number-at grid_header "repeat" 83 1 _ refl refl l (sym none) refl)

module _ (l : List ℕ) (none : 0 ≡ fault_in net_header l) where
  pub net-level : Natural l 16 2
  unfolding find net_header
  net-level = known l 16 2 _ (number-at net_header "level" 16 2 _ refl refl l (sym none) refl)

  pub net-triangles : Natural l 20 6
  unfolding find net_header
  net-triangles = known l 20 6 _ (number-at net_header "triangles" 20 6 _ refl refl l (sym none) refl)

  pub net-records : Natural l 26 6
  unfolding find net_header
  net-records = known l 26 6 _ (number-at net_header "records" 26 6 _ refl refl l (sym none) refl)

module _ (l : List ℕ) (none : 0 ≡ fault_in data_note l) where
  pub note_writing : Natural l 0 1
  unfolding find data_note
  note_writing = known l 0 1 _ (number-at data_note "writing direction" 0 1 _ refl refl l (sym none) refl)

-- those of each layout
pub ruleset element_columns = (element-level, element-kind, element-count, element-records)

pub ruleset grid_header_columns = (grid-level, grid-rows, grid_columns, grid-records, grid_repeat)

pub ruleset net_header_columns = (net-level, net-triangles, net-records)
