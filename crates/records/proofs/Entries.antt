-- Headers and items in the code's own words: each layout's fault and its numbers make the entry of its view. Assumes nothing.
use mathlib.Core.Path.{◌≡◌, refl, sym, ◌∙◌}
use mathlib.Core.Bool.{Bool, true, ◌&&◌}
use mathlib.Core.List.{List}
use Prim.Native.Nat.{ℕ, zero, suc, ◌*◌, ◌≤◌, ◌<◌}
use native.Mathlib.Nat.{mul-le-mul}
use native.Mathlib.Omega.{arith}
use borrow.Author.Tests.{eq-eqb, ne_eqb, le-leb, leb-true}
use lib.Dec.{eqb, leb}
use lib.ListN.{length}
use mir.Syntax.{w64}
use mir.Val.{Fits}
use Rattle.format.specs.Basics.{unless, round_up}
use Rattle.format.specs.Reasons.{refusal_number}
use Rattle.format.specs.declared.Reason.{Reason}
use Rattle.format.specs.Layout.{Col, find, number_at, column_fault, header, element, grid_header, net_header}
use Rattle.format.specs.Record.{RecordType, H, E1, E2, E3, E4, E5, E6, E7, E8, G, T, other, type_of, kind_of, count_index, data_of, kind_and_count, element_records, element_rule, grid_states, grid_needs, net_needs, View, header_view, element_view, grid_view, net_view, other_view, view_as, view}
use Rattle.format.proofs.Basics.{and-true}
use Rattle.layout_faults.specs.Faults.{fault_in}
use Rattle.layout_faults.proofs.Laws.{fault_in_record, number-inside}
use Rattle.columns.specs.InRecord.{number_in}
use Rattle.records.specs.Entry.{Entry}
use Rattle.records.specs.declared.Held.{Held}
use Rattle.records.specs.declared.Held.TheVariants.{Nothing, Triangles, Heights}
use Rattle.records.specs.declared.TypeCode.{TypeCode}
use Rattle.records.specs.declared.TypeCode.TheVariants.{Header, Element, Grid, Net, Other}
use Rattle.records.specs.Entry.{to_held, view_fault, refused_entry, entry_in, entry_of}
use Rattle.records.specs.Steps.{code_of, element_type}
use Rattle.columns.proofs.NumberIn.{number_in_below}
use Rattle.records.proofs.Numbers.{stated, one_digit, four-digits, six_digits}
use Rattle.format.proofs.Reasons.{not_zero}
use Rattle.records.proofs.Naturals.{header-level, element_columns, grid_header_columns, net_header_columns}

-- ---- the entry of a view, not_zero and not

view-refused : (v : View) (table : List Col) (l : List ℕ) (reason : Reason) → view_fault v ≡ column_fault table l → length l ≡ 84 → refusal_number reason ≡ fault_in table l → refused_entry (refusal_number reason) ≡ entry_in v
unfolding entry_in
view-refused v table l reason own whole e =
    let p : view_fault v ≡ refusal_number reason = own ∙ sym (fault_in_record table l whole) ∙ sym e in
    rw (p, ne_eqb (refusal_number reason) 0 (not_zero reason))

no_fault : (v : View) (table : List Col) (l : List ℕ) → view_fault v ≡ column_fault table l → length l ≡ 84 → 0 ≡ fault_in table l → view_fault v ≡ 0
no_fault v table l own whole none = own ∙ sym (fault_in_record table l whole) ∙ sym none

module _ (v : View) (kind level records rule : ℕ) (held : Held) where
  view-passed : view_fault v ≡ 0 → kind ≡ count_index v.kind → level ≡ v.level → records ≡ v.data_records → held ≡ to_held v.data_held → rule ≡ v.rule_fault → record { fault = 0; kind = kind; level = level; data_records = records; held = held; rule_fault = rule } ≡ entry_in v
  unfolding entry_in
  view-passed none k a b c d = rw (eq-eqb (view_fault v) 0 none, k, a, b, c, d)

-- ---- headers

module _ (l : List ℕ) (whole : length l ≡ 84) where
  own-header : view_fault (header_view l) ≡ column_fault header l
  unfolding view_fault header_view
  own-header = refl

  pub header_refused : (reason : Reason) → refusal_number reason ≡ fault_in header l → refused_entry (refusal_number reason) ≡ entry_in (header_view l)
  header_refused reason e = view-refused (header_view l) header l reason own-header whole e

  pub header-passed : (level : ℕ) → 0 ≡ fault_in header l → level ≡ number_in l 16 2 → record { fault = 0; kind = 0; level = level; data_records = 0; held = Nothing; rule_fault = 0 } ≡ entry_in (header_view l)
  unfolding header_view find header
  header-passed level none a = view-passed (header_view l) 0 level 0 0 Nothing (no_fault (header_view l) header l own-header whole none) refl (a ∙ stated l whole header "level" 16 2 _ refl refl) refl refl refl

-- ---- elements

-- of a type from E1 to E8: its count, and its view
pub element-facts : (n : ℕ) → 1 ≤ n → n ≤ 8 → (count_index (kind_of (element_type n)) ≡ n) × ((l : List ℕ) → view_as (element_type n) l ≡ element_view (element_type n) l)
unfolding element_type
element-facts zero h k = absurd (omega arith)
element-facts (suc zero) h k = (refl, λ l. refl)
element-facts (suc (suc zero)) h k = (refl, λ l. refl)
element-facts (suc (suc (suc zero))) h k = (refl, λ l. refl)
element-facts (suc (suc (suc (suc zero)))) h k = (refl, λ l. refl)
element-facts (suc (suc (suc (suc (suc zero))))) h k = (refl, λ l. refl)
element-facts (suc (suc (suc (suc (suc (suc zero)))))) h k = (refl, λ l. refl)
element-facts (suc (suc (suc (suc (suc (suc (suc zero))))))) h k = (refl, λ l. refl)
element-facts (suc (suc (suc (suc (suc (suc (suc (suc zero)))))))) h k = (refl, λ l. refl)
element-facts (suc (suc (suc (suc (suc (suc (suc (suc (suc n))))))))) h k = absurd (omega arith)

module _ (l : List ℕ) (whole : length l ≡ 84) (n : ℕ) (least : 1 ≤ n) (most : n ≤ 8) where
  own-element : view_fault (element_view (element_type n) l) ≡ column_fault element l
  unfolding view_fault element_view
  own-element = rw ((element-facts n least most).0, le-leb n 9 (omega arith))

  pub element-refused : (reason : Reason) → refusal_number reason ≡ fault_in element l → refused_entry (refusal_number reason) ≡ entry_in (element_view (element_type n) l)
  element-refused reason e = view-refused (element_view (element_type n) l) element l reason own-element whole e

  module _ (level kind count records needs : ℕ) (allowed : Bool) (held : Held) where
    pub element-passed : 0 ≡ fault_in element l → level ≡ number_in l 16 2 → kind ≡ number_in l 20 1 → count ≡ number_in l 27 4 → records ≡ number_in l 31 4 → allowed ≡ kind_and_count (element_type n) kind count → needs ≡ element_records kind count → held ≡ to_held (data_of kind count) → record { fault = 0; kind = n; level = level; data_records = records; held = held; rule_fault = unless (allowed && eqb records needs) 8 } ≡ entry_in (element_view (element_type n) l)
    unfolding element_view element_rule find element
    element-passed none a b c d p q h =
        let b' : kind ≡ number_at element "data kind" l = b ∙ stated l whole element "data kind" 20 1 _ refl refl in
        let c' : count ≡ number_at element "data count" l = c ∙ stated l whole element "data count" 27 4 _ refl refl in
        let d' : records ≡ number_at element "records" l = d ∙ stated l whole element "records" 31 4 _ refl refl in
        view-passed (element_view (element_type n) l) n level records (unless (allowed && eqb records needs) 8) held
        (no_fault (element_view (element_type n) l) element l own-element whole none)
        (sym (element-facts n least most).0)
        (a ∙ stated l whole element "level" 16 2 _ refl refl)
        d'
        (rw (← b', ← c') h)
        (rw (← b', ← c', ← d', ← p, ← q))

-- ---- grids

module _ (l : List ℕ) (whole : length l ≡ 84) where
  own-grid : view_fault (grid_view l) ≡ column_fault grid_header l
  unfolding view_fault grid_view
  own-grid = refl

  pub grid-refused : (reason : Reason) → refusal_number reason ≡ fault_in grid_header l → refused_entry (refusal_number reason) ≡ entry_in (grid_view l)
  grid-refused reason e = view-refused (grid_view l) grid_header l reason own-grid whole e

  -- repeat is 1 to 9
  module _ (f : ℕ) (e : f ≡ fault_in grid_header l) where
    pub repeats : (repeat : ℕ) → f ≡ 0 → repeat ≡ number_in l 83 1 → 1 ≤ repeat
    unfolding find grid_header
    repeats repeat none a =
        let q : fault_in grid_header l ≡ 0 = sym e ∙ none in
        let h : leb 1 (number_at grid_header "repeat" l) && leb (number_at grid_header "repeat" l) 9 ≡ true = number-inside grid_header "repeat" 83 1 _ refl refl l q refl in
        rw (a ∙ stated l whole grid_header "repeat" 83 1 _ refl refl) (leb-true 1 (number_at grid_header "repeat" l) (and-true (leb 1 (number_at grid_header "repeat" l)) (leb (number_at grid_header "repeat" l) 9) h).0)

  module _ (level rows columns records repeat states needs : ℕ) where
    pub grid-passed : 0 ≡ fault_in grid_header l → level ≡ number_in l 16 2 → rows ≡ number_in l 18 4 → columns ≡ number_in l 22 4 → records ≡ number_in l 26 4 → repeat ≡ number_in l 83 1 → states ≡ grid_states repeat records → needs ≡ round_up (rows * columns) 12 → record { fault = 0; kind = 9; level = level; data_records = states; held = Heights (rows * columns); rule_fault = unless (eqb states needs) 8 } ≡ entry_in (grid_view l)
    unfolding grid_view grid_needs find grid_header
    grid-passed none a b c d g s q =
        let b' : rows ≡ number_at grid_header "rows" l = b ∙ stated l whole grid_header "rows" 18 4 _ refl refl in
        let c' : columns ≡ number_at grid_header "columns" l = c ∙ stated l whole grid_header "columns" 22 4 _ refl refl in
        let d' : records ≡ number_at grid_header "records" l = d ∙ stated l whole grid_header "records" 26 4 _ refl refl in
        let g' : repeat ≡ number_at grid_header "repeat" l = g ∙ stated l whole grid_header "repeat" 83 1 _ refl refl in
        view-passed (grid_view l) 9 level states (unless (eqb states needs) 8) (Heights (rows * columns))
        (no_fault (grid_view l) grid_header l own-grid whole none)
        refl
        (a ∙ stated l whole grid_header "level" 16 2 _ refl refl)
        (rw (← d', ← g') s)
        (rw (← b', ← c'))
        (rw (← b', ← c', ← d', ← g', ← s, ← q))

-- rows times columns, of four digits each
module _ (l : List ℕ) (start start' rows columns : ℕ) (a : rows ≡ number_in l start 4) (b : columns ≡ number_in l start' 4) where
  pub heights-below : rows * columns < 100000000
  heights-below =
      let p : rows ≤ 9999 = omega (arith, number_in_below l start 4) in
      let q : columns ≤ 9999 = omega (arith, number_in_below l start' 4) in
      omega (arith, mul-le-mul p q)

  pub heights-fit : Fits w64 (rows * columns)
  heights-fit = record { fits = omega (arith, heights-below) }

-- ---- nets

module _ (l : List ℕ) (whole : length l ≡ 84) where
  own-net : view_fault (net_view l) ≡ column_fault net_header l
  unfolding view_fault net_view
  own-net = refl

  pub net-refused : (reason : Reason) → refusal_number reason ≡ fault_in net_header l → refused_entry (refusal_number reason) ≡ entry_in (net_view l)
  net-refused reason e = view-refused (net_view l) net_header l reason own-net whole e

  module _ (level triangles records needs : ℕ) where
    pub net-passed : 0 ≡ fault_in net_header l → level ≡ number_in l 16 2 → triangles ≡ number_in l 20 6 → records ≡ number_in l 26 6 → needs ≡ net_needs triangles → record { fault = 0; kind = 9; level = level; data_records = records; held = Triangles triangles; rule_fault = unless (eqb records needs) 8 } ≡ entry_in (net_view l)
    unfolding net_view find net_header
    net-passed none a b c q =
        let b' : triangles ≡ number_at net_header "triangles" l = b ∙ stated l whole net_header "triangles" 20 6 _ refl refl in
        let c' : records ≡ number_at net_header "records" l = c ∙ stated l whole net_header "records" 26 6 _ refl refl in
        view-passed (net_view l) 9 level records (unless (eqb records needs) 8) (Triangles triangles)
        (no_fault (net_view l) net_header l own-net whole none)
        refl
        (a ∙ stated l whole net_header "level" 16 2 _ refl refl)
        c'
        (rw (← b'))
        (rw (← b', ← c', ← q))

-- ---- `entry`: the type decides the view

-- a type's code decides the type
abbrev type_for : TypeCode → RecordType
type_for Header = H
type_for (Element n) = element_type n
type_for Grid = G
type_for Net = T
type_for Other = other

type_for_code : (t : RecordType) → type_for (code_of t) ≡ t
unfolding element_type
type_for_code H = refl
type_for_code E1 = refl
type_for_code E2 = refl
type_for_code E3 = refl
type_for_code E4 = refl
type_for_code E5 = refl
type_for_code E6 = refl
type_for_code E7 = refl
type_for_code E8 = refl
type_for_code G = refl
type_for_code T = refl
type_for_code other = refl

-- the number of an element's code, 1 for others
abbrev number_for : TypeCode → ℕ
number_for Header = 1
number_for (Element n) = n
number_for Grid = 1
number_for Net = 1
number_for Other = 1

number-between : (t : RecordType) → (1 ≤ number_for (code_of t)) × (number_for (code_of t) ≤ 8)
number-between H = (omega arith, omega arith)
number-between E1 = (omega arith, omega arith)
number-between E2 = (omega arith, omega arith)
number-between E3 = (omega arith, omega arith)
number-between E4 = (omega arith, omega arith)
number-between E5 = (omega arith, omega arith)
number-between E6 = (omega arith, omega arith)
number-between E7 = (omega arith, omega arith)
number-between E8 = (omega arith, omega arith)
number-between G = (omega arith, omega arith)
number-between T = (omega arith, omega arith)
number-between other = (omega arith, omega arith)

pub no_entry : (l : List ℕ) → (length l ≡ 84 → ⊥) → refused_entry 4 ≡ entry_of l
unfolding entry_of
no_entry l h = rw (ne_eqb (length l) 84 h)

type_told : (l : List ℕ) (code : TypeCode) → code ≡ code_of (type_of l) → type_of l ≡ type_for code
type_told l code c = sym (type_for_code (type_of l)) ∙ rw (sym c)

module _ (l : List ℕ) (n : ℕ) (c : Element n ≡ code_of (type_of l)) where
  pub element-least : 1 ≤ n
  element-least = rw (sym c) at (number-between (type_of l)).0

  pub element-most : n ≤ 8
  element-most = rw (sym c) at (number-between (type_of l)).1

-- the record as the code has it, of 84 bytes
module _ (l l' : List ℕ) (same : l' ≡ l) (whole : length l ≡ 84) where
  by_type : (r : Entry) (t : RecordType) → type_of l' ≡ t → r ≡ entry_in (view_as t l') → r ≡ entry_of l
  unfolding entry_of view
  by_type r t e q = rw (eq-eqb (length l) 84 whole, ← same, e) q

  module _ (r : Entry) where
    pub is_header_lem : Header ≡ code_of (type_of l') → r ≡ entry_in (header_view l') → r ≡ entry_of l
    is_header_lem g q = by_type r H (type_told l' Header g) q

    pub is_element : (n : ℕ) → Element n ≡ code_of (type_of l') → r ≡ entry_in (element_view (element_type n) l') → r ≡ entry_of l
    is_element n g q = by_type r (element_type n) (type_told l' (Element n) g) (rw ((element-facts n (element-least l' n g) (element-most l' n g)).1 l') q)

    pub is_grid : Grid ≡ code_of (type_of l') → r ≡ entry_in (grid_view l') → r ≡ entry_of l
    is_grid g q = by_type r G (type_told l' Grid g) q

    pub is_net : Net ≡ code_of (type_of l') → r ≡ entry_in (net_view l') → r ≡ entry_of l
    is_net g q = by_type r T (type_told l' Net g) q

  pub is_other : Other ≡ code_of (type_of l') → refused_entry 4 ≡ entry_of l
  unfolding entry_in view_fault other_view
  is_other g = by_type (refused_entry 4) other (type_told l' Other g) refl

-- ---- what each function of the code stands on

pub ruleset header_laws = (header-level, header-passed)

pub ruleset element_laws = (element_columns, element-passed)

pub ruleset grid_laws = (grid_header_columns, one_digit, four-digits, heights-fit, grid-passed)

pub ruleset net_laws = (net_header_columns, six_digits, net-passed)

pub ruleset entry_laws = (no_entry, is_header_lem, is_grid, is_net, is_other)
