-- Outlines in the code's own words, and what callers cite: an outline is what the view of its record says. Assumes nothing.
use mathlib.Core.Path.{◌≡◌, refl, ap, ap₂, sym, ◌∙◌}
use mathlib.Core.Bool.{Bool, true, false, cond, ◌&&◌, false≢true}
use mathlib.Core.List.{List, [], ◌∷◌}
use Prim.Native.Nat.{ℕ, suc, ◌+◌, ◌-◌, ◌*◌, ◌≤◌}
use native.Mathlib.Omega.{arith}
use borrow.Author.Tests.{eq-eqb, ne_eqb, eqb-true}
use lib.Dec.{leb, eqb}
use lib.IntN.{pos}
use lib.ListN.{length, get_or}
use lib.Seq.{drop-cons}
use Rattle.std.specs.Char.{is_ascii_digit}
use Rattle.format.specs.Column.{strip, is_digit, all_digits, value_of, is_number, positive, signed, column_of, number_of}
use Rattle.format.specs.declared.Column.TheVariants.{Value}
use Rattle.format.proofs.Basics.{and-true}
use Rattle.format.proofs.Columns.{Byte, v_space, v_minus, v_digit, v_other, byte}
use Rattle.format.specs.Layout.{column, find, header, element, grid_header, net_header}
use Rattle.format.specs.Record.{RecordType, H, E1, E2, E3, E4, E5, E6, E7, E8, G, T, other, type_of, is_head, count_index, grid_states, View, header_view, element_view, grid_view, net_view, other_view, view_as, view}
use Rattle.format.specs.Judge.{is_header_at}
use Rattle.columns.specs.InRecord.{column_at, number_in}
use Rattle.columns.proofs.Laws.{column-at-inside}
use Rattle.records.specs.Outline.{Outline}
use Rattle.records.specs.declared.TypeCode.{TypeCode}
use Rattle.records.specs.declared.TypeCode.TheVariants.{Header, Element, Grid, Net, Other}
use Rattle.records.specs.Outline.{outline_in, no_outline, outline_of}
use Rattle.records.specs.Steps.{Natural, code_of, element_type}
use Rattle.records.proofs.Numbers.{stated, one_digit, four-digits}
use Rattle.records.proofs.Naturals.{known}
use Rattle.records.proofs.Entries.{element-facts}
use Rattle.records.proofs.Laws.{head-index, view_data_records_most}

-- ---- `stated_records`: one digit behind three spaces

four_bytes : (l : List ℕ) (start : ℕ) → start + 4 ≤ length l → column start 4 l ≡ get_or l start 0 ∷ get_or l (start + 1) 0 ∷ get_or l (start + 2) 0 ∷ get_or l (start + 3) 0 ∷ []
unfolding column
four_bytes l start h =
    let a : start + 1 ≡ suc start = omega arith in
    let b : start + 2 ≡ suc (suc start) = omega arith in
    let c : start + 3 ≡ suc (suc (suc start)) = omega arith in
    rw (a, b, c, drop-cons l start 0 (omega arith), drop-cons l (suc start) 0 (omega arith), drop-cons l (suc (suc start)) 0 (omega arith), drop-cons l (suc (suc (suc start))) 0 (omega arith))

module _ (l : List ℕ) (whole : length l ≡ 84) (short : Bool) (s : short ≡ (eqb (get_or l 31 0) 32 && eqb (get_or l 32 0) 32) && eqb (get_or l 33 0) 32) where
  -- behind three spaces
  spaced : short ≡ true → column 31 4 l ≡ 32 ∷ 32 ∷ 32 ∷ get_or l 34 0 ∷ []
  spaced e =
      let third = and-true (eqb (get_or l 31 0) 32 && eqb (get_or l 32 0) 32) (eqb (get_or l 33 0) 32) (sym s ∙ e) in
      let both = and-true (eqb (get_or l 31 0) 32) (eqb (get_or l 32 0) 32) third.0 in
      four_bytes l 31 (omega arith) ∙ rw (eqb-true (get_or l 31 0) 32 both.0, eqb-true (get_or l 32 0) 32 both.1, eqb-true (get_or l 33 0) 32 third.1)

  -- a digit is the column's number
  digit-there : short ≡ true → leb 48 (get_or l 34 0) && leb (get_or l 34 0) 57 ≡ true → (d : Byte (get_or l 34 0)) → column_at l 31 4 ≡ Value (pos ((get_or l 34 0 - 48) * 1 + 0))
  unfolding column_of strip signed positive is_number all_digits is_digit value_of
  digit-there e g (v_space x) = absurd (false≢true (rw x at g))
  digit-there e g (v_minus x) = absurd (false≢true (rw x at g))
  digit-there e g (v_digit p q r) = column-at-inside l 31 4 (omega arith) (omega arith) ∙ ap column_of (spaced e) ∙ simp (p, q, r)
  digit-there e g (v_other p q r) = absurd (false≢true (sym r ∙ g))

  pub short-natural : (digit : Bool) → digit ≡ is_ascii_digit (get_or l 34 0) → short && digit ≡ true → Natural l 31 4
  short-natural digit d e =
      let t = and-true short digit e in
      known l 31 4 _ (digit-there t.0 (sym d ∙ t.1) (byte (get_or l 34 0)))

  pub short_zero : short && eqb (get_or l 34 0) 48 ≡ true → 0 ≡ number_in l 31 4
  unfolding number_in column_of strip signed positive is_number all_digits is_digit value_of
  short_zero e =
      let t = and-true short (eqb (get_or l 34 0) 48) e in
      let bytes : column 31 4 l ≡ 32 ∷ 32 ∷ 32 ∷ 48 ∷ [] = spaced t.0 ∙ ap (λ (b : ℕ). 32 ∷ 32 ∷ 32 ∷ b ∷ []) (eqb-true (get_or l 34 0) 48 t.1) in
      sym (ap number_of (column-at-inside l 31 4 (omega arith) (omega arith) ∙ ap column_of bytes))

-- ---- each layout's numbers make the outline of its view

module _ (v : View) (kind level records : ℕ) where
  outlined : kind ≡ count_index v.kind → level ≡ cond (is_head v.kind) v.level 0 → records ≡ v.data_records → record { kind = kind; level = level; data_records = records } ≡ outline_in v
  unfolding outline_in
  outlined k a b = rw (k, a, b)

module _ (l : List ℕ) (whole : length l ≡ 84) where
  pub header_outlined : (level : ℕ) → level ≡ number_in l 16 2 → record { kind = 0; level = level; data_records = 0 } ≡ outline_in (header_view l)
  unfolding header_view find header
  header_outlined level a = outlined (header_view l) 0 level 0 refl (a ∙ stated l whole header "level" 16 2 _ refl refl) refl

  -- an item is no header
  no_level : (v : View) (n : ℕ) → 1 ≤ n → n ≡ count_index v.kind → 0 ≡ cond (is_head v.kind) v.level 0
  no_level v n h q = sym (ap (λ (t : Bool). cond t v.level 0) (head-index v.kind ∙ ap (λ (m : ℕ). eqb m 0) (sym q) ∙ ne_eqb n 0 (λ z. omega arith)))

  pub element_outlined : (records n : ℕ) → 1 ≤ n → n ≤ 8 → records ≡ number_in l 31 4 → record { kind = n; level = 0; data_records = records } ≡ outline_in (element_view (element_type n) l)
  unfolding element_view find element
  element_outlined records n least most b = outlined (element_view (element_type n) l) n 0 records (sym (element-facts n least most).0) (no_level (element_view (element_type n) l) n least (sym (element-facts n least most).0)) (b ∙ stated l whole element "records" 31 4 _ refl refl)

  pub grid_outlined : (records repeat states : ℕ) → records ≡ number_in l 26 4 → repeat ≡ number_in l 83 1 → states ≡ grid_states repeat records → record { kind = 9; level = 0; data_records = states } ≡ outline_in (grid_view l)
  unfolding grid_view find grid_header
  grid_outlined records repeat states b c s =
      outlined (grid_view l) 9 0 states refl
      refl
      (rw (← (b ∙ stated l whole grid_header "records" 26 4 _ refl refl), ← (c ∙ stated l whole grid_header "repeat" 83 1 _ refl refl)) s)

  pub net_outlined : (records : ℕ) → records ≡ number_in l 26 6 → record { kind = 9; level = 0; data_records = records } ≡ outline_in (net_view l)
  unfolding net_view find net_header
  net_outlined records b = outlined (net_view l) 9 0 records refl refl (b ∙ stated l whole net_header "records" 26 6 _ refl refl)

-- ---- `outline`: the type decides the view

abbrev outline_as : TypeCode → List ℕ → Outline
outline_as Header l = outline_in (header_view l)
outline_as (Element n) l = outline_in (element_view (element_type n) l)
outline_as Grid l = outline_in (grid_view l)
outline_as Net l = outline_in (net_view l)
outline_as Other l = no_outline

as_type : (t : RecordType) (l : List ℕ) → outline_as (code_of t) l ≡ outline_in (view_as t l)
unfolding element_type outline_in other_view
as_type H l = refl
as_type E1 l = refl
as_type E2 l = refl
as_type E3 l = refl
as_type E4 l = refl
as_type E5 l = refl
as_type E6 l = refl
as_type E7 l = refl
as_type E8 l = refl
as_type G l = refl
as_type T l = refl
as_type other l = refl

pub no_record : (l : List ℕ) → (length l ≡ 84 → ⊥) → no_outline ≡ outline_of l
unfolding outline_of
no_record l h = rw (ne_eqb (length l) 84 h)

of_view : (l : List ℕ) → length l ≡ 84 → outline_of l ≡ outline_in (view l)
unfolding outline_of
of_view l whole = rw (eq-eqb (length l) 84 whole)

-- the record as the code has it, of 84 bytes
module _ (l l' : List ℕ) (same : l' ≡ l) (whole : length l ≡ 84) where
  by_code : (code : TypeCode) → code ≡ code_of (type_of l') → outline_as code l' ≡ outline_of l
  unfolding view
  by_code code c = ap (λ (k : TypeCode). outline_as k l') c ∙ as_type (type_of l') l' ∙ rw same (sym (of_view l whole))

  module _ (r : Outline) where
    pub is_header_lem : Header ≡ code_of (type_of l') → r ≡ outline_in (header_view l') → r ≡ outline_of l
    is_header_lem g q = q ∙ by_code Header g

    pub is_element : (n : ℕ) → Element n ≡ code_of (type_of l') → r ≡ outline_in (element_view (element_type n) l') → r ≡ outline_of l
    is_element n g q = q ∙ by_code (Element n) g

    pub is_grid : Grid ≡ code_of (type_of l') → r ≡ outline_in (grid_view l') → r ≡ outline_of l
    is_grid g q = q ∙ by_code Grid g

    pub is_net : Net ≡ code_of (type_of l') → r ≡ outline_in (net_view l') → r ≡ outline_of l
    is_net g q = q ∙ by_code Net g

  pub is_other : Other ≡ code_of (type_of l') → no_outline ≡ outline_of l
  is_other g = by_code Other g

pub ruleset short_laws = (short_zero, short-natural)

pub ruleset outline_laws = (no_record, is_header_lem, is_grid, is_net, is_other)

pub ruleset grid_outline_laws = (one_digit, four-digits, grid_outlined)

-- ---- WHAT CALLERS CITE

module _ (l : List ℕ) (whole : length l ≡ 84) where
  fields : outline_of l ≡ record { kind = count_index (view l).kind; level = cond (is_head (view l).kind) (view l).level 0; data_records = (view l).data_records }
  unfolding outline_in
  fields = of_view l whole

  pub outline_kind : (outline_of l).kind ≡ count_index (view l).kind
  outline_kind = ap (λ (x : Outline). x.kind) fields

  pub outline_data_records : (outline_of l).data_records ≡ (view l).data_records
  outline_data_records = ap (λ (x : Outline). x.data_records) fields

  -- a header is of kind 0
  pub outline_head : is_head (view l).kind ≡ eqb (outline_of l).kind 0
  outline_head = head-index (view l).kind ∙ ap (λ (n : ℕ). eqb n 0) (sym outline_kind)

  -- a header of level 1 is one of a layer
  pub outline_layer : is_header_at 1 (view l) ≡ eqb (outline_of l).kind 0 && eqb (outline_of l).level 1
  outline_layer = by (is_head (view l).kind) (view l).level ∙ ap₂ (λ (t : Bool) (n : ℕ). t && eqb n 1) outline_head (sym (ap (λ (x : Outline). x.level) fields))
    where
      by : (t : Bool) (n : ℕ) → t && eqb n 1 ≡ t && eqb (cond t n 0) 1
      by true n = refl
      by false n = refl

  pub outline_data_records_most : (outline_of l).data_records ≤ 999999
  outline_data_records_most = rw outline_data_records (view_data_records_most l whole)
