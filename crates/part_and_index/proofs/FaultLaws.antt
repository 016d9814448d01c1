-- The first fault of each judged record, as the code tests it. Assumes nothing.
use Rattle.format.proofs.Reasons.{not_zero}
use mathlib.Core.Path.{◌≡◌, refl, ap, ap₂, sym, ◌∙◌}
use mathlib.Core.Bool.{Bool, true, false, not, ◌&&◌}
use mathlib.Core.List.{List, [], ◌∷◌}
use Prim.Native.Nat.{ℕ, ◌+◌, ◌/◌, ◌≤◌}
use native.Mathlib.Omega.{arith}
use borrow.Author.Tests.{eq-eqb, ne_eqb, eqb-true, eqb-false, not-true, not-false}
use lib.Dec.{eqb}
use lib.IntN.{ℤ}
use lib.ListN.{length, take}
use Rattle.std.specs.Cmp.Lexicographic.{pointwise}
use Rattle.format.specs.Basics.{first, unless}
use Rattle.format.specs.Reasons.{refusal_number}
use Rattle.format.specs.declared.Reason.{Reason}
use Rattle.format.specs.Text.{same, begins, bytes}
use Rattle.format.specs.Column.{column_of, integer, size, number_of}
use Rattle.format.specs.Layout.{Col, find, column, all_formed, all_inside, column_fault, number_at, sheet_a, sheet_b, sheet_c, sheet_d, sheet_e, index_a, index_b}
use Rattle.std.specs.List.{list_all, zip}
use Rattle.format.specs.Corner.{fraction_ok}
use Rattle.format.specs.Sheet.{unit_of, f_count_ok, fractions_ok, stated_elements, stated_records}
use Rattle.format.proofs.Basics.{first-none, first_some}
use Rattle.columns.specs.InRecord.{column_at, number_in}
use Rattle.columns.proofs.Laws.{column-at-inside}
use Rattle.layout_faults.specs.Faults.{fault_in}
use Rattle.layout_faults.proofs.Laws.{fault_in_record}
use Rattle.part_and_index.specs.Steps.{fault_of_sheet_a, fault_of_sheet_b, fault_of_sheet_d, fault_of_sheet_e, fault_of_index_a}

-- ---- the numbers in the columns of a record, as the code reads them
module _ (r : List ℕ) (start width : ℕ) (wide : length r ≡ 84) (inside : start + width ≤ 84) (narrow : width ≤ 18) where
  pub integer-there : integer (column_at r start width) ≡ integer (column_of (column start width r))
  integer-there = ap integer (column-at-inside r start width (omega arith) narrow)

  pub number-there : number_in r start width ≡ number_of (column_of (column start width r))
  unfolding number_in
  number-there = ap size integer-there

module _ (r : List ℕ) (wide : length r ≡ 84) where
  pub level_read : number_in r 30 5 ≡ number_at sheet_a "level" r
  unfolding number_at find sheet_a
  level_read = number-there r 30 5 wide (omega arith) (omega arith)

  pub unit_read : number_in r 44 3 ≡ number_at sheet_b "unit" r
  unfolding number_at find sheet_b
  unit_read = number-there r 44 3 wide (omega arith) (omega arith)

  pub elements_read : number_in r 31 6 ≡ stated_elements r
  unfolding stated_elements number_at find sheet_b
  elements_read = number-there r 31 6 wide (omega arith) (omega arith)

  pub records_read : number_in r 37 7 ≡ stated_records r
  unfolding stated_records number_at find sheet_b
  records_read = number-there r 37 7 wide (omega arith) (omega arith)

-- ---- a fault of the columns, or what is tested behind them
pub columns_first : (table : List Col) (r : List ℕ) → length r ≡ 84 → (n : ℕ) → n ≡ fault_in table r → n ≡ column_fault table r
columns_first table r wide n e = e ∙ fault_in_record table r wide

module _ (table : List Col) (r : List ℕ) (wide : length r ≡ 84) (m : ℕ) where
  pub some-column : (reason : Reason) → refusal_number reason ≡ fault_in table r → refusal_number reason ≡ first (column_fault table r) m
  some-column reason e = rw (sym (columns_first table r wide _ e)) (first_some _ m (not_zero reason))

  pub no_column : 0 ≡ fault_in table r → m ≡ first (column_fault table r) m
  no_column e = rw (sym (columns_first table r wide 0 e)) (first-none 0 m refl)

-- ---- records in which nothing is judged
pub c_unjudged : (r : List ℕ) → column_fault sheet_c r ≡ 0
unfolding column_fault all_formed all_inside sheet_c
c_unjudged r = refl

pub index_b_unjudged : (r : List ℕ) → column_fault index_b r ≡ 0
unfolding column_fault all_formed all_inside index_b
index_b_unjudged r = refl

-- ---- record b
module _ (r : List ℕ) (level : ℕ) (wide : length r ≡ 84) where
  pub b_columns : (reason : Reason) → refusal_number reason ≡ fault_in sheet_b r → refusal_number reason ≡ fault_of_sheet_b level r
  unfolding fault_of_sheet_b
  b_columns reason e = some-column sheet_b r wide _ reason e

  module _ (sound : 0 ≡ fault_in sheet_b r) (k : ℕ) (stated : k ≡ number_in r 44 3) (u : ℕ) (unit : u ≡ unit_of level) where
    b_tested : unless (eqb k u) 6 ≡ fault_of_sheet_b level r
    unfolding fault_of_sheet_b number_at find sheet_b
    b_tested = rw (stated, number-there r 44 3 wide (omega arith) (omega arith), unit) (no_column sheet_b r wide _ sound)

    pub b_unit : k ≡ u → 0 ≡ fault_of_sheet_b level r
    b_unit h = ap (λ (t : Bool). unless t 6) (sym (eq-eqb k u h)) ∙ b_tested

    pub b_other_unit : (k ≡ u → ⊥) → 6 ≡ fault_of_sheet_b level r
    b_other_unit h = ap (λ (t : Bool). unless t 6) (sym (ne_eqb k u h)) ∙ b_tested

-- ---- record d
module _ (r : List ℕ) (wide : length r ≡ 84) where
  pub d_columns : (reason : Reason) → refusal_number reason ≡ fault_in sheet_d r → refusal_number reason ≡ fault_of_sheet_d r
  unfolding fault_of_sheet_d
  d_columns reason e = some-column sheet_d r wide _ reason e

  module _ (sound : 0 ≡ fault_in sheet_d r) (courses : ℕ) (ec : courses ≡ number_in r 8 1) (fs : ℕ) (ef : fs ≡ number_in r 9 1) (t : Bool) (counted : t ≡ f_count_ok courses fs) where
    d_tested : unless t 6 ≡ fault_of_sheet_d r
    unfolding fault_of_sheet_d number_at find sheet_d
    d_tested = rw (counted, ec, ef, number-there r 8 1 wide (omega arith) (omega arith), number-there r 9 1 wide (omega arith) (omega arith)) (no_column sheet_d r wide _ sound)

    pub d-count : not t ≡ false → 0 ≡ fault_of_sheet_d r
    d-count h = ap (λ (t : Bool). unless t 6) (sym (not-false t h)) ∙ d_tested

    pub d-other-count : not t ≡ true → 6 ≡ fault_of_sheet_d r
    d-other-count h = ap (λ (t : Bool). unless t 6) (sym (not-true t h)) ∙ d_tested

-- ---- record e: `fractions_ok` is a chain over the pairs
fractions_all : (unit : ℕ) (ws fs : List ℤ) → list_all (λ (p : ℤ × ℤ). fraction_ok unit p.0 p.1) (zip ws fs) ≡ fractions_ok unit ws fs
fractions_all unit [] fs = refl
fractions_all unit (w ∷ ws) [] = refl
fractions_all unit (w ∷ ws) (f ∷ fs) = ap (λ (t : Bool). fraction_ok unit w f && t) (fractions_all unit ws fs)

module _ (r : List ℕ) (unit : ℕ) (wholes fractions : List ℤ) (wide : length r ≡ 84) where
  pub e_columns : (reason : Reason) → refusal_number reason ≡ fault_in sheet_e r → refusal_number reason ≡ fault_of_sheet_e unit wholes fractions r
  unfolding fault_of_sheet_e
  e_columns reason e = some-column sheet_e r wide _ reason e

  module _ (sound : 0 ≡ fault_in sheet_e r) (t : Bool) (tested : t ≡ list_all (λ (p : ℤ × ℤ). fraction_ok unit p.0 p.1) (zip wholes fractions)) where
    e_tested : unless t 9 ≡ fault_of_sheet_e unit wholes fractions r
    unfolding fault_of_sheet_e
    e_tested = rw (tested, fractions_all unit wholes fractions) (no_column sheet_e r wide _ sound)

    pub e_fractions : not t ≡ false → 0 ≡ fault_of_sheet_e unit wholes fractions r
    e_fractions h = ap (λ (t : Bool). unless t 9) (sym (not-false t h)) ∙ e_tested

    pub e_other_fractions : not t ≡ true → 9 ≡ fault_of_sheet_e unit wholes fractions r
    e_other_fractions h = ap (λ (t : Bool). unless t 9) (sym (not-true t h)) ∙ e_tested

-- ---- the two bytes of a record's type, as the library compares them
same_turned : (k l : List ℕ) → same l k ≡ pointwise eqb k l
same_turned [] [] = refl
same_turned [] (b ∷ l) = refl
same_turned (a ∷ k) [] = refl
same_turned (a ∷ k) (b ∷ l) = ap₂ (λ (s t : Bool). s && t) (turned (eqb a b) refl) (same_turned k l)
  where
    turned : (t : Bool) → eqb a b ≡ t → eqb b a ≡ eqb a b
    turned true e = eq-eqb b a (sym (eqb-true a b e)) ∙ sym e
    turned false e = ne_eqb b a (λ f. eqb-false a b e (sym f)) ∙ sym e

-- ---- record a of a sheet
module _ (r : List ℕ) (t : Bool) (typed : t ≡ pointwise eqb (77 ∷ 32 ∷ []) (take 2 r)) where
  pub a_other_type : not t ≡ true → 2 ≡ fault_of_sheet_a r
  unfolding fault_of_sheet_a begins bytes
  a_other_type h = rw (same_turned (77 ∷ 32 ∷ []) (take 2 r) ∙ sym typed ∙ not-true t h)

  pub a_columns : length r ≡ 84 → not t ≡ false → (n : ℕ) → n ≡ fault_in sheet_a r → n ≡ fault_of_sheet_a r
  unfolding fault_of_sheet_a begins bytes
  a_columns wide h n e = rw (same_turned (77 ∷ 32 ∷ []) (take 2 r) ∙ sym typed ∙ not-false t h) (columns_first sheet_a r wide n e)

-- ---- record a of an index
module _ (r : List ℕ) (t : Bool) (typed : t ≡ pointwise eqb (73 ∷ 32 ∷ []) (take 2 r)) where
  pub index_other_type : not t ≡ true → 2 ≡ fault_of_index_a r
  unfolding fault_of_index_a begins bytes
  index_other_type h = rw (same_turned (73 ∷ 32 ∷ []) (take 2 r) ∙ sym typed ∙ not-true t h)

  module _ (ours : not t ≡ false) (wide : length r ≡ 84) where
    pub index_columns : (reason : Reason) → refusal_number reason ≡ fault_in index_a r → refusal_number reason ≡ fault_of_index_a r
    unfolding fault_of_index_a begins bytes
    index_columns reason e = rw (same_turned (73 ∷ 32 ∷ []) (take 2 r) ∙ sym typed ∙ not-false t ours) (some-column index_a r wide _ reason e)

    module _ (sound : 0 ≡ fault_in index_a r) (bs : ℕ) (eb : bs ≡ number_in r 37 2) (sheets : ℕ) (es : sheets ≡ number_in r 34 3) where
      index_tested : unless (eqb bs ((sheets + 9) / 10)) 6 ≡ fault_of_index_a r
      unfolding fault_of_index_a begins bytes number_at find index_a
      index_tested = rw (same_turned (73 ∷ 32 ∷ []) (take 2 r) ∙ sym typed ∙ not-false t ours, eb, es, number-there r 37 2 wide (omega arith) (omega arith), number-there r 34 3 wide (omega arith) (omega arith)) (no_column index_a r wide _ sound)

      pub index-count : bs ≡ (sheets + 9) / 10 → 0 ≡ fault_of_index_a r
      index-count h = ap (λ (t : Bool). unless t 6) (sym (eq-eqb _ _ h)) ∙ index_tested

      pub index-other-count : (bs ≡ (sheets + 9) / 10 → ⊥) → 6 ≡ fault_of_index_a r
      index-other-count h = ap (λ (t : Bool). unless t 6) (sym (ne_eqb _ _ h)) ∙ index_tested
