-- What callers cite: what an entry says of the view of its record, the bounds of its numbers, and what the calls answer in the words of judging.
-- Assumes nothing.
use mathlib.Core.Path.{◌≡◌, refl, ap, sym, ◌∙◌}
use mathlib.Core.Bool.{Bool, true, false, cond, ◌&&◌, false≢true}
use mathlib.Core.List.{List}
use Prim.Native.Nat.{ℕ, zero, suc, ◌≤◌, ◌<◌}
use native.Mathlib.Omega.{arith}
use borrow.Author.Tests.{eq-eqb, ne_eqb, eqb-true, leb-true}
use lib.Dec.{leb, eqb}
use lib.ListN.{length, get_or}
use Rattle.format.specs.Basics.{first, unless}
use Rattle.format.specs.Layout.{find, number_at, header, element, grid_header, net_header}
use Rattle.format.specs.Record.{RecordType, H, E1, E2, E3, E4, E5, E6, E7, E8, G, T, other, type_of, Kind, head, item, neither, is_head, count_index, Data, nothing, points_3d, points_2d, triangles, heights, notes, attributes, grid_states, View, count_in, as_data, header_view, element_view, grid_view, net_view, other_view, view_as, view}
use Rattle.format.specs.Judge.{level_ok, fault_at, count_under, sum, all, count_agrees, counts_agree}
use Rattle.format.proofs.Basics.{first_zero, unless_zero}
use Rattle.layout_faults.proofs.Laws.{number_small}
use Rattle.records.specs.Entry.{Entry}
use Rattle.records.specs.declared.Held.{Held}
use Rattle.records.specs.Entry.{to_data, to_held, view_fault, refused_entry, entry_in, entry_of, data_fault_of, states_count, states_counts}

-- ---- an entry without a fault has what the view says

pub held_data : (d : Data) → to_data (to_held d) ≡ d
held_data nothing = refl
held_data (points_3d count) = refl
held_data (points_2d count) = refl
held_data (triangles count) = refl
held_data (heights count) = refl
held_data notes = refl
held_data attributes = refl

pub head-index : (k : Kind) → is_head k ≡ eqb (count_index k) 0
head-index head = refl
head-index (item k) = sym (ne_eqb (suc k) 0 (λ (e : suc k ≡ 0). omega arith))
head-index neither = sym (ne_eqb 10 0 (λ (e : 10 ≡ 0). omega arith))

fault_in_lem : (v : View) → (entry_in v).fault ≡ view_fault v
unfolding entry_in
fault_in_lem v = picked (eqb (view_fault v) 0) refl (record { fault = 0; kind = count_index v.kind; level = v.level; data_records = v.data_records; held = to_held v.data_held; rule_fault = v.rule_fault }) refl
  where
    picked : (t : Bool) → eqb (view_fault v) 0 ≡ t → (passed : Entry) → passed.fault ≡ 0 → (cond {A = Entry} t passed (refused_entry (view_fault v))).fault ≡ view_fault v
    picked true e passed p = p ∙ sym (eqb-true (view_fault v) 0 e)
    picked false e passed p = refl

module _ (l : List ℕ) (whole : length l ≡ 84) where
  entry_of_view : entry_of l ≡ entry_in (view l)
  unfolding entry_of
  entry_of_view = rw (eq-eqb (length l) 84 whole)

  -- the first of 4, 5 and 6
  pub entry-fault : (entry_of l).fault ≡ view_fault (view l)
  entry-fault = rw entry_of_view (fault_in_lem (view l))

  module _ (none : (entry_of l).fault ≡ 0) where
    no_fault : view_fault (view l) ≡ 0
    no_fault = sym entry-fault ∙ none

    pub entry_fields : entry_of l ≡ record { fault = 0; kind = count_index (view l).kind; level = (view l).level; data_records = (view l).data_records; held = to_held (view l).data_held; rule_fault = (view l).rule_fault }
    unfolding entry_in
    entry_fields = entry_of_view ∙ rw (eq-eqb (view_fault (view l)) 0 no_fault)

    pub entry-kind : (entry_of l).kind ≡ count_index (view l).kind
    entry-kind = ap (λ (x : Entry). x.kind) entry_fields

    pub entry-level : (entry_of l).level ≡ (view l).level
    entry-level = ap (λ (x : Entry). x.level) entry_fields

    pub entry_data_records : (entry_of l).data_records ≡ (view l).data_records
    entry_data_records = ap (λ (x : Entry). x.data_records) entry_fields

    pub entry_held : to_data (entry_of l).held ≡ (view l).data_held
    entry_held = ap (λ (x : Entry). to_data x.held) entry_fields ∙ held_data (view l).data_held

    pub entry_rule : (entry_of l).rule_fault ≡ (view l).rule_fault
    entry_rule = ap (λ (x : Entry). x.rule_fault) entry_fields

    -- a header is of kind 0
    pub entry-head : is_head (view l).kind ≡ eqb (entry_of l).kind 0
    entry-head = head-index (view l).kind ∙ ap (λ (n : ℕ). eqb n 0) (sym entry-kind)

    -- the record is a header or an item, and its columns are in order
    pub entry_counted : leb (count_index (view l).kind) 9 ≡ true
    unfolding view_fault
    entry_counted = unless_zero (leb (count_index (view l).kind) 9) 3 (first_zero (unless (leb (count_index (view l).kind) 9) 4) (view l).column_fault no_fault).0

    pub entry_columns : (view l).column_fault ≡ 0
    unfolding view_fault
    entry_columns = (first_zero (unless (leb (count_index (view l).kind) 9) 4) (view l).column_fault no_fault).1

    pub kind-most : (entry_of l).kind ≤ 9
    kind-most = rw entry-kind (leb-true (count_index (view l).kind) 9 entry_counted)

-- ---- bounds, of every record

module _ (l : List ℕ) (whole : length l ≡ 84) where
  element-level : number_at element "level" l < 100
  unfolding find element
  element-level = number_small element "level" 16 2 _ refl refl l whole

  level_in : (t : RecordType) → (view_as t l).level ≤ 99
  unfolding header_view element_view grid_view net_view other_view find header grid_header net_header
  level_in H = omega (arith, number_small header "level" 16 2 _ refl refl l whole)
  level_in E1 = omega (arith, element-level)
  level_in E2 = omega (arith, element-level)
  level_in E3 = omega (arith, element-level)
  level_in E4 = omega (arith, element-level)
  level_in E5 = omega (arith, element-level)
  level_in E6 = omega (arith, element-level)
  level_in E7 = omega (arith, element-level)
  level_in E8 = omega (arith, element-level)
  level_in G = omega (arith, number_small grid_header "level" 16 2 _ refl refl l whole)
  level_in T = omega (arith, number_small net_header "level" 16 2 _ refl refl l whole)
  level_in other = omega arith

  element_data_records : number_at element "records" l < 10000
  unfolding find element
  element_data_records = number_small element "records" 31 4 _ refl refl l whole

  grid_data_records : grid_states (number_at grid_header "repeat" l) (number_at grid_header "records" l) < 100000
  unfolding grid_states find grid_header
  grid_data_records = omega (arith, number_small grid_header "repeat" 83 1 _ refl refl l whole, number_small grid_header "records" 26 4 _ refl refl l whole)

  data_records_in : (t : RecordType) → (view_as t l).data_records ≤ 999999
  unfolding header_view element_view grid_view net_view other_view find net_header
  data_records_in H = omega arith
  data_records_in E1 = omega (arith, element_data_records)
  data_records_in E2 = omega (arith, element_data_records)
  data_records_in E3 = omega (arith, element_data_records)
  data_records_in E4 = omega (arith, element_data_records)
  data_records_in E5 = omega (arith, element_data_records)
  data_records_in E6 = omega (arith, element_data_records)
  data_records_in E7 = omega (arith, element_data_records)
  data_records_in E8 = omega (arith, element_data_records)
  data_records_in G = omega (arith, grid_data_records)
  data_records_in T = omega (arith, number_small net_header "records" 26 6 _ refl refl l whole)
  data_records_in other = omega arith

  pub view-level-most : (view l).level ≤ 99
  unfolding view
  view-level-most = level_in (type_of l)

  pub view_data_records_most : (view l).data_records ≤ 999999
  unfolding view
  view_data_records_most = data_records_in (type_of l)

  module _ (none : (entry_of l).fault ≡ 0) where
    pub level-most : (entry_of l).level ≤ 99
    level-most = rw (entry-level l whole none) view-level-most

  -- ---- in the words of judging

  first_of_three : (a b c : ℕ) → first a (first b c) ≡ first (first a b) c
  first_of_three zero b c = refl
  first_of_three (suc a) b c = refl

  -- where a header or an item is due: the entry's fault, then the level, then the data rule
  pub fault-at : (opened : ℕ) (held : Data) → fault_at opened 0 held (view l) ≡ first (entry_of l).fault (first (unless (level_ok opened (view l)) 7) (view l).rule_fault)
  unfolding view_fault
  fault-at opened held =
      first_of_three (unless (leb (count_index (view l).kind) 9) 4) (view l).column_fault (first (unless (level_ok opened (view l)) 7) (view l).rule_fault)
      ∙ ap (λ (n : ℕ). first n (first (unless (level_ok opened (view l)) 7) (view l).rule_fault)) (sym (entry-fault l whole))

  fault_as_data_lem : (t : RecordType) → (view_as t l).fault_as_data ≡ as_data l
  unfolding header_view element_view grid_view net_view other_view
  fault_as_data_lem H = refl
  fault_as_data_lem E1 = refl
  fault_as_data_lem E2 = refl
  fault_as_data_lem E3 = refl
  fault_as_data_lem E4 = refl
  fault_as_data_lem E5 = refl
  fault_as_data_lem E6 = refl
  fault_as_data_lem E7 = refl
  fault_as_data_lem E8 = refl
  fault_as_data_lem G = refl
  fault_as_data_lem T = refl
  fault_as_data_lem other = refl

  -- where data is due
  pub data_fault_at : (held : Held) (behind : ℕ) → (view l).fault_as_data (to_data held) behind ≡ data_fault_of l held behind
  unfolding view data_fault_of
  data_fault_at held behind = rw (eq-eqb (length l) 84 whole, fault_as_data_lem (type_of l))

-- ---- a header's counts

head_type : (t : RecordType) (l : List ℕ) → is_head (view_as t l).kind ≡ true → t ≡ H
unfolding header_view element_view grid_view net_view other_view
head_type H l h = refl
head_type E1 l h = absurd (false≢true h)
head_type E2 l h = absurd (false≢true h)
head_type E3 l h = absurd (false≢true h)
head_type E4 l h = absurd (false≢true h)
head_type E5 l h = absurd (false≢true h)
head_type E6 l h = absurd (false≢true h)
head_type E7 l h = absurd (false≢true h)
head_type E8 l h = absurd (false≢true h)
head_type G l h = absurd (false≢true h)
head_type T l h = absurd (false≢true h)
head_type other l h = absurd (false≢true h)

all_same : (n : ℕ) (f g : ℕ → Bool) → ((j : ℕ) → j < n → f j ≡ g j) → all n f ≡ all n g
all_same zero f g h = refl
all_same (suc n) f g h = rw (h n (omega arith), all_same n f g (λ (j : ℕ) k. h j (omega arith)))

module _ (l : List ℕ) (is_head_lem : is_head (view l).kind ≡ true) where
  head-view : view l ≡ header_view l
  unfolding view
  head-view = ap (λ (t : RecordType). view_as t l) (head_type (type_of l) l is_head_lem)

  -- what it states of a kind, and its total
  pub header-count : (kind : ℕ) → (view l).count kind ≡ count_in l kind
  unfolding header_view
  header-count kind = ap (λ (v : View). v.count kind) head-view

  pub header-total : (view l).total ≡ number_at header "total" l
  unfolding header_view
  header-total = ap (λ (v : View). v.total) head-view

  -- against a tally of what stands under it
  pub counts_agree_at : (tally : List ℕ) (behind : List View) → length l ≡ 84 → ((kind : ℕ) → kind < 10 → get_or tally kind 0 ≡ count_under (view l).level kind behind) → states_counts l tally ≡ counts_agree (view l) behind
  unfolding states_counts header_view
  counts_agree_at tally behind whole counted =
      rw (eq-eqb (length l) 84 whole, all_same 10 (states_count l tally) (count_agrees (view l) behind) (λ (kind : ℕ) k. rw (header-count kind, ← counted kind k)), header-total)
      (ap (λ (f : ℕ → ℕ). all 10 (count_agrees (view l) behind) && eqb (number_at header "total" l) (sum 10 f)) (sym (ap (λ (v : View). v.count) head-view)))
