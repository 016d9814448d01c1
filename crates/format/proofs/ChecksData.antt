-- The judged columns of an item's data records. Assumes nothing.
use mathlib.Core.Path.{◌≡◌, refl, sym, ◌∙◌}
use mathlib.Core.Logic.{inl, inr}
use mathlib.Core.Bool.{Bool, true, false}
use mathlib.Core.List.{List, ◌∷◌}
use Prim.Native.Nat.{ℕ, zero, suc, ◌+◌, ◌-◌, ◌*◌, ◌<◌}
use native.Mathlib.Omega.{arith}
use native.Mathlib.Nat.{mul-add}
use lib.Dec.{eqb}
use Rattle.format.specs.Basics.{round_up}
use Rattle.format.specs.Layout.{number_at, element, grid_header, net_header}
use Rattle.format.specs.Record.{RecordType, H, E1, E2, E3, E4, E5, E6, E7, E8, G, T, other, type_of, used_in, data_of, data_columns, view_as, view, header_view, element_view, grid_view, net_view, other_view, grid_states}
use Rattle.format.specs.Judge.{due_of}
use Rattle.format.specs.Checks.{Check, FirstOf, Faults, in_order, RoundedUp, Records, KindAndCount, faults_as, header_or_item_faults, stated, Used, JudgedByKind, JudgedBehind}
use Rattle.format.proofs.ChecksOrder.{Decides}
use Rattle.format.proofs.ChecksRecords.{only_rounded, decides_rounded}

-- ---- What a record that passes keeps
passed : (n : ℕ) (P : Type 0) (cs : List Check) → FirstOf (record { number = suc n; applies = P } ∷ cs) 0 → (P → ⊥) × FirstOf cs 0
unfolding FirstOf
passed n P cs (inl x) = absurd (omega (arith, x.1))
passed n P cs (inr x) = x

rule_kept : (f : Faults) → FirstOf (in_order f) 0 → f.data_rule → ⊥
rule_kept f p = (passed 7 _ _ (passed 6 _ _ (passed 5 _ _ (passed 4 _ _ (passed 3 _ _ (passed 1 _ _ p).1).1).1).1).1).0

-- a number rounded up is so if it is not otherwise
stable : (n d m : ℕ) → 0 < d → ((RoundedUp n d m → ⊥) → ⊥) → RoundedUp n d m
stable n d m l nn = go (eqb m (round_up n d)) (decides_rounded n d m l)
  where
    go : (t : Bool) → Decides t (RoundedUp n d m) → RoundedUp n d m
    go true x = x.yes refl
    go false x = absurd (nn (x.no refl))

-- ---- The points of a record
used : (each count front more : ℕ) → 0 < each → RoundedUp count each (front + suc more) → Used each count front (used_in each count more)
used each count front zero l r = rw (sym before) (omega (arith, split, r.0), λ nth h. (λ q. omega arith, λ q. omega arith))
  where
    before : front ≡ round_up count each - 1
    before = omega (arith, only_rounded count each (front + 1) l r)

    split : each * (front + 1) ≡ each * front + each * 1
    split = mul-add each front 1
used each count front (suc more) l r = (omega arith, λ nth h. (λ q. omega (arith, split, rw same at r.1), λ q. h))
  where
    split : each * (front + (more + 2)) ≡ each * front + (each * more + each * 2)
    split = mul-add each front (more + 2) ∙ rw (mul-add each more 2)

    same : suc (suc more) ≡ more + 2
    same = omega arith

-- ---- By the type of the item
module _ (r : List ℕ) (front more : ℕ) where
  abbrev kind : ℕ
  kind = number_at element "data kind" r

  abbrev count : ℕ
  count = number_at element "data count" r

  by_kind : (t : RecordType) → (((KindAndCount t kind count × Records kind count (number_at element "records" r)) → ⊥) → ⊥) → front + suc more ≡ number_at element "records" r → JudgedByKind kind count front (data_columns (data_of kind count) more)
  unfolding data_columns
  by_kind t nn is = record {
    kind2 = λ e. rw e (used_in 6 count more, used 6 count front more (omega arith) (rw is (stable count 6 _ (omega arith) (λ n. nn (λ k. n (k.1.kind2 e))))), refl);
    kinds36 = λ o. elim o [ inl e ↦ rw e (used_in 4 count more, used 4 count front more (omega arith) (rw is (stable count 4 _ (omega arith) (λ n. nn (λ k. n (k.1.kinds36 (inl e)))))), refl) | inr x ↦ elim x [ inl e ↦ rw e (used_in 4 count more, used 4 count front more (omega arith) (rw is (stable count 4 _ (omega arith) (λ n. nn (λ k. n (k.1.kinds36 (inr (inl e))))))), refl) | inr y ↦ absurd y ] ];
    kind4 = λ e. rw e refl;
    kind5 = λ e. rw e refl;
  }

  by_type : (t : RecordType) (opened : ℕ) → FirstOf (in_order (faults_as opened t r)) 0 → front + suc more ≡ due_of (view_as t r).kind (view_as t r).data_records → JudgedBehind t r front (data_columns (view_as t r).data_held more)
  unfolding data_columns header_view element_view grid_view net_view other_view grid_states
  by_type H opened p is = tt
  by_type E1 opened p is = by_kind E1 (rule_kept _ p) is
  by_type E2 opened p is = by_kind E2 (rule_kept _ p) is
  by_type E3 opened p is = by_kind E3 (rule_kept _ p) is
  by_type E4 opened p is = by_kind E4 (rule_kept _ p) is
  by_type E5 opened p is = by_kind E5 (rule_kept _ p) is
  by_type E6 opened p is = by_kind E6 (rule_kept _ p) is
  by_type E7 opened p is = by_kind E7 (rule_kept _ p) is
  by_type E8 opened p is = by_kind E8 (rule_kept _ p) is
  by_type G opened p is = (_, used 12 (number_at grid_header "rows" r * number_at grid_header "columns" r) front more (omega arith) (rw is (stable _ 12 _ (omega arith) (rule_kept _ p))), refl)
  by_type T opened p is = (_, used 4 (3 * number_at net_header "triangles" r) front more (omega arith) (rw is (stable _ 4 _ (omega arith) (rule_kept _ p))), refl)
  by_type other opened p is = tt

pub judged-behind : (opened : ℕ) (start : List ℕ) → FirstOf (in_order (header_or_item_faults opened start)) 0 → (front more : ℕ) → front + suc more ≡ stated start → JudgedBehind (type_of start) start front (data_columns (view start).data_held more)
unfolding view
judged-behind opened start p front more is = by_type start front more (type_of start) opened p is
