-- What the flat walk does at one record. Assumes nothing.
use mathlib.Core.Path.{◌≡◌, refl, ap, ◌∙◌}
use mathlib.Core.List.{List, [], ◌∷◌, map}
use Prim.Native.Nat.{ℕ, zero, suc, ◌+◌, ◌-◌, ◌*◌, ◌/◌, ◌^◌, ◌≤◌, ◌<◌}
use native.Mathlib.Omega.{arith}
use native.Mathlib.Numerals.{add-one}
use lib.ListN.{length, drop_of_length-le}
use lib.Seq.{drop-cons}
use Rattle.format.specs.Basics.{fault, or_else, to_fault}
use Rattle.format.specs.Record.{Data, nothing, View, view}
use Rattle.format.specs.Judge.{walk, fault_at, headers_and_items, count_fault}
use Rattle.format.specs.Edit.{last_header}
use Rattle.format.specs.Above.{last_start}
use Rattle.format_directory.specs.Directory.{layers_from}
use Rattle.files.specs.Records.{stride_of, records_of}
use Rattle.files.specs.declared.Stride.{Stride}
use Rattle.files.specs.declared.Stride.TheVariants.{Plain, Lines}
use Rattle.files.proofs.Records.{length-records, record_wide}
use Rattle.judge.specs.declared.body_records.Extent.{Extent}
use Rattle.judge.specs.Walks.{ExtentOf, record_at, views_from, fault_from, up_to, Through}
use Rattle.judge.proofs.SeenLaws.{start_data, header_data}

-- the records from k on: the record k, and those behind it
module _ (file : List ℕ) (x : Extent) (extent_of : ExtentOf file x) (k : ℕ) where
  pub views_more : k < x.records → views_from file x k ≡ view (record_at file x k) ∷ views_from file x (k + 1)
  unfolding views_from
  views_more h = rw (add-one k) (ap (map view) (drop-cons (records_of x.stride file) k [] (omega (arith, extent_of.counted))))

  pub views_end : x.records ≤ k → views_from file x k ≡ []
  unfolding views_from
  views_end h = let past : length (records_of x.stride file) ≤ k = omega (arith, extent_of.counted) in ap (map view) (drop_of_length-le (records_of x.stride file) past)

  pub wide_at : k < x.records → length (record_at file x k) ≡ 84
  wide_at h = record_wide x.stride file k (omega (arith, extent_of.counted))

  -- where it starts, and the record behind it
  module _ (here : k < x.records) (each : ℕ) (of : each ≡ stride_of x.stride) where
    ends_inside : each * k + each ≤ length file
    unfolding stride_of
    ends_inside = rw of (go x.stride (omega (arith, extent_of.counted)))
      where
        go : (stride : Stride) → k < length (records_of stride file) → stride_of stride * k + stride_of stride ≤ length file
        go Plain h = let e : length (records_of Plain file) ≡ length file / 84 = length-records Plain file in let g : 84 * k + 84 ≤ length file = omega arith in g
        go Lines h = let e : length (records_of Lines file) ≡ length file / 86 = length-records Lines file in let g : 86 * k + 86 ≤ length file = omega arith in g

    pub from-fits : length file < 2 ^ 64 → each * k < 2 ^ 64
    from-fits long = omega (arith, ends_inside)

    pub next_fits : length file < 2 ^ 64 → each * k + each < 2 ^ 64
    next_fits long = omega (arith, ends_inside)

-- where no data is due, neither its item nor what it holds is asked
pub any_owner : (opened : ℕ) (held held' : Data) (owner owner' i : ℕ) (rs : List View) → walk opened 0 held owner i rs ≡ walk opened 0 held' owner' i rs
any_owner opened held held' owner owner' i [] = refl
any_owner opened held held' owner owner' i (r ∷ rs) = refl

pub fault-here : (opened i : ℕ) (r : View) (rs : List View) (number : ℕ) → number ≡ fault_at opened 0 nothing r → (number ≡ 0 → ⊥) → fault_from opened i (r ∷ rs) ≡ fault number i
fault-here opened i r rs zero e ne = absurd (ne refl)
fault-here opened i r rs (suc number) e ne = rw (← e)

-- ---- data records
one_due : (left : ℕ) → 0 < left → left ≡ suc (left - 1)
one_due left h = omega arith

pub through_none : (held : Data) (owner due i : ℕ) (rs : List View) → Through held owner due i rs due i rs
through_none held owner due i rs = record { same = λ o. refl; behind = refl; wrong = refl; start = λ before latest. refl; header = λ before level latest. refl; layers = refl }

module _ (held : Data) (owner : ℕ) (r : View) (rs : List View) (i left : ℕ) (h : 0 < left) where
  step-fault : (opened : ℕ) → walk opened left held owner i (r ∷ rs) ≡ or_else (to_fault (r.fault_as_data held (left - 1)) i) (walk opened (left - 1) held owner (suc i) rs)
  step-fault opened = ap (λ (x : ℕ). walk opened x held owner i (r ∷ rs)) (one_due left h)

  pub data_wrong : (opened number : ℕ) → r.fault_as_data held (left - 1) ≡ number → (number ≡ 0 → ⊥) → walk opened left held owner i (r ∷ rs) ≡ fault number i
  data_wrong opened zero e ne = absurd (ne refl)
  data_wrong opened (suc number) e ne = step-fault opened ∙ rw e

  pub through_one : r.fault_as_data held (left - 1) ≡ 0 → Through held owner left i (r ∷ rs) (left - 1) (suc i) rs
  through_one e = record {
    same = λ opened. step-fault opened ∙ rw e;
    behind = ap (λ (x : ℕ). headers_and_items x (r ∷ rs)) (one_due left h);
    wrong = ap (λ (x : ℕ). count_fault x i (r ∷ rs)) (one_due left h);
    start = λ before latest. ap (λ (x : ℕ). last_start x i latest (up_to before i (r ∷ rs))) (one_due left h) ∙ start_data before i (left - 1) latest r rs;
    header = λ before level latest. ap (λ (x : ℕ). last_header level x i latest (up_to before i (r ∷ rs))) (one_due left h) ∙ header_data before i level (left - 1) latest r rs;
    layers = ap (λ (x : ℕ). layers_from x i (r ∷ rs)) (one_due left h);
  }

pub through_more : (held : Data) (owner a i b j c k : ℕ) (rs ss ts : List View) → Through held owner a i rs b j ss → Through held owner b j ss c k ts → Through held owner a i rs c k ts
through_more held owner a i b j c k rs ss ts f g = record {
  same = λ o. f.same o ∙ g.same o;
  behind = f.behind ∙ g.behind;
  wrong = f.wrong ∙ g.wrong;
  start = λ before latest. f.start before latest ∙ g.start before latest;
  header = λ before level latest. f.header before level latest ∙ g.header before level latest;
  layers = f.layers ∙ g.layers;
}

pub data_missing : (opened left : ℕ) (held : Data) (owner i : ℕ) → 0 < left → walk opened left held owner i [] ≡ fault 3 owner
data_missing opened left held owner i h = ap (λ (x : ℕ). walk opened x held owner i []) (one_due left h)
