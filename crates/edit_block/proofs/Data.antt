-- The data records of a block in the code's own words. Assumes nothing.
use mathlib.Core.Path.{◌≡◌, refl, sym, ◌∙◌}
use mathlib.Core.Bool.{Bool, true, false, true≢false}
use mathlib.Core.List.{List, [], map}
use Prim.Native.Nat.{ℕ, zero, suc, ◌+◌, ◌-◌, ◌/◌, ◌≤◌, ◌<◌}
use native.Mathlib.Numerals.{add-one}
use native.Mathlib.Omega.{arith}
use lib.ListN.{length, drop, get_or, length-map, drop_of_length-le}
use lib.Seq.{drop-cons}
use Rattle.std.specs.Prelude.{Result, Ok, Err}
use Rattle.std.specs.Result.{is_err}
use Rattle.format.specs.Reasons.{fault_number}
use Rattle.format.specs.declared.Reason.{Reason}
use Rattle.format.proofs.Reasons.{not_zero}
use Rattle.format.specs.Basics.{Fault, fine, or_else, to_fault}
use Rattle.format.specs.Record.{Data, View, view}
use Rattle.format.specs.Judge.{walk}
use Rattle.format.specs.Edit.{absent}
use Rattle.records.specs.declared.Held.{Held}
use Rattle.records.specs.Entry.{to_data, data_fault_of}
use Rattle.records.proofs.Laws.{data_fault_at}
use Rattle.files.specs.declared.Stride.TheVariants.{Plain}
use Rattle.files.specs.Records.{records_of}
use Rattle.format.proofs.Lists.{get_or_views}
use Rattle.edit_block.proofs.Records.{block_long, block_wide}
use Rattle.edit_block.specs.Steps.{data_walk}

module _ (views : List View) (held : Data) (opened index : ℕ) where
  -- one data record: its fault answers, or else the walk goes on
  step-at : (k : ℕ) → length views - index ≡ suc k → index < length views → data_walk views held opened index ≡ fine (or_else (to_fault ((get_or views index absent).fault_as_data held k) index) (walk opened k held 0 (suc index) (drop (suc index) views)))
  unfolding data_walk
  step-at k left h = rw (left, drop-cons views index absent h)

  walk_at : index < length views → data_walk views held opened index ≡ fine (or_else (to_fault ((get_or views index absent).fault_as_data held (length views - index - 1)) index) (walk opened (length views - index - 1) held 0 (suc index) (drop (suc index) views)))
  walk_at h = step-at (length views - index - 1) (omega arith) h

  pub walk-over : length views ≤ index → true ≡ data_walk views held opened index
  unfolding data_walk
  walk-over h =
      let none : length views - index ≡ 0 = omega arith in
      rw (none, drop_of_length-le views h)

some-fault : (n i : ℕ) (rest : Fault) → (n ≡ 0 → ⊥) → false ≡ fine (or_else (to_fault n i) rest)
some-fault zero i rest h = absurd (h refl)
some-fault (suc n) i rest h = refl

-- what a check found
errs : (answer : Result (Unit {0}) Reason) → is_err answer ≡ true → fault_number answer ≡ 0 → ⊥
errs (Ok u) e = absurd (true≢false (sym e))
errs (Err reason) e = not_zero reason

none_there : (answer : Result (Unit {0}) Reason) → is_err answer ≡ false → fault_number answer ≡ 0
none_there (Ok u) e = refl
none_there (Err reason) e = absurd (true≢false e)

-- ---- `data_in_order`: the walk from an index comes to the same as that from the first data record

abbrev pub Same : List ℕ → Held → (index : ℕ) → Type 0
Same block held index = (opened : ℕ) → data_walk (map view (records_of Plain block)) (to_data held) opened 1 ≡ data_walk (map view (records_of Plain block)) (to_data held) opened index

module _ (block : List ℕ) (held : Held) (index : ℕ) (same : Same block held index) where
  length_views : length (map view (records_of Plain block)) ≡ length block / 84
  length_views = length-map (records_of Plain block) view ∙ block_long block

  pub data_over : length block / 84 ≤ index → (opened : ℕ) → true ≡ data_walk (map view (records_of Plain block)) (to_data held) opened 1
  data_over h opened = walk-over (map view (records_of Plain block)) (to_data held) opened index (rw length_views h) ∙ sym (same opened)

  module _ (inside : index < length block / 84) (r : List ℕ) (read : r ≡ get_or (records_of Plain block) index []) (answer : Result (Unit {0}) Reason) (is : fault_number answer ≡ data_fault_of r held (length block / 84 - index - 1)) where
    fault-here : (get_or (map view (records_of Plain block)) index absent).fault_as_data (to_data held) (length (map view (records_of Plain block)) - index - 1) ≡ fault_number answer
    fault-here = rw (length_views, get_or_views (records_of Plain block) index (rw (block_long block) inside), ← read) (data_fault_at r (block_wide block r index read inside) held (length block / 84 - index - 1) ∙ sym is)

    walk_here : (opened : ℕ) → data_walk (map view (records_of Plain block)) (to_data held) opened index ≡ fine (or_else (to_fault (fault_number answer) index) (walk opened (length (map view (records_of Plain block)) - index - 1) (to_data held) 0 (suc index) (drop (suc index) (map view (records_of Plain block)))))
    walk_here opened = walk_at (map view (records_of Plain block)) (to_data held) opened index (rw length_views inside) ∙ rw fault-here

    pub data_wrong : (flag : Bool) → flag ≡ is_err answer → flag ≡ true → (opened : ℕ) → false ≡ data_walk (map view (records_of Plain block)) (to_data held) opened 1
    data_wrong flag told some opened = some-fault (fault_number answer) index _ (errs answer (sym told ∙ some)) ∙ sym (same opened ∙ walk_here opened)

    pub data_passes : (flag : Bool) → flag ≡ is_err answer → flag ≡ false → Same block held (index + 1)
    unfolding data_walk
    data_passes flag told none opened = same opened ∙ walk_here opened ∙ rw (none_there answer (sym told ∙ none), add-one index, less)
      where
        less : length (map view (records_of Plain block)) - index - 1 ≡ length (map view (records_of Plain block)) - suc index
        less = omega arith
