-- A file whose length is right is judged by its records. Assumes nothing.
use mathlib.Core.Path.{◌≡◌, ap, sym, ◌∙◌}
use mathlib.Core.Bool.{Bool}
use mathlib.Core.List.{List, ◌++◌}
use Prim.Native.Nat.{ℕ, ◌*◌, ◌/◌, ◌≤◌, ◌<◌}
use native.Mathlib.Omega.{arith}
use lib.ListN.{length, length-append, take, drop}
use lib.Seq.{take_at}
use Rattle.format.specs.Basics.{chunks, flat}
use Rattle.format.specs.Judge.{after_stage_one, judge_records, judge_index_records, judge_sheet, judge_index}
use Rattle.format.proofs.JudgeStages.{Whole, whole_ok}
use Rattle.format.proofs.Lists.{Wide, wide_chunks, chunks-flat, flat-chunks, length-flat, length-chunks}

module _ (used : ℕ) (b : List ℕ) (f : Whole used b) where
  pub wide_84 : Wide (chunks (used / 84) b)
  wide_84 = wide_chunks (used / 84) b (omega (arith, f.inside, f.even))

  pub some_84 : 0 < used / 84
  some_84 = omega (arith, f.some, f.even)

  pub few_84 : used / 84 ≤ 200000
  few_84 = omega (arith, f.few, f.even)

  -- the used bytes
  length_taken : length (flat (chunks (used / 84) b)) ≡ used
  length_taken = length-flat (chunks (used / 84) b) wide_84 ∙ ap (λ (j : ℕ). 84 * j) (length-chunks (used / 84) b) ∙ (omega (arith, f.even))

  pub taken : flat (chunks (used / 84) b) ≡ take used b
  taken = sym (take_at (flat (chunks (used / 84) b)) (drop (84 * (used / 84)) b) used length_taken) ∙ ap (take used) (flat-chunks (used / 84) b (omega (arith, f.inside, f.even)))

  -- it is judged by its records
  pub sheet-own : judge_sheet used b ≡ judge_records (chunks (used / 84) b)
  unfolding judge_sheet
  sheet-own = ap (λ (t : Bool). after_stage_one t (judge_records (chunks (used / 84) b))) (whole_ok 84 used b f)

  pub index-own : judge_index used b ≡ judge_index_records (chunks (used / 84) b)
  unfolding judge_index
  index-own = ap (λ (t : Bool). after_stage_one t (judge_index_records (chunks (used / 84) b))) (whole_ok 84 used b f)

-- ---- k records rs, and some bytes behind them
module _ (rs : List (List ℕ)) (k : ℕ) (z : List ℕ) (w : Wide rs) (count : length rs ≡ k) (some : 0 < k) (few : k ≤ 200000) where
  pub whole_84 : Whole (84 * k) (flat rs ++ z)
  whole_84 = record { some = omega arith; inside = rw (length-append (flat rs) z) (omega (arith, length-flat rs w)); even = omega arith; few = omega arith }

  pub chunks-at : chunks (84 * k / 84) (flat rs ++ z) ≡ rs
  chunks-at = ap (λ (j : ℕ). chunks j (flat rs ++ z)) is ∙ chunks-flat rs z w
    where
      is : 84 * k / 84 ≡ length rs
      is = omega (arith, count)

  pub sheet_by : judge_sheet (84 * k) (flat rs ++ z) ≡ judge_records rs
  sheet_by = sheet-own (84 * k) (flat rs ++ z) whole_84 ∙ ap judge_records chunks-at

  pub index_by : judge_index (84 * k) (flat rs ++ z) ≡ judge_index_records rs
  index_by = index-own (84 * k) (flat rs ++ z) whole_84 ∙ ap judge_index_records chunks-at
