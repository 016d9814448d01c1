-- The counts of a header and of record 2, in the code's own words: what is read of them, and how they are written. Assumes nothing.
use mathlib.Core.Path.{◌≡◌, refl, ap, ◌∙◌}
use mathlib.Core.Bool.{Bool, true, false}
use mathlib.Core.List.{List}
use Prim.Native.Nat.{ℕ, ◌+◌, ◌-◌, ◌*◌, ◌^◌, ◌≤◌, ◌<◌}
use native.Mathlib.Omega.{arith}
use borrow.Author.Tests.{ltb-true, ltb-false}
use lib.Dec.{ltb}
use lib.IntN.{pos}
use lib.ListN.{length}
use Rattle.format.specs.Column.{written}
use Rattle.format.specs.Layout.{column, splice, find, number_at, header, sheet_b}
use Rattle.format.specs.Record.{count_in}
use Rattle.format.proofs.Columns.{length-column, number-below, length-splice, length-written}
use Rattle.format.proofs.RecordHeaders.{number-count}
use Rattle.columns.specs.InRecord.{number_in}
use Rattle.columns.proofs.NumberIn.{number_in_below}
use Rattle.edit.specs.declared.counts.Change.{Change}
use Rattle.records.specs.Entry.{count_start, count_width}
use Rattle.records.proofs.Counts.{nine_width, grid-width, count_place, total-stated}
use Rattle.edit.specs.Counts.{with_counts, Fitting}

-- ---- reading

module _ (r : List ℕ) (n : ℕ) (wide : length r ≡ 84) (e : n ≡ number_in r 18 5) where
  pub total_read : n ≡ number_at header "total" r
  total_read = e ∙ total-stated r wide

  pub total-small : n < 100000
  total-small = omega (arith, number_in_below r 18 5)

-- ---- `write_counts`

pub start_small : (kind start : ℕ) → kind ≤ 9 → start ≡ count_start kind → start ≤ 84
start_small kind start h s = omega (arith, (count_place kind h).0)

module _ (c : Change) (l : List ℕ) (f : Fitting c (length l)) (start width : ℕ) (s : start ≡ count_start c.kind) (w : width ≡ count_width c.kind) (l₁ : List ℕ) (first : l₁ ≡ splice (84 * c.header + 18) 5 (written 5 (pos c.total)) l) where
  length-first : length l₁ ≡ length l
  length-first = ap length first ∙ length-splice (84 * c.header + 18) 5 (written 5 (pos c.total)) l (length-written 5 (pos c.total)) (omega (arith, f.header_in_lem))

  pub count_room : 84 * c.header + start + width ≤ length l₁
  count_room = omega (arith, (count_place c.kind f.kind-most).0, length-first, f.header_in_lem)

  pub count-some : 1 ≤ width
  count-some = omega (arith, (count_place c.kind f.kind-most).1)

  pub count_most : width ≤ 7
  count_most = omega (arith, (count_place c.kind f.kind-most).2)

  pub count-below : c.count < 10 ^ width
  count-below = rw w f.count_fits

  pub all-written : (l₂ l₃ l₄ : List ℕ) → l₂ ≡ splice (84 * c.header + start) width (written width (pos c.count)) l₁ → l₃ ≡ splice 115 6 (written 6 (pos c.stated_elements)) l₂ → l₄ ≡ splice 121 7 (written 7 (pos c.stated_records)) l₃ → l₄ ≡ with_counts c l
  unfolding with_counts count_start count_width find header sheet_b
  all-written l₂ l₃ l₄ second third fourth = fourth ∙ rw (third, second, first, s, w)

-- ---- one more still fits: a count is no larger than the total, and that of grids and nets has one digit
pub one_more_fits : (kind n total : ℕ) → kind ≤ 9 → (kind ≡ 9 → n + 1 ≤ 9) → n ≤ total → total + 1 ≤ 99999 → n + 1 < 10 ^ count_width kind
one_more_fits kind n total h nine-most le most = go (ltb kind 9) refl
  where
    go : (t : Bool) → ltb kind 9 ≡ t → n + 1 < 10 ^ count_width kind
    go true e = rw (← (nine_width kind (ltb-true kind 9 e))) (omega arith)
    go false e = let z : kind ≡ 9 = omega (arith, ltb-false kind 9 e) in rw (← (grid-width kind (ltb-false kind 9 e) h)) (omega (arith, nine-most z))

pub one_less_fits : (r : List ℕ) (kind : ℕ) → length r ≡ 84 → kind ≤ 9 → count_in r kind - 1 < 10 ^ count_width kind
unfolding count_start count_width
one_less_fits r kind w h = omega (arith, number-count kind r, rw (length-column (count_start kind) (count_width kind) r (omega (arith, (count_place kind h).0))) at (number-below (column (count_start kind) (count_width kind) r)))
