-- The eight wholes, the eight fractions and the eight corners, one after the other. Assumes nothing.
use mathlib.Core.Path.{◌≡◌, refl, ap, sym, ◌∙◌}
use mathlib.Core.List.{List, [], ◌∷◌, map}
use Rattle.std.proofs.lemmas.List.{get_or-map}
use Prim.Native.Nat.{ℕ, zero, suc, ◌+◌, ◌^◌, ◌≤◌, ◌<◌}
use native.Mathlib.Numerals.{add-one}
use native.Mathlib.Omega.{arith}
use lib.IntN.{ℤ, pos}
use lib.Signed.{mag}
use lib.ListN.{length, length-map, take, get_or, set}
use lib.Seq.{take_all, take-suc, take-suc-set}
use Rattle.format.specs.Column.{column_of, integer}
use Rattle.format.specs.Corner.{join}
use Rattle.format.specs.Answers.{number_answer}
use Rattle.format.specs.declared.Refusal.{Refusal}
use Rattle.std.specs.Prelude.{Result, Ok, Err}
use Rattle.std.specs.Result.{result_unwrap_or}
use Rattle.format.specs.Layout.{find, column, integer_at, sheet_b, sheet_e}
use Rattle.format.specs.Sheet.{wholes_of, fractions_of}
use Rattle.columns.specs.InRecord.{column_at}
use Rattle.format.proofs.Signed.{stored, back}
use Rattle.part_and_index.specs.Progress.{joined, corner_of, corners_of}
use Rattle.part_and_index.proofs.FaultLaws.{integer-there}

pub stored_is : (z y : ℤ) → mag z < 2 ^ 63 → z ≡ y → stored z ≡ y
stored_is z y known e = back z (record { sfits = known }) ∙ e

-- ---- eight values stored one after the other: those so far are the first of a list
module _ (values at : List ℤ) (i : ℕ) (eight : length values ≡ 8) (long : length at ≡ 8) (left : take i at ≡ take i values) where
  value_more : i < 8 → (z : ℤ) → mag z < 2 ^ 63 → z ≡ get_or values i (pos 0) → take (i + 1) (set at i (stored z)) ≡ take (i + 1) values
  value_more h z kz e =
      let is : stored z ≡ get_or values i (pos 0) = stored_is z _ kz e in
      let room : i < length at = omega arith in
      let there : i < length values = omega arith in
      rw (add-one i, take-suc-set at i (stored z) room, take-suc values i (pos 0) there, left, is)

  values_all : 8 ≤ i → at ≡ values
  values_all h = sym (take_all i at (omega arith)) ∙ left ∙ take_all i values (omega arith)

-- ---- `eight_integers`, and what they are in records b and e
module _ (r starts : List ℕ) (width : ℕ) (eight : length starts ≡ 8) where
  abbrev integers : List ℤ
  integers = map (λ (start : ℕ). integer (column_at r start width)) starts

  pub integer-more : (at : List ℤ) (i : ℕ) → length at ≡ 8 → take i at ≡ take i integers → i < 8 → (z : ℤ) → mag z < 2 ^ 63 → z ≡ integer (column_at r (get_or starts i 0) width) → take (i + 1) (set at i (stored z)) ≡ take (i + 1) integers
  integer-more at i long left h z kz e = value_more integers at i (length-map starts _ ∙ eight) long left h z kz (e ∙ sym (get_or-map (λ (start : ℕ). integer (column_at r start width)) starts i 0 (pos 0) (omega arith)))

  pub integers-all : (at : List ℤ) (i : ℕ) → length at ≡ 8 → take i at ≡ take i integers → 8 ≤ i → at ≡ integers
  integers-all at i long left h = values_all integers at i (length-map starts _ ∙ eight) long left h

module _ (r : List ℕ) (wide : length r ≡ 84) where
  there : (start width : ℕ) → start + width ≤ 84 → width ≤ 18 → integer (column_at r start width) ≡ integer (column_of (column start width r))
  there start width = integer-there r start width wide

  pub wholes_read : map (λ (start : ℕ). integer (column_at r start 7)) (0 ∷ 7 ∷ 14 ∷ 21 ∷ 47 ∷ 54 ∷ 61 ∷ 68 ∷ []) ≡ wholes_of r
  unfolding wholes_of integer_at find sheet_b
  wholes_read = rw (there 0 7 (omega arith) (omega arith), there 7 7 (omega arith) (omega arith), there 14 7 (omega arith) (omega arith), there 21 7 (omega arith) (omega arith), there 47 7 (omega arith) (omega arith), there 54 7 (omega arith) (omega arith), there 61 7 (omega arith) (omega arith), there 68 7 (omega arith) (omega arith))

  pub fractions_read : map (λ (start : ℕ). integer (column_at r start 4)) (40 ∷ 44 ∷ 48 ∷ 52 ∷ 56 ∷ 60 ∷ 64 ∷ 68 ∷ []) ≡ fractions_of r
  unfolding fractions_of integer_at find sheet_e
  fractions_read = rw (there 40 4 (omega arith) (omega arith), there 44 4 (omega arith) (omega arith), there 48 4 (omega arith) (omega arith), there 52 4 (omega arith) (omega arith), there 56 4 (omega arith) (omega arith), there 60 4 (omega arith) (omega arith), there 64 4 (omega arith) (omega arith), there 68 4 (omega arith) (omega arith))

-- ---- `corner`
joined_or : (v : Result ℤ Refusal) → joined (number_answer v) ≡ result_unwrap_or v (pos 0)
unfolding number_answer
joined_or (Ok z) = refl
joined_or (Err r) = refl

module _ (unit : ℕ) (whole fraction : ℤ) (fw : mag whole < 2 ^ 63) (ff : mag fraction < 2 ^ 63) where
  pub corner-joined : (v : Result ℤ Refusal) → number_answer v ≡ join unit (stored whole) (stored fraction) → (z : ℤ) → mag z < 2 ^ 63 → z ≡ result_unwrap_or v (pos 0) → stored z ≡ corner_of unit whole fraction
  unfolding corner_of
  corner-joined v e z f h =
      let both : join unit (stored whole) (stored fraction) ≡ join unit whole fraction = rw (stored_is whole _ fw refl, stored_is fraction _ ff refl) in
      stored_is z _ f (h ∙ sym (joined_or v) ∙ ap joined (e ∙ both))

-- ---- `corners_of`: the corners so far are the first ones
length-corners : (unit : ℕ) (ws fs : List ℤ) → length ws ≡ length fs → length (corners_of unit ws fs) ≡ length ws
length-corners unit [] fs e = refl
length-corners unit (w ∷ ws) [] e = absurd (omega arith)
length-corners unit (w ∷ ws) (f ∷ fs) e = ap suc (length-corners unit ws fs (omega arith))

corner-at : (unit : ℕ) (ws fs : List ℤ) (i : ℕ) → i < length ws → length ws ≡ length fs → get_or (corners_of unit ws fs) i (pos 0) ≡ corner_of unit (get_or ws i (pos 0)) (get_or fs i (pos 0))
corner-at unit [] fs i h e = absurd (omega arith)
corner-at unit (w ∷ ws) [] i h e = absurd (omega arith)
corner-at unit (w ∷ ws) (f ∷ fs) zero h e = refl
corner-at unit (w ∷ ws) (f ∷ fs) (suc i) h e = corner-at unit ws fs i (omega arith) (omega arith)

module _ (unit : ℕ) (wholes fractions at : List ℤ) (i : ℕ) (eight : length wholes ≡ 8) (eight' : length fractions ≡ 8) (long : length at ≡ 8) (left : take i at ≡ take i (corners_of unit wholes fractions)) where
  long_corners : length (corners_of unit wholes fractions) ≡ 8
  long_corners = length-corners unit wholes fractions (eight ∙ sym eight') ∙ eight

  pub corner-more : i < 8 → mag (get_or wholes i (pos 0)) < 2 ^ 63 → mag (get_or fractions i (pos 0)) < 2 ^ 63 → (z : ℤ) → mag z < 2 ^ 63 → z ≡ corner_of unit (stored (get_or wholes i (pos 0))) (stored (get_or fractions i (pos 0))) → take (i + 1) (set at i (stored z)) ≡ take (i + 1) (corners_of unit wholes fractions)
  corner-more h kw kf z kz e = value_more (corners_of unit wholes fractions) at i long_corners long left h z kz (e ∙ rw (stored_is (get_or wholes i (pos 0)) _ kw refl, stored_is (get_or fractions i (pos 0)) _ kf refl) (sym (corner-at unit wholes fractions i (omega arith) (eight ∙ sym eight'))))

  pub corners-all : 8 ≤ i → at ≡ corners_of unit wholes fractions
  corners-all h = values_all (corners_of unit wholes fractions) at i long_corners long left h
