-- The doubts of a record as the code counts them: those of the two first bytes, of the next eighty in a loop, and of the two last. Assumes nothing.
use mathlib.Core.Path.{◌≡◌, refl}
use mathlib.Core.List.{List}
use Prim.Native.Nat.{ℕ, ◌+◌, ◌<◌}
use native.Mathlib.Omega.{arith}
use lib.ListN.{length, drop, get_or, drop_of_length-le}
use Rattle.form_bytes.specs.Doubt.{doubt}
use Rattle.form_bytes.specs.Letters.{doubts_in}
use Rattle.form_bytes.proofs.Doubts.{one_more}

-- the doubts of the bytes from 2 on but for the first i of them
unfoldable pub doubts_from : (letters r : List ℕ) → ℕ → ℕ
doubts_from letters r i = doubts_in (drop (i + 2) letters) (get_or r (i + 1) 0) (drop (i + 2) r)

module _ (letters r : List ℕ) (n : length letters ≡ 84) (k : length r ≡ 84) where
  pub next-doubt : (i : ℕ) → i < 82 → doubts_from letters r i ≡ doubt (get_or letters (i + 2) 0) (get_or r (i + 1) 0) (get_or r (i + 2) 0) + doubts_from letters r (i + 1)
  unfolding doubts_from
  next-doubt i h =
      let f : i + 1 + 1 ≡ i + 2 = omega arith in
      let g : i + 1 + 2 ≡ i + 2 + 1 = omega arith in
      rw (f, g) (one_more letters r (i + 2) (i + 2) (get_or r (i + 1) 0) (omega arith) (omega arith))

  pub two_first : doubts_in letters 32 r ≡ doubt (get_or letters 0 0) 32 (get_or r 0 0) + (doubt (get_or letters 1 0) (get_or r 0 0) (get_or r 1 0) + doubts_from letters r 0)
  unfolding doubts_from
  two_first = rw (one_more letters r 0 0 32 (omega arith) (omega arith), one_more letters r 1 1 (get_or r 0 0) (omega arith) (omega arith)) refl

  pub none_behind : doubts_from letters r 82 ≡ 0
  unfolding doubts_from doubts_in
  none_behind = rw (drop_of_length-le letters {i = 84} (omega arith)) refl
