-- One record of a directory, column by column and as a list of bytes. Assumes nothing.
use mathlib.Core.Path.{◌≡◌, refl, ap, ap₂, sym, ◌∙◌}
use mathlib.Core.List.{List, [], ◌∷◌, ◌++◌, append_assoc}
use Prim.Native.Nat.{ℕ, zero, suc, ◌+◌, ◌-◌, ◌*◌, ◌≤◌, ◌<◌}
use native.Mathlib.Nat.{zero-add}
use native.Mathlib.Omega.{arith}
use lib.IntN.{pos}
use lib.ListN.{length, length-drop, take, drop, get_or, replicate, get_or-replicate, take-append-drop}
use lib.Seq.{drop-drop, drop_at, length-take-le, get_or-take, get_or-drop}
use Rattle.format.specs.Column.{written}
use Rattle.format.specs.Layout.{column}
use Rattle.format_directory.specs.Directory.{columns_of, record_of}
use Rattle.format_directory.specs.DirectoryChecks.{Holds}
use Rattle.format_directory.proofs.DirectoryRecords.{column-at, length_columns}

-- numbers in written form one behind the other, then what stands behind them
pub columns_from : (r : List ℕ) (k : ℕ) (ns : List ℕ) → ((j : ℕ) → j < length ns → take 7 (drop (2 + 7 * (k + j)) r) ≡ written 7 (pos (get_or ns j 0))) → drop (2 + 7 * k) r ≡ columns_of ns ++ drop (2 + 7 * (k + length ns)) r
columns_from r k [] h = ap (λ (m : ℕ). drop m r) (let q : 2 + 7 * k ≡ 2 + 7 * (k + 0) = omega arith in q)
columns_from r k (n ∷ ns) h =
    sym (take-append-drop 7 (drop (2 + 7 * k) r))
    ∙ ap₂ (λ (x y : List ℕ). x ++ y) (ap (λ (m : ℕ). take 7 (drop m r)) (let q : 2 + 7 * k ≡ 2 + 7 * (k + 0) = omega arith in q) ∙ h 0 (omega arith)) (drop-drop 7 (2 + 7 * k) r ∙ ap (λ (m : ℕ). drop m r) (let q : 2 + 7 * k + 7 ≡ 2 + 7 * suc k = omega arith in q) ∙ columns_from r (suc k) ns (λ j l. ap (λ (m : ℕ). take 7 (drop m r)) (let q : 2 + 7 * (suc k + j) ≡ 2 + 7 * (k + suc j) = omega arith in q) ∙ h (suc j) (omega arith)) ∙ ap (λ (m : ℕ). columns_of ns ++ drop m r) (let q : 2 + 7 * (suc k + length ns) ≡ 2 + 7 * (k + suc (length ns)) = omega arith in q))
    ∙ sym (append_assoc (written 7 (pos n)) (columns_of ns) (drop (2 + 7 * (k + suc (length ns))) r))

-- bytes that are all spaces
pub spaces-from : (l : List ℕ) → ((i : ℕ) → i < length l → get_or l i 0 ≡ 32) → l ≡ replicate (length l) 32
spaces-from [] h = refl
spaces-from (b ∷ l) h = ap₂ (λ (x : ℕ) (y : List ℕ). x ∷ y) (h 0 (omega arith)) (spaces-from l (λ i q. h (suc i) (omega arith)))

-- ---- record k of a buffer
module _ (b : List ℕ) (k : ℕ) (room : 84 * k + 84 ≤ length b) where
  abbrev r : List ℕ
  r = take 84 (drop (84 * k) b)

  wide : length r ≡ 84
  wide = length-take-le 84 (drop (84 * k) b) (rw (length-drop (84 * k) b) (omega arith))

  -- a byte of it, and a column
  pub byte_in : (i : ℕ) → i < 84 → get_or (take 84 (drop (84 * k) b)) i 0 ≡ get_or b (84 * k + i) 0
  byte_in i h = get_or-take 84 (drop (84 * k) b) i 0 h ∙ get_or-drop (84 * k) b i 0

  pub column_in_lem : (m : ℕ) → m + 7 ≤ 84 → take 7 (drop m (take 84 (drop (84 * k) b))) ≡ take 7 (drop (84 * k + m) b)
  column_in_lem m h = ap (take 7) (dropped m 84 (drop (84 * k) b) (omega arith)) ∙ shorter 7 (84 - m) (drop m (drop (84 * k) b)) (omega arith) ∙ ap (take 7) (drop-drop m (84 * k) b)
    where
      dropped : (m n : ℕ) (l : List ℕ) → m ≤ n → drop m (take n l) ≡ take (n - m) (drop m l)
      dropped zero n l h = ap (λ (x : ℕ). take x l) (let q : n ≡ n - 0 = omega arith in q)
      dropped (suc m) zero l h = absurd (omega arith)
      dropped (suc m) (suc n) [] h = nothing (n - m) ∙ ap (λ (x : ℕ). take {A = ℕ} x []) (let q : n - m ≡ suc n - suc m = omega arith in q)
        where
          nothing : (x : ℕ) → [] ≡ take {A = ℕ} x []
          nothing zero = refl
          nothing (suc x) = refl
      dropped (suc m) (suc n) (x ∷ l) h = dropped m n l (omega arith) ∙ ap (λ (y : ℕ). take y (drop m l)) (let q : n - m ≡ suc n - suc m = omega arith in q)

      shorter : (m n : ℕ) (l : List ℕ) → m ≤ n → take m (take n l) ≡ take m l
      shorter zero n l h = refl
      shorter (suc m) zero l h = absurd (omega arith)
      shorter (suc m) (suc n) [] h = refl
      shorter (suc m) (suc n) (x ∷ l) h = ap (λ (y : List ℕ). x ∷ y) (shorter m n l (omega arith))

  module _ (x y : ℕ) (ns : List ℕ) (few : length ns ≤ 11) where
    -- what it holds are these bytes
    pub holds_record : Holds b k x y ns → take 84 (drop (84 * k) b) ≡ record_of (x ∷ y ∷ []) ns
    holds_record h =
        letters-first r (omega (arith, wide))
        ∙ ap₂ (λ (a c : ℕ). a ∷ c ∷ drop 2 r) (byte_in 0 (omega arith) ∙ ap (λ (n : ℕ). get_or b n 0) (let q : 84 * k + 0 ≡ 84 * k = omega arith in q) ∙ h.first-letter) (byte_in 1 (omega arith) ∙ h.second_letter)
        ∙ ap (λ (l : List ℕ). x ∷ y ∷ l) (columns_from r 0 ns (λ j l. column_in_lem (2 + 7 * (0 + j)) (omega arith) ∙ ap (λ (m : ℕ). take 7 (drop (84 * k + (2 + 7 * m)) b)) (zero-add j) ∙ h.number j l) ∙ ap (λ (l : List ℕ). columns_of ns ++ l) rest)
      where
        letters-first : (l : List ℕ) → 2 ≤ length l → l ≡ get_or l 0 0 ∷ get_or l 1 0 ∷ drop 2 l
        letters-first [] h = absurd (omega arith)
        letters-first (a ∷ []) h = absurd (omega arith)
        letters-first (a ∷ c ∷ l) h = refl

        rest_long : length (drop (2 + 7 * (0 + length ns)) r) ≡ 82 - 7 * length ns
        rest_long = length-drop (2 + 7 * (0 + length ns)) r ∙ (omega (arith, wide))

        rest : drop (2 + 7 * (0 + length ns)) r ≡ replicate (82 - 7 * length ns) 32
        rest = spaces-from (drop (2 + 7 * (0 + length ns)) r) (λ i l. get_or-drop (2 + 7 * (0 + length ns)) r i 0 ∙ byte_in (2 + 7 * (0 + length ns) + i) (omega (arith, rest_long)) ∙ h.rest (2 + 7 * (0 + length ns) + i) (omega arith) (omega (arith, rest_long))) ∙ ap (λ (n : ℕ). replicate n 32) rest_long

    -- and the other way round
    pub record_holds : take 84 (drop (84 * k) b) ≡ record_of (x ∷ y ∷ []) ns → Holds b k x y ns
    unfolding column
    record_holds e = record {
      first-letter = ap (λ (n : ℕ). get_or b n 0) (let q : 84 * k ≡ 84 * k + 0 = omega arith in q) ∙ sym (byte_in 0 (omega arith)) ∙ ap (λ (l : List ℕ). get_or l 0 0) e;
      second_letter = sym (byte_in 1 (omega arith)) ∙ ap (λ (l : List ℕ). get_or l 1 0) e;
      number = λ i l. sym (column_in_lem (2 + 7 * i) (omega arith)) ∙ ap (λ (z : List ℕ). take 7 (drop (2 + 7 * i) z)) e ∙ columns i l;
      rest = λ i l u. sym (byte_in i u) ∙ ap (λ (z : List ℕ). get_or z i 0) e ∙ behind i l u;
    }
      where
        columns : (i : ℕ) → i < length ns → take 7 (drop (2 + 7 * i) (record_of (x ∷ y ∷ []) ns)) ≡ written 7 (pos (get_or ns i 0))
        columns i l = column-at (x ∷ y ∷ []) ns (record { x = x; y = y; are = refl }) i l

        behind : (i : ℕ) → 2 + 7 * length ns ≤ i → i < 84 → get_or (record_of (x ∷ y ∷ []) ns) i 0 ≡ 32
        behind i l u =
            ap (λ (n : ℕ). get_or (record_of (x ∷ y ∷ []) ns) n 0) (let q : i ≡ 2 + 7 * length ns + (i - (2 + 7 * length ns)) = omega arith in q)
            ∙ sym (get_or-drop (2 + 7 * length ns) (record_of (x ∷ y ∷ []) ns) (i - (2 + 7 * length ns)) 0)
            ∙ ap (λ (z : List ℕ). get_or z (i - (2 + 7 * length ns)) 0) (drop_at (x ∷ y ∷ columns_of ns) (replicate (82 - 7 * length ns) 32) (2 + 7 * length ns) (ap (λ (n : ℕ). suc (suc n)) (length_columns ns) ∙ (omega arith)))
            ∙ get_or-replicate (82 - 7 * length ns) (i - (2 + 7 * length ns)) 32 0 (omega arith)
