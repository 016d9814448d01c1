-- Columns whose bytes are surely right: where the doubts of their bytes add up to 0, each column is well formed. Assumes nothing.
use mathlib.Core.Path.{◌≡◌, refl, ap, sym, ◌∙◌}
use mathlib.Core.Bool.{Bool, true, false, cond}
use mathlib.Core.List.{List, [], ◌∷◌, ◌++◌}
use Prim.Native.Nat.{ℕ, zero, suc, ◌+◌, ◌-◌, ◌*◌, ◌≤◌, ◌<◌}
use native.Mathlib.Omega.{arith}
use borrow.Author.Tests.{eqb-true}
use lib.Dec.{eqb, ltb}
use lib.ListN.{length, take, drop, get_or, replicate, length-drop, drop_of_length-le}
use Rattle.format.specs.Column.{column_of, formed}
use Rattle.format.proofs.Basics.{true_and}
use Rattle.form_bytes.specs.Doubt.{doubt}
use Rattle.form_bytes.specs.Letters.{behind, letters_in, doubts_in}
use Rattle.form_bytes.proofs.Neighbours.{column-after}
use Rattle.form_bytes.proofs.Doubts.{at_most_one, anything, one_more, doubts_append, column-right}
use Rattle.form_columns.specs.Columns.{each_formed}
use Rattle.form_columns.specs.Counted.{counted_if}

-- ---- the letters of columns of seven bytes

unfoldable pub letters_of : ℕ → List ℕ
letters_of zero = []
letters_of (suc columns) = letters_in 77 109 100 7 ++ letters_of columns

length_columns : (columns : ℕ) → length (letters_of columns) ≡ columns * 7
unfolding letters_of letters_in behind
length_columns zero = refl
length_columns (suc m) = omega (arith, length_columns m)

-- no doubt, well formed
all_right : (columns p : ℕ) (l : List ℕ) → columns * 7 ≤ length l → doubts_in (letters_of columns) p l ≡ 0 → each_formed columns l ≡ true
unfolding letters_of letters_in behind each_formed
all_right zero p l h e = refl
all_right (suc m) p l h e =
    let s = doubts_append (letters_in 77 109 100 7) (letters_of m) p l (omega arith) in
    let z : doubts_in (letters_in 77 109 100 7) p l ≡ 0 = omega arith in
    let k : doubts_in (letters_of m) (get_or (p ∷ l) 7 0) (drop 7 l) ≡ 0 = omega arith in
    true_and (formed (column_of (take 7 l))) (each_formed m (drop 7 l))
    (column-after refl (column-right true 7 p l (omega arith) (omega arith) z))
    (all_right m (get_or (p ∷ l) 7 0) (drop 7 l) (rw (length-drop 7 l) (omega arith)) k)

-- ---- the loops, in the code's own words: the first byte of a column, and bytes by the letters `ks` behind it

unfoldable pub all_doubts : List ℕ → List ℕ → ℕ → ℕ
all_doubts ks l at = doubts_in (77 ∷ ks) 32 (drop at l)

-- those behind the byte at + i
unfoldable pub doubts_from : List ℕ → List ℕ → ℕ → ℕ → ℕ
doubts_from ks l at i = doubts_in (drop i ks) (get_or l (at + i) 0) (drop (at + i + 1) l)

first_of_all : (ks l : List ℕ) (at x : ℕ) → x ≡ doubt 77 32 (get_or l at 0) → at < length l → x + doubts_from ks l at 0 ≡ all_doubts ks l at
unfolding all_doubts doubts_from
first_of_all ks l at x e h =
    let z : at + 0 ≡ at = omega arith in
    rw (z, e) (sym (one_more (77 ∷ ks) l 0 at 32 (omega arith) h))

next_of_all : (ks l : List ℕ) (at x i doubts : ℕ) → x ≡ doubt (get_or ks i 0) (get_or l (at + i) 0) (get_or l (at + i + 1) 0) → i < length ks → at + i + 1 < length l → doubts + doubts_from ks l at i ≡ all_doubts ks l at → (doubts + x) + doubts_from ks l at (i + 1) ≡ all_doubts ks l at
unfolding doubts_from
next_of_all ks l at x i doubts e h k s =
    let f : at + (i + 1) ≡ at + i + 1 = omega arith in
    rw f (omega (arith, one_more ks l i (at + i + 1) (get_or l (at + i) 0) h k))

none_of_all : (ks l : List ℕ) (at i doubts : ℕ) → length ks ≤ i → doubts + doubts_from ks l at i ≡ all_doubts ks l at → eqb doubts 0 ≡ true → doubts_in (77 ∷ ks) 32 (drop at l) ≡ 0
unfolding all_doubts doubts_from doubts_in
none_of_all ks l at i doubts h s z =
    let e : drop i ks ≡ [] = drop_of_length-le ks {i = i} h in
    let x : doubts + 0 ≡ doubts_in (77 ∷ ks) 32 (drop at l) = rw e at s in
    omega (arith, eqb-true doubts 0 z)

one_at_most_more : (k p b x i doubts : ℕ) → x ≡ doubt k p b → doubts ≤ i + 1 → doubts + x ≤ i + 1 + 1
one_at_most_more k p b x i doubts e h = omega (arith, at_most_one k p b x e)

-- what holds after i bytes: the doubts so far and those still to come are all doubts; and no more than one a byte, so that the sum stays a byte
pub record Counting (ks l : List ℕ) (at doubts i : ℕ) : Type 0 where
  pub small : doubts ≤ i + 1
  pub sums : doubts + doubts_from ks l at i ≡ all_doubts ks l at

-- ---- `ends_sure`

unfoldable pub behind_first : List ℕ
behind_first = drop 1 (letters_of 7)

module _ (l : List ℕ) (at : ℕ) (room : at + 49 ≤ length l) where
  pub first-doubt : (x : ℕ) → x ≡ doubt 77 32 (get_or l at 0) → Counting behind_first l at x 0
  first-doubt x e = record { small = at_most_one 77 32 (get_or l at 0) x e; sums = first_of_all behind_first l at x e (omega arith) }

  pub next-doubt : (x i doubts : ℕ) → x ≡ doubt (get_or behind_first i 0) (get_or l (at + i) 0) (get_or l (at + i + 1) 0) → i < 48 → Counting behind_first l at doubts i → Counting behind_first l at (doubts + x) (i + 1)
  unfolding behind_first letters_of letters_in behind
  next-doubt x i doubts e k s =
      record { small = one_at_most_more (get_or behind_first i 0) (get_or l (at + i) 0) (get_or l (at + i + 1) 0) x i doubts e s.small; sums = next_of_all behind_first l at x i doubts e k (omega arith) s.sums }

  pub no_doubt : (i doubts : ℕ) → 48 ≤ i → Counting behind_first l at doubts i → eqb doubts 0 ≡ true → each_formed 7 (drop at l) ≡ true
  unfolding behind_first letters_of letters_in behind
  no_doubt i doubts k s z = all_right 7 32 (drop at l) (rw (length-drop at l) (omega arith)) (none_of_all behind_first l at i doubts k s.sums z)

-- ---- `few_sure`

-- the letters of which the doubts count: those of columns before `end`
unfoldable pub used : ℕ → List ℕ → List ℕ → List ℕ
used end [] ks = []
used end (c ∷ cs) [] = []
used end (c ∷ cs) (k ∷ ks) = cond (ltb c end) k 46 ∷ used end cs ks

-- the columns of seven, from '0' (48) to '6', of the bytes behind the first
unfoldable pub columns_of : List ℕ
columns_of =
    replicate 6 48 ++ (replicate 7 49 ++ (replicate 7 50 ++ (replicate 7 51 ++ (replicate 7 52 ++ (replicate 7 53 ++ replicate 7 54)))))

used-at : (end i : ℕ) (cs ks : List ℕ) → i < length cs → length cs ≡ length ks → get_or (used end cs ks) i 0 ≡ cond (ltb (get_or cs i 0) end) (get_or ks i 0) 46
unfolding used
used-at end i [] ks h e = absurd (omega arith)
used-at end i (c ∷ cs) [] h e = absurd (omega arith)
used-at end zero (c ∷ cs) (k ∷ ks) h e = refl
used-at end (suc i) (c ∷ cs) (k ∷ ks) h e = used-at end i cs ks (omega arith) (omega arith)

length-used : (end : ℕ) (cs ks : List ℕ) → length cs ≡ length ks → length (used end cs ks) ≡ length cs
unfolding used
length-used end [] ks e = refl
length-used end (c ∷ cs) [] e = absurd (omega arith)
length-used end (c ∷ cs) (k ∷ ks) e = ap suc (length-used end cs ks (omega arith))

-- the letters behind the first of `count` columns
unfoldable pub behind_first_of : ℕ → List ℕ
behind_first_of count = used (48 + count) columns_of behind_first

48_letters : (count : ℕ) → length (behind_first_of count) ≡ 48
unfolding behind_first_of columns_of behind_first letters_of letters_in behind
48_letters count = length-used (48 + count) columns_of behind_first refl

letters-at : (count i : ℕ) → i < 48 → get_or (behind_first_of count) i 0 ≡ cond (ltb (get_or columns_of i 0) (48 + count)) (get_or behind_first i 0) 46
unfolding behind_first_of columns_of behind_first letters_of letters_in behind
letters-at count i h = used-at (48 + count) i columns_of behind_first h refl

counted_is : (t : Bool) (x d k p b : ℕ) → x ≡ counted_if t d → d ≡ doubt k p b → x ≡ doubt (cond t k 46) p b
unfolding counted_if
counted_is true x d k p b e f = e ∙ f
counted_is false x d k p b e f = e ∙ sym (anything p b)

pub counted_small : (t : Bool) (k p b x d : ℕ) → x ≡ counted_if t d → d ≡ doubt k p b → x ≤ 1
counted_small t k p b x d e f = at_most_one (cond t k 46) p b x (counted_is t x d k p b e f)

module _ (l : List ℕ) (at count : ℕ) (room : at + 49 ≤ length l) where
  pub few-first-doubt : (x : ℕ) → x ≡ doubt 77 32 (get_or l at 0) → Counting (behind_first_of count) l at x 0
  few-first-doubt x e =
      record { small = at_most_one 77 32 (get_or l at 0) x e; sums = first_of_all (behind_first_of count) l at x e (omega arith) }

  pub few-next-doubt : (x d i doubts : ℕ) → x ≡ counted_if (ltb (get_or columns_of i 0) (48 + count)) d → d ≡ doubt (get_or behind_first i 0) (get_or l (at + i) 0) (get_or l (at + i + 1) 0) → i < 48 → Counting (behind_first_of count) l at doubts i → Counting (behind_first_of count) l at (doubts + x) (i + 1)
  few-next-doubt x d i doubts e f k s =
      record { small = one_at_most_more (get_or (behind_first_of count) i 0) (get_or l (at + i) 0) (get_or l (at + i + 1) 0) x i doubts here s.small; sums = next_of_all (behind_first_of count) l at x i doubts here (omega (arith, 48_letters count)) (omega arith) s.sums }
    where
      here : x ≡ doubt (get_or (behind_first_of count) i 0) (get_or l (at + i) 0) (get_or l (at + i + 1) 0)
      here =
          counted_is (ltb (get_or columns_of i 0) (48 + count)) x d (get_or behind_first i 0) (get_or l (at + i) 0) (get_or l (at + i + 1) 0) e f ∙ sym (ap (λ (n : ℕ). doubt n (get_or l (at + i) 0) (get_or l (at + i + 1) 0)) (letters-at count i k))

-- their letters are those of `count` columns, and then anything may stand
few-letters : (count : ℕ) → 1 ≤ count → count ≤ 7 → 77 ∷ behind_first_of count ≡ letters_of count ++ replicate (49 - count * 7) 46
unfolding behind_first_of used columns_of behind_first letters_of letters_in behind
few-letters zero h k = absurd (omega arith)
few-letters (suc zero) h k = refl
few-letters (suc (suc zero)) h k = refl
few-letters (suc (suc (suc zero))) h k = refl
few-letters (suc (suc (suc (suc zero)))) h k = refl
few-letters (suc (suc (suc (suc (suc zero))))) h k = refl
few-letters (suc (suc (suc (suc (suc (suc zero)))))) h k = refl
few-letters (suc (suc (suc (suc (suc (suc (suc zero))))))) h k = refl
few-letters (suc (suc (suc (suc (suc (suc (suc (suc n)))))))) h k = absurd (omega arith)

pub few_no_doubt : (l : List ℕ) (at count i doubts : ℕ) → 1 ≤ count → count ≤ 7 → at + 49 ≤ length l → 48 ≤ i → Counting (behind_first_of count) l at doubts i → eqb doubts 0 ≡ true → each_formed count (drop at l) ≡ true
few_no_doubt l at count i doubts a b h k s z =
    let e = none_of_all (behind_first_of count) l at i doubts (omega (arith, 48_letters count)) s.sums z in
    let f : count * 7 ≤ length (drop at l) = rw (length-drop at l) (omega arith) in
    let g = doubts_append (letters_of count) (replicate (49 - count * 7) 46) 32 (drop at l) (rw (length_columns count) f) in
    all_right count 32 (drop at l) f (omega (arith, ap (λ (ks : List ℕ). doubts_in ks 32 (drop at l)) (few-letters count a b)))
