-- Many bytes: the doubts of letters put one after another are the sum of theirs, and where a column's bytes have none, it is well formed.
-- Assumes nothing.
use mathlib.Core.Path.{◌≡◌, refl, ap, sym, ◌∙◌}
use mathlib.Core.Bool.{Bool, true, false, cond}
use mathlib.Core.List.{List, [], ◌∷◌, ◌++◌}
use Prim.Native.Nat.{ℕ, zero, suc, ◌+◌, ◌≤◌, ◌<◌}
use native.Mathlib.Nat.{zero-add, add_assoc}
use native.Mathlib.Numerals.{add-one}
use native.Mathlib.Omega.{arith}
use lib.ListN.{length, take, drop, get_or}
use lib.Seq.{drop-cons}
use Rattle.std.proofs.Common.{min}
use borrow.Author.Tests.{ltb-true, ltb-false}
use lib.Dec.{ltb}
use Rattle.form_bytes.specs.Doubt.{surely_right, doubt}
use Rattle.form_bytes.specs.Letters.{behind, letters_in, doubts_in}
use Rattle.form_bytes.proofs.Neighbours.{Right, first_letter, between_letter, last-right, only_right, between-right, first-right, Loose, loose_last, loose_only, loose_between, loose_first}

-- ---- `most_at`
pub least_of : (letter most x : ℕ) → x ≡ min letter most → x ≡ cond (ltb letter most) letter most
least_of letter most x e = e ∙ go (ltb letter most) refl
  where
    go : (t : Bool) → ltb letter most ≡ t → min letter most ≡ cond t letter most
    go true e = omega (arith, ltb-true letter most e)
    go false e = omega (arith, ltb-false letter most e)

-- ---- one byte

pub right-at : (k p b : ℕ) → doubt k p b ≡ 0 → surely_right k p b ≡ true
unfolding doubt
right-at k p b = go (surely_right k p b)
  where
    go : (x : Bool) → cond {A = ℕ} x 0 1 ≡ 0 → x ≡ true
    go true e = refl
    go false e = absurd (omega arith)

pub at_most_one : (k p b r : ℕ) → r ≡ doubt k p b → r ≤ 1
unfolding doubt
at_most_one k p b r e = go (surely_right k p b) r e
  where
    go : (x : Bool) (r : ℕ) → r ≡ cond x 0 1 → r ≤ 1
    go true r e = omega arith
    go false r e = omega arith

-- where anything may stand, nothing is in doubt
pub anything : (p b : ℕ) → doubt 46 p b ≡ 0
unfolding doubt surely_right
anything p b = refl

-- ---- one byte after another

-- one byte, and those behind it, as a loop counts them
pub one_more : (ks l : List ℕ) (i j p : ℕ) → i < length ks → j < length l → doubts_in (drop i ks) p (drop j l) ≡ doubt (get_or ks i 0) p (get_or l j 0) + doubts_in (drop (i + 1) ks) (get_or l j 0) (drop (j + 1) l)
unfolding doubts_in
one_more ks l i j p h k = rw (add-one i, add-one j, drop-cons ks i 0 h, drop-cons l j 0 k)

-- letters, and others behind them
pub doubts_append : (ks ls : List ℕ) (p : ℕ) (l : List ℕ) → length ks ≤ length l → doubts_in (ks ++ ls) p l ≡ doubts_in ks p l + doubts_in ls (get_or (p ∷ l) (length ks) 0) (drop (length ks) l)
unfolding doubts_in
doubts_append [] ls p l h = sym (zero-add (doubts_in ls p l))
doubts_append (k ∷ ks) ls p [] h = absurd (omega arith)
doubts_append (k ∷ ks) ls p (b ∷ bs) h = rw (doubts_append ks ls b bs (omega arith)) (sym (add_assoc (doubt k p b) (doubts_in ks b bs) _))

pub length-behind : (between last n : ℕ) → length (behind between last n) ≡ suc n
unfolding behind
length-behind between last zero = refl
length-behind between last (suc n) = ap suc (length-behind between last n)

pub length-letters : (first between last width : ℕ) → length (letters_in first between last width) ≡ width
unfolding letters_in
length-letters first between last zero = refl
length-letters first between last (suc zero) = refl
length-letters first between last (suc (suc n)) = ap suc (length-behind between last n)

-- ---- a column of which no byte is in doubt

behind-right : (s : Bool) (n p : ℕ) (l : List ℕ) → n < length l → doubts_in (behind (between_letter s) 100 n) p l ≡ 0 → Right s p (take (suc n) l)
unfolding behind doubts_in
behind-right s n p [] h e = absurd (omega arith)
behind-right s zero p (b ∷ bs) h e = last-right s p b (right-at 100 p b (omega arith))
behind-right s (suc n) p (b ∷ bs) h e =
    between-right s p b (take (suc n) bs) (behind-right s n b bs (omega arith) (omega arith)) (right-at (between_letter s) p b (omega arith))

pub column-right : (s : Bool) (w p : ℕ) (l : List ℕ) → 0 < w → w ≤ length l → doubts_in (letters_in (first_letter s) (between_letter s) 100 w) p l ≡ 0 → Right s 32 (take w l)
unfolding letters_in doubts_in
column-right s zero p l g h e = absurd (omega arith)
column-right s (suc w) p [] g h e = absurd (omega arith)
column-right s (suc zero) p (b ∷ bs) g h e = only_right s p b (right-at 100 p b (omega arith))
column-right s (suc (suc n)) p (b ∷ bs) g h e =
    first-right s p b (take (suc n) bs) (behind-right s n b bs (omega arith) (omega arith)) (right-at (first_letter s) p b (omega arith))

behind_loose : (n p : ℕ) (l : List ℕ) → n < length l → doubts_in (behind 109 115 n) p l ≡ 0 → Loose p (take (suc n) l)
unfolding behind doubts_in
behind_loose n p [] h e = absurd (omega arith)
behind_loose zero p (b ∷ bs) h e = loose_last p b (right-at 115 p b (omega arith))
behind_loose (suc n) p (b ∷ bs) h e =
    loose_between p b (take (suc n) bs) (behind_loose n b bs (omega arith) (omega arith)) (right-at 109 p b (omega arith))

pub column_loose : (w p : ℕ) (l : List ℕ) → 0 < w → w ≤ length l → doubts_in (letters_in 77 109 115 w) p l ≡ 0 → Loose 32 (take w l)
unfolding letters_in doubts_in
column_loose zero p l g h e = absurd (omega arith)
column_loose (suc w) p [] g h e = absurd (omega arith)
column_loose (suc zero) p (b ∷ bs) g h e = loose_only p b (right-at 115 p b (omega arith))
column_loose (suc (suc n)) p (b ∷ bs) g h e =
    loose_first p b (take (suc n) bs) (behind_loose n b bs (omega arith) (omega arith)) (right-at 77 p b (omega arith))
