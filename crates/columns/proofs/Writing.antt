-- Writing byte by byte from the right gives the written form. Assumes nothing.
use mathlib.Core.Path.{◌≡◌, refl, ap, sym, ◌∙◌}
use mathlib.Core.Bool.{Bool, true, false, cond, false≢true, true≢false}
use mathlib.Core.List.{List, [], ◌∷◌, ◌++◌, append_assoc, append-nil}
use Prim.Native.Nat.{ℕ, zero, suc, ◌+◌, ◌-◌, ◌*◌, ◌/◌, ◌^◌, ◌≤◌, ◌<◌}
use native.Mathlib.Nat.{not-suc-le-zero, le_of_suc-le-suc, pow-suc, pow-le-pow_right, mod-eq_of_lt}
use native.Mathlib.Numerals.{add-one}
use native.Mathlib.Omega.{arith}
use borrow.Author.Tests.{lt-ltb, le-ltb, ltb-true, leb-true}
use lib.Dec.{ltb, lit<, leb-suc-zero}
use lib.IntN.{ℤ, pos, negsuc, nat_abs}
use lib.Signed.{lt_z}
use lib.ListN.{length, drop, set, replicate, length-append, length-replicate, replicate-append-replicate}
use lib.Seq.{take_all}
use Rattle.format.specs.Column.{digits_in, digits, text_of, fits, written}
use Rattle.format.proofs.Lists.{drop-set}
use Rattle.format.proofs.ColumnFits.{fits_plus, fits-minus}
use Rattle.format.proofs.Columns.{Size, below, above, size_of}
use Rattle.columns.specs.declared.Rest.{Rest}
use Rattle.columns.specs.declared.Rest.TheVariants.{Digits, Minus, Spaces}
use Rattle.columns.specs.WriteSteps.{byte_of, before_of, filled}

-- ---- the loop of stores, in the code's own words: what is left to write, and behind it what was written

one_stored : (l : List ℕ) (j : ℕ) (s : Rest) → j < length l → filled j (before_of s) ++ drop j (set l j (byte_of s)) ≡ filled (suc j) s ++ drop (suc j) l
unfolding filled
one_stored l j s h = rw (drop-set l j (byte_of s) h) (sym (append_assoc (filled j (before_of s)) (byte_of s ∷ []) (drop (suc j) l)))

pub stored : (l l₀ r : List ℕ) (i b : ℕ) (s s' : Rest) → b ≡ byte_of s → s' ≡ before_of s → 0 < i → i ≤ length l₀ → length l ≡ length l₀ → filled i s ++ drop i l ≡ r → filled (i - 1) s' ++ drop (i - 1) (set l (i - 1) b) ≡ r
stored l l₀ r zero b s s' e f h k n g = absurd (not-suc-le-zero h)
stored l l₀ r (suc j) b s s' e f h k n g = let i : suc j - 1 ≡ j = omega arith in rw (e, f, i) (one_stored l j s (omega arith) ∙ g)

pub all_stored : (l r : List ℕ) (i : ℕ) (s : Rest) → i ≤ 0 → filled i s ++ drop i l ≡ r → l ≡ r
unfolding filled
all_stored l r zero s h g = g
all_stored l r (suc i) s h g = absurd (not-suc-le-zero h)

-- ---- what the stores leave: the text, with spaces in front

padded : ℕ → List ℕ → List ℕ
padded w t = replicate (w - length t) 32 ++ t

-- one byte more, at the end
padded_more : (w : ℕ) (t : List ℕ) (s : Rest) → filled w (before_of s) ≡ padded w t → length t ≤ w → filled (suc w) s ≡ padded (suc w) (t ++ (byte_of s ∷ []))
unfolding filled padded
padded_more w t s e h =
    let k : suc w - (length t + 1) ≡ w - length t = omega arith in
    simp (e, append_assoc, length-append, k)

all-spaces : (w : ℕ) → filled w Spaces ≡ replicate w 32
unfolding filled byte_of before_of
all-spaces zero = refl
all-spaces (suc w) = rw (all-spaces w) (replicate-append-replicate w 1 32 ∙ rw add-one)

spaces : (w : ℕ) → filled w Spaces ≡ padded w []
unfolding padded
spaces w = let e : w - 0 ≡ w = omega arith in rw (all-spaces w, e) (sym (append-nil (replicate w 32)))

-- the minus, where there is one
sign : Bool → List ℕ
sign true = 45 ∷ []
sign false = []

filled_sign : (m : Bool) (w : ℕ) → length (sign m) ≤ w → filled w (cond m Minus Spaces) ≡ padded w (sign m)
unfolding sign before_of byte_of
filled_sign false w h = spaces w
filled_sign true zero h = absurd (not-suc-le-zero h)
filled_sign true (suc w) h = padded_more w [] Minus (spaces w) (omega arith)

filled_one : (m : Bool) (w n : ℕ) → n < 10 → length (sign m) < w → filled w (Digits m n) ≡ padded w (sign m ++ ((48 + n) ∷ []))
unfolding before_of byte_of
filled_one m zero n h k = absurd (not-suc-le-zero k)
filled_one m (suc w) n h k =
    let e : filled w (before_of (Digits m n)) ≡ padded w (sign m) = simp (lt-ltb n 10 h) (filled_sign m w (le_of_suc-le-suc k)) in
    padded_more w (sign m) (Digits m n) e (le_of_suc-le-suc k) ∙ rw (mod-eq_of_lt h)

filled_more : (m : Bool) (f w n : ℕ) → 10 ≤ n → filled w (Digits m (n / 10)) ≡ padded w (sign m ++ digits_in f (n / 10)) → length (sign m ++ digits_in f (n / 10)) ≤ w → filled (suc w) (Digits m n) ≡ padded (suc w) (sign m ++ digits_in (suc f) n)
unfolding before_of byte_of digits_in
filled_more m f w n h ih k =
    let e : filled w (before_of (Digits m n)) ≡ padded w (sign m ++ digits_in f (n / 10)) = simp (le-ltb n 10 h) ih in
    padded_more w (sign m ++ digits_in f (n / 10)) (Digits m n) e k ∙ simp (le-ltb n 10 h, append_assoc)

length_more : (m : Bool) (f n : ℕ) → 10 ≤ n → length (sign m ++ digits_in (suc f) n) ≡ suc (length (sign m ++ digits_in f (n / 10)))
unfolding digits_in
length_more m f n h = simp (le-ltb n 10 h, length-append) (omega arith)

abbrev Filled : Bool → ℕ → Type 0
Filled m f = (w n : ℕ) → n < 10 ^ suc f → length (sign m ++ digits_in f n) ≤ w → filled w (Digits m n) ≡ padded w (sign m ++ digits_in f n)

filled_next : (m : Bool) (f : ℕ) → Filled m f → (w n : ℕ) → Size n → n < 10 ^ suc (suc f) → length (sign m ++ digits_in (suc f) n) ≤ w → filled w (Digits m n) ≡ padded w (sign m ++ digits_in (suc f) n)
unfolding digits_in
filled_next m f ih w n (below h) b k =
    let k' : length (sign m ++ ((48 + n) ∷ [])) ≤ w = simp (lt-ltb n 10 h) at k in
    simp (lt-ltb n 10 h) (filled_one m w n h (omega (arith, length-append (sign m) ((48 + n) ∷ []))))
filled_next m f ih zero n (above h) b k = absurd (not-suc-le-zero (rw (length_more m f n h) at k))
filled_next m f ih (suc w) n (above h) b k =
    let k' : length (sign m ++ digits_in f (n / 10)) ≤ w = le_of_suc-le-suc (rw (length_more m f n h) at k) in
    let b' : n < 10 ^ suc f * 10 = rw pow-suc at b in
    filled_more m f w n h (ih w (n / 10) (omega arith) k') k'

filled-digits : (m : Bool) (f : ℕ) → Filled m f
unfolding digits_in
filled-digits m zero w n b k = filled_one m w n b (omega (arith, length-append (sign m) ((48 + n) ∷ [])))
filled-digits m (suc f) w n b k = filled_next m f (filled-digits m f) w n (size_of n) b k

text_is : (z : ℤ) → text_of z ≡ sign (lt_z z (pos 0)) ++ digits_in 19 (nat_abs z)
unfolding text_of digits sign
text_is (pos n) = rw (leb-suc-zero n)
text_is (negsuc n) = refl

-- ---- when a number fits, as the code tests it: a minus takes one byte of the width
abbrev pub room_for : Bool → ℕ → ℕ
room_for true width = width - 1
room_for false width = width

pub fits-room : (width : ℕ) (z : ℤ) (m : Bool) → lt_z z (pos 0) ≡ m → 1 ≤ width → width ≤ 18 → fits width z ≡ ltb (nat_abs z) (10 ^ room_for m width)
fits-room width (pos n) true t h k = absurd (false≢true (sym (leb-suc-zero n) ∙ t))
fits-room width (pos n) false t h k = fits_plus width n h (omega arith)
fits-room zero (negsuc n) true t h k = absurd (not-suc-le-zero h)
fits-room (suc w) (negsuc n) true t h k = let e : suc w - 1 ≡ w = omega arith in rw e (fits-minus w n (omega arith))
fits-room width (negsuc n) false t h k = absurd (true≢false t)

room_most : (width : ℕ) (m : Bool) → width ≤ 18 → room_for m width ≤ 18
room_most width true h = omega arith
room_most width false h = h

-- THE STORES LEAVE THE WRITTEN FORM
pub filled-written : (width : ℕ) (z : ℤ) → 1 ≤ width → width ≤ 18 → fits width z ≡ true → filled width (Digits (lt_z z (pos 0)) (nat_abs z)) ≡ written width z
unfolding written fits padded
filled-written width z h k e =
    let m = lt_z z (pos 0) in
    let n : length (text_of z) ≤ width = leb-true (length (text_of z)) width e in
    let b : nat_abs z < 10 ^ room_for m width = ltb-true (nat_abs z) (10 ^ room_for m width) (sym (fits-room width z m refl h k) ∙ e) in
    let b' : nat_abs z < 10 ^ 20 = omega (arith, pow-le-pow_right {n = 10} (lit< tt) {i = room_for m width} {j = 18} (room_most width m k)) in
    filled-digits m 19 width (nat_abs z) b' (rw (text_is z) at n) ∙ ap (padded width) (sym (text_is z)) ∙ sym (take_all width (padded width (text_of z)) (simp (length-append, length-replicate) (omega arith)))
