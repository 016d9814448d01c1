-- The digits of a number, counted and stored from the last to the first. Assumes nothing.
use mathlib.Core.Path.{◌≡◌, refl, ap, sym, ◌∙◌}
use mathlib.Core.List.{List, [], ◌∷◌, ◌++◌, append_assoc}
use Prim.Native.Nat.{ℕ, max, zero, suc, ◌+◌, ◌-◌, ◌*◌, ◌/◌, ◌%◌, ◌^◌, ◌≤◌, ◌<◌}
use native.Mathlib.Nat.{pow-le-pow_right, pow-suc, add-zero, add-suc}
use native.Mathlib.Numerals.{add-one}
use native.Mathlib.Omega.{arith}
use borrow.Author.Tests.{lt-ltb, le-ltb}
use lib.ListN.{take-append-drop, length, take, drop, set, length-append, length-set}
use lib.Seq.{take-set-le}
use Rattle.format.specs.Column.{digits_in, digits}
use Rattle.format.proofs.Lists.{drop-set}
use Rattle.format.proofs.Columns.{Size, below, above, size_of, length_one, length_more}
use Rattle.files.specs.Buffers.{put_at}
use Rattle.files.proofs.Buffers.{put-there}
use Rattle.report.specs.Steps.{last_digits, stored_digits}

-- ---- how many: one more than the exponent of the greatest power of ten that is not above the number; 0 has one

by_exponent : (f k n : ℕ) → 10 ^ k ≤ n → n < 10 * 10 ^ k → k ≤ f → k + 1 ≡ length (digits_in f n)
by_exponent f zero n low high h = sym (length_one f n (omega arith))
by_exponent zero (suc k) n low high h = absurd (omega arith)
by_exponent (suc f) (suc k) n low high h =
    let low' : 10 ^ k * 10 ≤ n = rw pow-suc at low in
    let high' : n < 10 * (10 ^ k * 10) = rw pow-suc at high in
    let some : 10 ^ 0 ≤ 10 ^ k = pow-le-pow_right {n = 10} (omega arith) {i = 0} {j = k} (omega arith) in
    let more : 10 ≤ n = omega arith in
    omega (arith, length_more f n more, by_exponent f k (n / 10) (omega arith) (omega arith) (omega arith))

pub digits-counted : (n m k : ℕ) → m ≡ max n 1 → 10 ^ k ≤ m → m < 10 * 10 ^ k → k < 20 → k + 1 ≡ length (digits n)
unfolding digits digits_in
digits-counted zero m k e low high h = by_exponent 19 k 1 (rw e at low) (rw e at high) (omega arith)
digits-counted (suc n) m k e low high h = let f : m ≡ suc n = omega arith in by_exponent 19 k (suc n) (rw f at low) (rw f at high) (omega arith)

-- or one digit after the other: nothing but the first is left, and `count` is one more than the digits counted
pub counted : (n left count : ℕ) → left < 10 → length (digits n) + 1 ≡ count + length (digits_in (20 - count) left) → count ≡ length (digits n)
counted n left count h e = omega (arith, e, length_one (20 - count) left h)

-- ---- the digits stored, from the last to the first
-- one turn, and the end, of the loop of stores
pub one_stored : (out : List ℕ) (at count n : ℕ) → 0 < count → stored_digits (set out (at + (count - 1)) (48 + n % 10)) at (count - 1) (n / 10) ≡ stored_digits out at count n
unfolding stored_digits
one_stored out at zero n h = absurd (omega arith)
one_stored out at (suc count) n h = let e : suc count - 1 ≡ count = omega arith in rw e refl

pub none_left : (out : List ℕ) (at count n : ℕ) → count ≤ 0 → out ≡ stored_digits out at count n
unfolding stored_digits
none_left out at zero n h = refl
none_left out at (suc count) n h = absurd (omega arith)

-- the stores put the last digits of the number there, and change nothing else
pub stored_is : (count : ℕ) (out : List ℕ) (at n : ℕ) → at + count ≤ length out → stored_digits out at count n ≡ take at out ++ (last_digits count n ++ drop (at + count) out)
unfolding stored_digits last_digits
stored_is zero out at n h = rw (add-zero at) (sym (take-append-drop at out))
stored_is (suc count) out at n h =
    let v : ℕ = 48 + n % 10 in
    stored_is count (set out (at + count) v) at (n / 10) (rw (length-set out (at + count) v) (omega arith)) ∙
    rw (take-set-le at out (at + count) v (omega arith), drop-set out (at + count) v (omega arith), add-suc at count, append_assoc (last_digits count (n / 10)) (v ∷ []) (drop (suc (at + count)) out)) refl

-- the last digits, as many as there are, are all digits
abbrev Last : ℕ → Type 0
Last f = (n : ℕ) → n < 10 ^ suc f → digits_in f n ≡ last_digits (length (digits_in f n)) n

last_one : (n : ℕ) → n < 10 → (48 + n) ∷ [] ≡ last_digits 1 n
unfolding last_digits
last_one n h = let e : n % 10 ≡ n = omega arith in rw e refl

last-next : (f n : ℕ) → Size n → Last f → n < 10 ^ suc (suc f) → digits_in (suc f) n ≡ last_digits (length (digits_in (suc f) n)) n
unfolding digits_in last_digits
last-next f n (below h) ih b = simp (lt-ltb n 10 h) (last_one n h)
last-next f n (above h) ih b =
    let b' : n < 10 ^ suc f * 10 = rw pow-suc at b in
    simp (le-ltb n 10 h)
    (rw (length-append (digits_in f (n / 10)) ((48 + n % 10) ∷ []), add-one (length (digits_in f (n / 10))))
    (ap (λ (l : List ℕ). l ++ ((48 + n % 10) ∷ [])) (ih (n / 10) (omega arith))))

last : (f : ℕ) → Last f
unfolding digits_in
last zero n h = last_one n h
last (suc f) n h = last-next f n (size_of n) (last f) h

-- a number of 64 bits stored whole
pub digits-put : (out : List ℕ) (at n : ℕ) → n < 2 ^ 64 → at + length (digits n) ≤ length out → stored_digits out at (length (digits n)) n ≡ put_at out at (digits n)
unfolding digits
digits-put out at n b h = stored_is (length (digits_in 19 n)) out at n h ∙ ap (λ (l : List ℕ). take at out ++ (l ++ drop (at + length (digits_in 19 n)) out)) (sym (last 19 n (omega arith))) ∙ sym (put-there out at (digits_in 19 n) h)
