-- One column by what is judged in it: where no byte is in doubt by its letters, it is well formed and inside its rule, but for a 0 where a number
-- above 0 is due. Assumes nothing.
use mathlib.Core.Path.{◌≡◌, refl, sym}
use mathlib.Core.Bool.{Bool, true, false, cond, ◌&&◌, false≢true}
use mathlib.Core.List.{List, [], ◌∷◌}
use Prim.Native.Nat.{ℕ, zero, suc, ◌+◌, ◌-◌, ◌≤◌, ◌<◌}
use native.Mathlib.Omega.{arith}
use borrow.Author.Tests.{le-leb, leb-true, ltb-false, eqb-true, eqb-false, ne_eqb}
use lib.Dec.{eqb, leb, ltb}
use lib.IntN.{pos, neg_ℤ}
use lib.ListN.{length, take, replicate, length-replicate}
use Rattle.format.specs.declared.Column.TheVariants.{Value}
use Rattle.format.specs.Column.{strip, is_digit, all_digits, value_of, is_number, negative, positive, signed, column_of, formed, integer}
use Rattle.format.specs.Layout.{Rule, any_sign, at_least, range, within, one_of, inside, What, text, blank, integral, integral_or_spaces, is_formed, is_inside}
use Rattle.format.proofs.Basics.{and-true, true_and, abs_neg}
use Rattle.form_bytes.specs.Doubt.{least_at, most_at}
use Rattle.form_bytes.specs.Letters.{ruled, letters_for, doubts_in}
use Rattle.form_bytes.specs.Told.{looser_rule, looser}
use Rattle.form_bytes.proofs.Neighbours.{Seen, t_digit, t_space, t_minus, told, column-after, natural-after, value_after}
use Rattle.form_bytes.proofs.Doubts.{right-at, length-letters, column-right, column_loose}

-- ---- columns of one and two bytes

digit_zero : is_digit 48 ≡ true
unfolding is_digit
digit_zero = refl

module _ (b : ℕ) (d : is_digit b ≡ true) where
  pub digit-at-least : 48 ≤ b
  unfolding is_digit
  digit-at-least = leb-true 48 b (and-true (leb 48 b) (leb b 57) d).0

  pub digit-at-most : b ≤ 57
  unfolding is_digit
  digit-at-most = leb-true b 57 (and-true (leb 48 b) (leb b 57) d).1

  not_this : (n : ℕ) → n < 48 → eqb b n ≡ false
  not_this n h = ne_eqb b n (λ (e : b ≡ n). omega (arith, digit-at-least))

  value_one : value_of (b ∷ []) ≡ b - 48
  unfolding value_of
  value_one = omega arith

  pub one_digit : column_of (b ∷ []) ≡ Value (pos (b - 48))
  unfolding column_of strip signed positive is_number all_digits
  one_digit = simp (not_this 32 (omega arith), not_this 45 (omega arith), d, value_one)

  value_two : value_of (48 ∷ b ∷ []) ≡ b - 48
  unfolding value_of
  value_two = omega arith

  zero_digit : column_of (48 ∷ b ∷ []) ≡ Value (pos (b - 48))
  unfolding column_of strip signed positive is_number all_digits
  zero_digit = simp (digit_zero, d, value_two)

  minus-digit : eqb b 48 ≡ false → column_of (45 ∷ b ∷ []) ≡ Value (neg_ℤ (pos (b - 48)))
  unfolding column_of strip signed negative is_number all_digits
  minus-digit n =
      let k : b ≡ 48 → ⊥ = eqb-false b 48 n in
      simp (d, value_one, ne_eqb (b - 48) 0 (λ (e : b - 48 ≡ 0). k (omega (arith, digit-at-least))))

-- ---- a byte by the letter of one digit, and by those of -9 to 9

-- a letter up to a digit of at most 9
module _ (m : ℕ) (h : m ≤ 9) where
  pub least-up-to : least_at (48 + m) ≡ 48
  unfolding least_at
  least-up-to = simp (ne_eqb (48 + m) 114 (λ (e : 48 + m ≡ 114). omega arith))

  pub most-up-to : most_at (48 + m) ≡ 48 + m
  unfolding most_at
  most-up-to = simp (ne_eqb (48 + m) 90 (λ (e : 48 + m ≡ 90). omega arith)) (go (ltb (48 + m) 57) refl)
    where
      go : (t : Bool) → ltb (48 + m) 57 ≡ t → cond t (48 + m) 57 ≡ 48 + m
      go true e = refl
      go false e = omega (arith, ltb-false (48 + m) 57 e)

  other : (n : ℕ) → 57 < n → eqb (48 + m) n ≡ false
  other n g = ne_eqb (48 + m) n (λ (e : 48 + m ≡ n). omega arith)

  up_to : (p b : ℕ) → Seen (48 + m) p b → (48 ≤ b) × (b ≤ 48 + m)
  up_to p b (t_digit l k z) = (leb-true 48 b (rw least-up-to at l), leb-true b (48 + m) (rw most-up-to at k))
  up_to p b (t_space e x f) = absurd (false≢true (simp (other 83 (omega arith), other 77 (omega arith), other 90 (omega arith), other 115 (omega arith), other 109 (omega arith)) at x))
  up_to p b (t_minus e x f) = absurd (false≢true (simp (other 77 (omega arith), other 109 (omega arith), other 90 (omega arith)) at x))

one_to_nine : (p b : ℕ) → Seen 114 p b → (49 ≤ b) × (b ≤ 57)
unfolding least_at most_at
one_to_nine p b (t_digit l k z) = (leb-true 49 b l, leb-true b 57 k)
one_to_nine p b (t_space e x f) = absurd (false≢true x)
one_to_nine p b (t_minus e x f) = absurd (false≢true x)

nothing : (p b : ℕ) → Seen 33 p b → ⊥
unfolding least_at most_at
nothing p b (t_digit l k z) = omega (arith, leb-true 48 b l, leb-true b 33 k)
nothing p b (t_space e x f) = false≢true x
nothing p b (t_minus e x f) = false≢true x

is_digit_lem : (b : ℕ) → 48 ≤ b → b ≤ 57 → is_digit b ≡ true
unfolding is_digit
is_digit_lem b h k = true_and (leb 48 b) (leb b 57) (le-leb 48 b h) (le-leb b 57 k)

last-digit : (p b : ℕ) → Seen 100 p b → (is_digit b ≡ true) × (eqb p 45 && eqb b 48 ≡ false)
unfolding least_at most_at is_digit
last-digit p b (t_digit l k z) = (true_and (leb 48 b) (leb b 57) l k, z)
last-digit p b (t_space e x f) = absurd (false≢true x)
last-digit p b (t_minus e x f) = absurd (false≢true x)

-- well formed, and inside its rule
abbrev Good : Rule → List ℕ → Type 0
Good rule bs = (formed (column_of bs) ≡ true) × (inside rule (integer (column_of bs)) ≡ true)

in_range : (n m b : ℕ) → is_digit b ≡ true → n ≤ b - 48 → b - 48 ≤ m → Good (range n m) (b ∷ [])
in_range n m b d h k = rw (one_digit b d) (refl, true_and (leb n (b - 48)) (leb (b - 48) m) (le-leb n (b - 48) h) (le-leb (b - 48) m k))

within_nine : (p b q : ℕ) → Seen 90 p b → Seen 100 b q → Good (within 9) (b ∷ q ∷ [])
unfolding least_at most_at column_of strip
within_nine p b q (t_digit l k z) t =
    let d = (last-digit b q t).0 in
    let e : b ≡ 48 = omega (arith, leb-true 48 b l, leb-true b 48 k) in
    rw (e, zero_digit q d) (refl, le-leb (q - 48) 9 (omega (arith, digit-at-most q d)))
within_nine p b q (t_space e x f) t =
    let d = (last-digit b q t).0 in
    rw e (rw (one_digit q d) (refl, le-leb (q - 48) 9 (omega (arith, digit-at-most q d))))
within_nine p b q (t_minus e x f) t =
    let d = (last-digit b q t).0 in
    let n : eqb q 48 ≡ false = rw e at (last-digit b q t).1 in
    rw (e, minus-digit q d n) (refl, rw (abs_neg (q - 48)) (le-leb (q - 48) 9 (omega (arith, digit-at-most q d))))

-- ---- one column

never : (w p : ℕ) (l : List ℕ) → 0 < w → w ≤ length l → doubts_in (replicate w 33) p l ≡ 0 → ⊥
unfolding doubts_in
never zero p l g h e = omega arith
never (suc w) p [] g h e = omega arith
never (suc w) p (b ∷ bs) g h e = nothing p b (told 33 p b refl (right-at 33 p b (omega arith)))

digit-sound : (n m w p : ℕ) (l : List ℕ) → w ≡ 1 → n ≡ 0 → m ≤ 9 → w ≤ length l → doubts_in ((48 + m) ∷ []) p l ≡ 0 → Good (range n m) (take w l)
unfolding doubts_in
digit-sound n m w p [] ew en hm h e = absurd (omega arith)
digit-sound n m w p (b ∷ bs) ew en hm h e =
    let t = up_to m hm p b (told (48 + m) p b (ne_eqb (48 + m) 46 (λ (q : 48 + m ≡ 46). omega arith)) (right-at (48 + m) p b (omega arith))) in
    let k : 48 ≤ b = t.0 in
    let j : b ≤ 48 + m = t.1 in
    rw (ew, en) (in_range 0 m b (is_digit_lem b k (omega arith)) (omega arith) (omega arith))

nine_sound : (n m w p : ℕ) (l : List ℕ) → w ≡ 1 → n ≡ 1 → m ≡ 9 → w ≤ length l → doubts_in (114 ∷ []) p l ≡ 0 → Good (range n m) (take w l)
unfolding doubts_in
nine_sound n m w p [] ew en em h e = absurd (omega arith)
nine_sound n m w p (b ∷ bs) ew en em h e =
    let t = one_to_nine p b (told 114 p b refl (right-at 114 p b (omega arith))) in
    let k : 49 ≤ b = t.0 in
    let j : b ≤ 57 = t.1 in
    rw (ew, en, em) (in_range 1 9 b (is_digit_lem b (omega arith) j) (omega arith) (omega arith))

two_sound : (n w p : ℕ) (l : List ℕ) → w ≡ 2 → n ≡ 9 → w ≤ length l → doubts_in (90 ∷ 100 ∷ []) p l ≡ 0 → Good (within n) (take w l)
unfolding doubts_in
two_sound n w p [] ew en h e = absurd (omega arith)
two_sound n w p (b ∷ []) ew en h e = absurd (omega arith)
two_sound n w p (b ∷ q ∷ bs) ew en h e =
    rw (ew, en) (within_nine p b q (told 90 p b refl (right-at 90 p b (omega arith))) (told 100 b q refl (right-at 100 b q (omega arith))))

range-sound : (n m w p : ℕ) (l : List ℕ) → 0 < w → w ≤ length l → doubts_in (ruled (range n m) w) p l ≡ 0 → Good (range n m) (take w l)
unfolding ruled
range-sound n m w p l g h = go (eqb w 1 && (eqb n 0 && leb m 9)) (eqb w 1 && (eqb n 1 && eqb m 9)) refl refl
  where
    go : (t u : Bool) → eqb w 1 && (eqb n 0 && leb m 9) ≡ t → eqb w 1 && (eqb n 1 && eqb m 9) ≡ u → doubts_in (cond t ((48 + m) ∷ []) (cond u (114 ∷ []) (replicate w 33))) p l ≡ 0 → Good (range n m) (take w l)
    go true u et eu e =
        let a = and-true (eqb w 1) (eqb n 0 && leb m 9) et in
        let b = and-true (eqb n 0) (leb m 9) a.1 in
        digit-sound n m w p l (eqb-true w 1 a.0) (eqb-true n 0 b.0) (leb-true m 9 b.1) h e
    go false true et eu e =
        let a = and-true (eqb w 1) (eqb n 1 && eqb m 9) eu in
        let b = and-true (eqb n 1) (eqb m 9) a.1 in
        nine_sound n m w p l (eqb-true w 1 a.0) (eqb-true n 1 b.0) (eqb-true m 9 b.1) h e
    go false false et eu e = absurd (never w p l g h e)

within-sound : (n w p : ℕ) (l : List ℕ) → 0 < w → w ≤ length l → doubts_in (ruled (within n) w) p l ≡ 0 → Good (within n) (take w l)
unfolding ruled
within-sound n w p l g h = go (eqb w 2 && eqb n 9) refl
  where
    go : (t : Bool) → eqb w 2 && eqb n 9 ≡ t → doubts_in (cond t (90 ∷ 100 ∷ []) (replicate w 33)) p l ≡ 0 → Good (within n) (take w l)
    go true et e = let a = and-true (eqb w 2) (eqb n 9) et in two_sound n w p l (eqb-true w 2 a.0) (eqb-true n 9 a.1) h e
    go false et e = absurd (never w p l g h e)

rule_sound : (rule : Rule) (w p : ℕ) (l : List ℕ) → 0 < w → w ≤ length l → doubts_in (ruled rule w) p l ≡ 0 → (formed (column_of (take w l)) ≡ true) × (inside (looser_rule rule) (integer (column_of (take w l))) ≡ true)
unfolding ruled
rule_sound any_sign w p l g h e = (column-after refl (column-right true w p l g h e), refl)
rule_sound (at_least n) w p l g h e = let r = column-right false w p l g h e in (column-after refl r, natural-after refl r)
rule_sound (range n m) w p l g h e = range-sound n m w p l g h e
rule_sound (within n) w p l g h e = within-sound n w p l g h e
rule_sound (one_of ns) w p l g h e = let r = column-right false w p l g h e in (column-after refl r, natural-after refl r)

-- a column of which no byte is in doubt, whatever is judged in it
pub record NoFault (what : What) (bytes : List ℕ) : Type 0 where
  pub is_formed_lem : is_formed what bytes ≡ true
  pub is_inside_lem : is_inside (looser what) bytes ≡ true

pub no_fault : (k : What) (w p : ℕ) (l : List ℕ) → 1 ≤ w → w ≤ length l → doubts_in (letters_for k w) p l ≡ 0 → NoFault k (take w l)
unfolding letters_for
no_fault text w p l g h e = record { is_formed_lem = refl; is_inside_lem = refl }
no_fault blank w p l g h e = record { is_formed_lem = refl; is_inside_lem = refl }
no_fault (integral rule) w p l g h e = let r = rule_sound rule w p l g h e in record { is_formed_lem = r.0; is_inside_lem = r.1 }
no_fault integral_or_spaces w p l g h e = record { is_formed_lem = value_after refl (column_loose w p l g h e); is_inside_lem = refl }

-- ---- a column has as many letters as bytes

length-ruled : (rule : Rule) (w : ℕ) → length (ruled rule w) ≡ w
unfolding ruled
length-ruled any_sign w = length-letters 77 109 100 w
length-ruled (at_least n) w = length-letters 83 115 100 w
length-ruled (range n m) w = go (eqb w 1 && (eqb n 0 && leb m 9)) (eqb w 1 && (eqb n 1 && eqb m 9)) refl refl
  where
    go : (t u : Bool) → eqb w 1 && (eqb n 0 && leb m 9) ≡ t → eqb w 1 && (eqb n 1 && eqb m 9) ≡ u → length (cond t ((48 + m) ∷ []) (cond u (114 ∷ []) (replicate w 33))) ≡ w
    go true u et eu = sym (eqb-true w 1 (and-true (eqb w 1) (eqb n 0 && leb m 9) et).0)
    go false true et eu = sym (eqb-true w 1 (and-true (eqb w 1) (eqb n 1 && eqb m 9) eu).0)
    go false false et eu = length-replicate w 33
length-ruled (within n) w = go (eqb w 2 && eqb n 9) refl
  where
    go : (t : Bool) → eqb w 2 && eqb n 9 ≡ t → length {A = ℕ} (cond t (90 ∷ 100 ∷ []) (replicate w 33)) ≡ w
    go true et = sym (eqb-true w 2 (and-true (eqb w 2) (eqb n 9) et).0)
    go false et = length-replicate w 33
length-ruled (one_of ns) w = length-letters 83 115 100 w

pub length_for : (k : What) (w : ℕ) → length (letters_for k w) ≡ w
unfolding letters_for
length_for text w = length-replicate w 46
length_for blank w = length-replicate w 46
length_for (integral rule) w = length-ruled rule w
length_for integral_or_spaces w = length-letters 77 109 115 w
