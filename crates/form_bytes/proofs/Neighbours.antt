-- One column: bytes that are each surely right after the byte before make a well-formed column, without a minus one of at least 0. Assumes nothing.
use mathlib.Core.Path.{◌≡◌, refl, ap, sym, ◌∙◌}
use mathlib.Core.Bool.{Bool, true, false, not, ◌&&◌, ◌||◌, or-true, or-false, false≢true}
use mathlib.Core.Logic.{⊎_elim}
use mathlib.Core.List.{List, [], ◌∷◌}
use Prim.Native.Nat.{ℕ, ◌+◌, ◌-◌, ◌*◌, ◌^◌, ◌≤◌, ◌<◌}
use native.Mathlib.Nat.{mul-pos, one-le-pow}
use native.Mathlib.Omega.{arith}
use borrow.Author.Tests.{eqb-true, eqb-false, ne_eqb, leb-true, not-true}
use lib.Dec.{eqb, leb, leb-zero}
use lib.IntN.{pos}
use lib.Signed.{le_z}
use lib.ListN.{length}
use Rattle.format.specs.declared.Column.TheVariants.{Value}
use Rattle.format.specs.Column.{strip, is_digit, all_digits, value_of, is_number, negative, positive, signed, column_of, formed, integer}
use Rattle.format.specs.Layout.{spaces}
use Rattle.format.proofs.Basics.{and-true, true_and, or_cases}
use Rattle.format.proofs.Columns.{Byte, v_space, v_minus, v_digit, v_other, byte}
use Rattle.form_bytes.specs.Doubt.{least_at, most_at, is_first, is_spaced, is_signed, surely_right}

-- each byte is right after the one before it, p before the first: a digit, but no 0 right after a minus; or a space, or a minus where one may
-- stand, after a space. The last one is a digit
pub data Right (sign : Bool) : ℕ → List ℕ → Type 0 where
  last : {p b : ℕ} → is_digit b ≡ true → eqb p 45 && eqb b 48 ≡ false → Right sign p (b ∷ [])
  digit : {p b : ℕ} {bs : List ℕ} → is_digit b ≡ true → eqb p 45 && eqb b 48 ≡ false → Right sign b bs → Right sign p (b ∷ bs)
  space : {p b : ℕ} {bs : List ℕ} → p ≡ 32 → b ≡ 32 → Right sign b bs → Right sign p (b ∷ bs)
  minus : {p b : ℕ} {bs : List ℕ} → sign ≡ true → p ≡ 32 → b ≡ 45 → Right sign b bs → Right sign p (b ∷ bs)

-- ---- digits after a digit, a number after a minus, a column after a space

digits-after : {s : Bool} {p : ℕ} {l : List ℕ} → is_digit p ≡ true → Right s p l → all_digits l ≡ true
unfolding all_digits is_digit
digits-after d (last e n) = simp e
digits-after d (digit e n r) = simp (e, digits-after e r)
digits-after d (space e f r) = absurd (false≢true (rw e at d))
digits-after d (minus t e f r) = absurd (false≢true (rw e at d))

-- a digit that is not 0 makes the number one that is not 0
not_zero : (b k v : ℕ) → eqb b 48 ≡ false → is_digit b ≡ true → eqb ((b - 48) * 10 ^ k + v) 0 ≡ false
unfolding is_digit
not_zero b k v n d =
    let h : 48 ≤ b = leb-true 48 b (and-true (leb 48 b) (leb b 57) d).0 in
    let g : b ≡ 48 → ⊥ = eqb-false b 48 n in
    let p : 0 < b - 48 = omega arith in
    let m : 0 < (b - 48) * 10 ^ k = mul-pos p (one-le-pow k 10 (omega arith)) in
    ne_eqb ((b - 48) * 10 ^ k + v) 0 (omega arith)

negative-formed : (p b : ℕ) (bs : List ℕ) → p ≡ 45 → is_digit b ≡ true → eqb p 45 && eqb b 48 ≡ false → all_digits bs ≡ true → formed (negative (b ∷ bs)) ≡ true
unfolding negative is_number all_digits value_of
negative-formed p b bs e d n a =
    let z : eqb b 48 ≡ false = rw e at n in
    simp (d, a, not_zero b (length bs) (value_of bs) z d)

number-after : {s : Bool} {p : ℕ} {l : List ℕ} → p ≡ 45 → Right s p l → formed (negative l) ≡ true
unfolding all_digits
number-after {p = p} e (last {b = b} d n) = negative-formed p b [] e d n refl
number-after {p = p} e (digit {b = b} {bs = bs} d n r) = negative-formed p b bs e d n (digits-after d r)
number-after e (space f g r) = absurd (omega arith)
number-after e (minus t f g r) = absurd (omega arith)

positive_is : (b : ℕ) (bs : List ℕ) → Byte b → is_digit b ≡ true → all_digits bs ≡ true → column_of (b ∷ bs) ≡ Value (pos (value_of (b ∷ bs)))
unfolding column_of strip signed positive is_number all_digits is_digit
positive_is b bs (v_space e) d a = absurd (false≢true (rw e at d))
positive_is b bs (v_minus e) d a = absurd (false≢true (rw e at d))
positive_is b bs (v_digit p q r) d a = simp (p, q, r, a)
positive_is b bs (v_other p q r) d a = absurd (false≢true (sym r ∙ d))

pub column-after : {s : Bool} {p : ℕ} {l : List ℕ} → p ≡ 32 → Right s p l → formed (column_of l) ≡ true
unfolding column_of strip signed all_digits
column-after e (last {b = b} d n) = ap formed (positive_is b [] (byte b) d refl)
column-after e (digit {b = b} {bs = bs} d n r) = ap formed (positive_is b bs (byte b) d (digits-after d r))
column-after e (space f g r) = rw g (column-after g r)
column-after e (minus t f g r) = rw g (number-after g r)

-- without a minus the number is at least 0
pub natural-after : {p : ℕ} {l : List ℕ} → p ≡ 32 → Right false p l → le_z (pos 0) (integer (column_of l)) ≡ true
unfolding column_of strip signed all_digits
natural-after e (last {b = b} d n) = rw (positive_is b [] (byte b) d refl) (leb-zero (value_of (b ∷ [])))
natural-after e (digit {b = b} {bs = bs} d n r) = rw (positive_is b bs (byte b) d (digits-after d r)) (leb-zero (value_of (b ∷ bs)))
natural-after e (space f g r) = rw g (natural-after g r)
natural-after e (minus t f g r) = absurd (false≢true t)

-- ---- the code's test of a byte

-- what a byte is that is surely right by a letter that does not take anything
pub data Seen (k p b : ℕ) : Type 0 where
  t_digit : leb (least_at k) b ≡ true → leb b (most_at k) ≡ true → eqb p 45 && eqb b 48 ≡ false → Seen k p b
  t_space : b ≡ 32 → is_spaced k ≡ true → eqb p 32 || is_first k ≡ true → Seen k p b
  t_minus : b ≡ 45 → is_signed k ≡ true → eqb p 32 || is_first k ≡ true → Seen k p b

pub told : (k p b : ℕ) → eqb k 46 ≡ false → surely_right k p b ≡ true → Seen k p b
unfolding surely_right
told k p b n h = go (and-true _ _ (rw n at h))
  where
    at-digit : leb (least_at k) b && leb b (most_at k) ≡ true → eqb p 45 && eqb b 48 ≡ false → Seen k p b
    at-digit d z = let t = and-true (leb (least_at k) b) (leb b (most_at k)) d in t_digit t.0 t.1 z

    at_space : eqb b 32 && is_spaced k ≡ true → eqb p 32 || is_first k ≡ true → Seen k p b
    at_space x f = let t = and-true (eqb b 32) (is_spaced k) x in t_space (eqb-true b 32 t.0) t.1 f

    at-minus : eqb b 45 && is_signed k ≡ true → eqb p 32 || is_first k ≡ true → Seen k p b
    at-minus x f = let t = and-true (eqb b 45) (is_signed k) x in t_minus (eqb-true b 45 t.0) t.1 f

    at_gap : ((eqb b 32 && is_spaced k) || (eqb b 45 && is_signed k)) && (eqb p 32 || is_first k) ≡ true → Seen k p b
    at_gap g =
        let t = and-true ((eqb b 32 && is_spaced k) || (eqb b 45 && is_signed k)) (eqb p 32 || is_first k) g in
        ⊎_elim (λ x. at_space x t.1) (λ x. at-minus x t.1) (or_cases (eqb b 32 && is_spaced k) (eqb b 45 && is_signed k) t.0)

    go : ((leb (least_at k) b && leb b (most_at k)) || (((eqb b 32 && is_spaced k) || (eqb b 45 && is_signed k)) && (eqb p 32 || is_first k)) ≡ true) × (not (eqb p 45 && eqb b 48) ≡ true) → Seen k p b
    go t =
        ⊎_elim (λ x. at-digit x (not-true (eqb p 45 && eqb b 48) t.1)) at_gap
        (or_cases (leb (least_at k) b && leb b (most_at k)) (((eqb b 32 && is_spaced k) || (eqb b 45 && is_signed k)) && (eqb p 32 || is_first k)) t.0)

-- letters of a column that may have a minus, and of one that may not
abbrev pub first_letter : Bool → ℕ
first_letter true = 77
first_letter false = 83

abbrev pub between_letter : Bool → ℕ
between_letter true = 109
between_letter false = 115

digit-at-last : (p b : ℕ) → Seen 100 p b → is_digit b ≡ true
unfolding least_at most_at is_digit
digit-at-last p b (t_digit l m z) = true_and (leb 48 b) (leb b 57) l m
digit-at-last p b (t_space e x f) = absurd (false≢true x)
digit-at-last p b (t_minus e x f) = absurd (false≢true x)

no_minus_zero : (p b : ℕ) → Seen 100 p b → eqb p 45 && eqb b 48 ≡ false
no_minus_zero p b (t_digit l m z) = z
no_minus_zero p b (t_space e x f) = absurd (false≢true x)
no_minus_zero p b (t_minus e x f) = absurd (false≢true x)

pub last-right : (s : Bool) (p b : ℕ) → surely_right 100 p b ≡ true → Right s p (b ∷ [])
last-right s p b h = let t = told 100 p b refl h in last (digit-at-last p b t) (no_minus_zero p b t)

-- a column of one byte is right as if after a space, whatever stands before it
pub only_right : (s : Bool) (p b : ℕ) → surely_right 100 p b ≡ true → Right s 32 (b ∷ [])
only_right s p b h = last (digit-at-last p b (told 100 p b refl h)) refl

after_space : (p : ℕ) → eqb p 32 || false ≡ true → p ≡ 32
after_space p h = eqb-true p 32 (rw or-false at h)

pub between-right : (s : Bool) (p b : ℕ) (bs : List ℕ) → Right s b bs → surely_right (between_letter s) p b ≡ true → Right s p (b ∷ bs)
unfolding least_at most_at is_digit
between-right true p b bs r h = go (told 109 p b refl h)
  where
    go : Seen 109 p b → Right true p (b ∷ bs)
    go (t_digit l m z) = digit (true_and (leb 48 b) (leb b 57) l m) z r
    go (t_space e x f) = space (after_space p f) e r
    go (t_minus e x f) = minus refl (after_space p f) e r
between-right false p b bs r h = go (told 115 p b refl h)
  where
    go : Seen 115 p b → Right false p (b ∷ bs)
    go (t_digit l m z) = digit (true_and (leb 48 b) (leb b 57) l m) z r
    go (t_space e x f) = space (after_space p f) e r
    go (t_minus e x f) = absurd (false≢true x)

-- a column's first byte is right as if after a space, whatever stands before it
pub first-right : (s : Bool) (p b : ℕ) (bs : List ℕ) → Right s b bs → surely_right (first_letter s) p b ≡ true → Right s 32 (b ∷ bs)
unfolding least_at most_at is_digit
first-right true p b bs r h = go (told 77 p b refl h)
  where
    go : Seen 77 p b → Right true 32 (b ∷ bs)
    go (t_digit l m z) = digit (true_and (leb 48 b) (leb b 57) l m) refl r
    go (t_space e x f) = space refl e r
    go (t_minus e x f) = minus refl refl e r
first-right false p b bs r h = go (told 83 p b refl h)
  where
    go : Seen 83 p b → Right false 32 (b ∷ bs)
    go (t_digit l m z) = digit (true_and (leb 48 b) (leb b 57) l m) refl r
    go (t_space e x f) = space refl e r
    go (t_minus e x f) = absurd (false≢true x)

-- ---- a column that holds an integer or spaces: its last letter is one behind the first of a column without a minus

pub data Loose : ℕ → List ℕ → Type 0 where
  number : {p : ℕ} {l : List ℕ} → Right true p l → Loose p l
  blank : {p : ℕ} {l : List ℕ} → p ≡ 32 → spaces l ≡ true → Loose p l

pub value_after : {p : ℕ} {l : List ℕ} → p ≡ 32 → Loose p l → spaces l || formed (column_of l) ≡ true
value_after {l = l} e (number r) = rw (column-after e r) (or-true (spaces l))
value_after e (blank f g) = rw g refl

pub loose_last : (p b : ℕ) → surely_right 115 p b ≡ true → Loose p (b ∷ [])
unfolding least_at most_at is_digit
loose_last p b h = go (told 115 p b refl h)
  where
    go : Seen 115 p b → Loose p (b ∷ [])
    go (t_digit l m z) = number (last (true_and (leb 48 b) (leb b 57) l m) z)
    go (t_space e x f) = blank {l = b ∷ []} (after_space p f) (rw e refl)
    go (t_minus e x f) = absurd (false≢true x)

pub loose_only : (p b : ℕ) → surely_right 115 p b ≡ true → Loose 32 (b ∷ [])
unfolding least_at most_at is_digit
loose_only p b h = go (told 115 p b refl h)
  where
    go : Seen 115 p b → Loose 32 (b ∷ [])
    go (t_digit l m z) = number (last (true_and (leb 48 b) (leb b 57) l m) refl)
    go (t_space e x f) = blank {l = b ∷ []} refl (rw e refl)
    go (t_minus e x f) = absurd (false≢true x)

pub loose_between : (p b : ℕ) (bs : List ℕ) → Loose b bs → surely_right 109 p b ≡ true → Loose p (b ∷ bs)
unfolding least_at
loose_between p b bs (number r) h = number (between-right true p b bs r h)
loose_between p b bs (blank e g) h = go (told 109 p b refl h)
  where
    go : Seen 109 p b → Loose p (b ∷ bs)
    go (t_digit l m z) = absurd (false≢true (rw e at l))
    go (t_space _ x f) = blank {l = b ∷ bs} (after_space p f) (rw (e, g) refl)
    go (t_minus d x f) = absurd (omega arith)

pub loose_first : (p b : ℕ) (bs : List ℕ) → Loose b bs → surely_right 77 p b ≡ true → Loose 32 (b ∷ bs)
loose_first p b bs (number r) h = number (first-right true p b bs r h)
loose_first p b bs (blank e g) h = blank {l = b ∷ bs} refl (rw (e, g) refl)
