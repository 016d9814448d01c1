-- The pass over the bytes ends in what the column says, for a list of any length: `means`. The width of 18 comes in only where the
-- number must stay inside 64 bits: `small`. Assumes nothing.
use mathlib.Core.Path.{◌≡◌, refl, ap, sym, ◌∙◌}
use mathlib.Core.Bool.{Bool, true, false, cond}
use mathlib.Core.List.{List, [], ◌∷◌, ◌++◌}
use Prim.Native.Nat.{ℕ, suc, ◌+◌, ◌-◌, ◌*◌, ◌^◌, ◌<◌, ◌≤◌}
use native.Mathlib.Nat.{add-zero, add-mul, mul_assoc, pow-succ', pow-suc, one-le-pow, pow-le-pow_right}
use native.Mathlib.Numerals.{add-one}
use native.Mathlib.Omega.{arith}
use borrow.Author.Tests.{leb-true, ne_eqb}
use lib.Dec.{eqb, leb, lit<}
use lib.ListN.{length, drop, get_or, drop_of_length-le}
use lib.Seq.{drop-cons, drop-length}
use Rattle.format.specs.declared.Column.{Column}
use Rattle.format.specs.declared.Column.TheVariants.{Malformed}
use Rattle.format.specs.Column.{strip, is_digit, all_digits, value_of, is_number, negative, positive, signed, column_of}
use Rattle.format.proofs.Basics.{and-true}
use Rattle.format.proofs.Columns.{Byte, v_space, v_minus, v_digit, v_other, byte}
use Rattle.columns.specs.declared.pass.Mark.{Mark}
use Rattle.columns.specs.declared.pass.Mark.TheVariants.{Minus, Digits, MinusDigits, Other}
use Rattle.columns.specs.declared.pass.Kept.{Kept}
use Rattle.columns.specs.Pass.{digit_mark, other_mark, step_of, start, pass_from, pass, says, says_of}

-- ---- after what no column has, after digits, after a minus, after spaces

abbrev pub kept : Mark → ℕ → Kept
kept m n = record { number = n; mark = m }

-- what no column has stays so, and no column says it
other_step : (t : Bool) (k : Kept) (m n b : ℕ) → k.mark ≡ Other → (cond {A = Kept} t (record { number = m; mark = digit_mark k.mark }) (record { number = n; mark = other_mark k.mark b })).mark ≡ Other
other_step true k m n b e = rw e
other_step false k m n b e = rw e

other_stays : (k : Kept) (b : ℕ) → k.mark ≡ Other → (step_of k b).mark ≡ Other
unfolding step_of
other_stays k b e = other_step (is_digit b) k (k.number * 10 + (b - 48)) k.number b e

other-pass : (l : List ℕ) (k : Kept) → k.mark ≡ Other → says_of (pass_from k l) ≡ Malformed
unfolding pass_from
other-pass [] k e = rw e
other-pass (b ∷ bs) k e = other-pass bs (step_of k b) (other_stays k b e)

-- one more digit: n, a digit d and k digits of value v
digit-more : (n d k v : ℕ) → (n * 10 + d) * 10 ^ k + v ≡ n * 10 ^ suc k + (d * 10 ^ k + v)
digit-more n d k v = omega (arith, add-mul (n * 10) d (10 ^ k), mul_assoc n 10 (10 ^ k), ap (λ (x : ℕ). n * x) (pow-succ' 10 k))

-- a mark behind digits: one more keeps it, and no other byte may follow
module _ (m : Mark) (same : digit_mark m ≡ m) (none : (b : ℕ) → other_mark m b ≡ Other) where
  -- what n and the digits of l say
  abbrev Result : ℕ → List ℕ → Column
  Result n l = cond (all_digits l) (says m (n * 10 ^ length l + value_of l)) Malformed

  no_digit : (b n : ℕ) → is_digit b ≡ false → step_of (kept m n) b ≡ kept Other n
  unfolding step_of
  no_digit b n e = simp (e, none b)

  ended : (b : ℕ) (bs : List ℕ) (n : ℕ) → is_digit b ≡ false → says_of (pass_from (kept m n) (b ∷ bs)) ≡ Malformed
  unfolding pass_from
  ended b bs n e = ap (λ (k : Kept). says_of (pass_from k bs)) (no_digit b n e) ∙ other-pass bs (kept Other n) refl

  digits_step : (b : ℕ) (bs : List ℕ) (n : ℕ) → Byte b → says_of (pass_from (kept m (n * 10 + (b - 48))) bs) ≡ Result (n * 10 + (b - 48)) bs → says_of (pass_from (kept m n) (b ∷ bs)) ≡ Result n (b ∷ bs)
  unfolding pass_from step_of is_digit all_digits value_of
  digits_step b bs n (v_space e) ih = rw e (ended 32 bs n refl)
  digits_step b bs n (v_minus e) ih = rw e (ended 45 bs n refl)
  digits_step b bs n (v_digit p q r) ih =
      simp (r, same) (ih ∙ ap (λ (x : ℕ). cond (all_digits bs) (says m x) Malformed) (digit-more n (b - 48) (length bs) (value_of bs)))
  digits_step b bs n (v_other p q r) ih = ended b bs n r ∙ simp r

  digits-pass : (l : List ℕ) (n : ℕ) → says_of (pass_from (kept m n) l) ≡ Result n l
  unfolding pass_from all_digits value_of
  digits-pass [] n = ap (says m) (omega arith)
  digits-pass (b ∷ bs) n = digits_step b bs n (byte b) (digits-pass bs (n * 10 + (b - 48)))

-- the first digit
first-digit : (d : ℕ) → 0 * 10 + d ≡ d
first-digit d = omega arith

signed-step : (b : ℕ) (bs : List ℕ) → Byte b → says_of (pass_from (kept Minus 0) (b ∷ bs)) ≡ negative (b ∷ bs)
unfolding pass_from step_of is_digit all_digits value_of is_number negative
signed-step b bs (v_space e) = rw e (other-pass bs (kept Other 0) refl)
signed-step b bs (v_minus e) = rw e (other-pass bs (kept Other 0) refl)
signed-step b bs (v_digit p q r) = simp (r, first-digit) (digits-pass MinusDigits refl (λ x. refl) bs (b - 48))
signed-step b bs (v_other p q r) = simp r (other-pass bs (kept Other 0) refl)

signed-pass : (l : List ℕ) → says_of (pass_from (kept Minus 0) l) ≡ negative l
unfolding pass_from negative is_number
signed-pass [] = refl
signed-pass (b ∷ bs) = signed-step b bs (byte b)

column-step : (b : ℕ) (bs : List ℕ) → Byte b → says_of (pass bs) ≡ column_of bs → says_of (pass (b ∷ bs)) ≡ column_of (b ∷ bs)
unfolding pass_from step_of is_digit all_digits value_of is_number positive signed strip column_of
column-step b bs (v_space e) ih = rw e ih
column-step b bs (v_minus e) ih = rw e (signed-pass bs)
column-step b bs (v_digit p q r) ih = simp (p, q, r, first-digit) (digits-pass Digits refl (λ x. refl) bs (b - 48))
column-step b bs (v_other p q r) ih = simp (p, q, r) (other-pass bs (kept Other 0) refl)

-- THE PASS ENDS IN WHAT THE COLUMN SAYS
pub means : (l : List ℕ) → says_of (pass l) ≡ column_of l
unfolding pass_from strip signed column_of
means [] = refl
means (b ∷ bs) = column-step b bs (byte b) (means bs)

-- ---- the bytes of two parts: what is kept after the first is all that the second goes by
pub pass-append : (a b : List ℕ) (k : Kept) → pass_from k (a ++ b) ≡ pass_from (pass_from k a) b
unfolding pass_from
pass-append [] b k = refl
pass-append (x ∷ a) b k = pass-append a b (step_of k x)

pub pass_one : (before : List ℕ) (byte : ℕ) → pass (before ++ byte ∷ []) ≡ step_of (pass before) byte
unfolding pass_from
pass_one before byte = pass-append before (byte ∷ []) start

-- ---- the number that is kept stays below 10 ^ i after i bytes

-- a digit's number is at most 9
digit-small : (b : ℕ) → is_digit b ≡ true → b - 48 ≤ 9
unfolding is_digit
digit-small b e = omega (arith, leb-true b 57 (and-true (leb 48 b) (leb b 57) e).1)

step_small : (k : Kept) (b i : ℕ) → k.number < 10 ^ i → (step_of k b).number < 10 ^ (i + 1)
unfolding step_of
step_small k b i h = by (is_digit b) refl
  where
    by : (t : Bool) → is_digit b ≡ t → (step_of k b).number < 10 ^ (i + 1)
    by true e = simp e (rw (add-one, pow-suc) (omega (arith, h, digit-small b e)))
    by false e = simp e (rw (add-one, pow-suc) (omega (arith, h)))

-- all the bytes of a list
pass-small : (l : List ℕ) (k : Kept) (i : ℕ) → k.number < 10 ^ i → (pass_from k l).number < 10 ^ (i + length l)
unfolding pass_from
pass-small [] k i h = rw add-zero h
pass-small (b ∷ bs) k i h = let e : i + suc (length bs) ≡ i + 1 + length bs = omega arith in rw e (pass-small bs (step_of k b) (i + 1) (step_small k b i h))

-- after at most 18 bytes
pub inside_64 : (bytes : List ℕ) → length bytes ≤ 18 → (pass bytes).number < 2 ^ 63
inside_64 bytes h = omega (arith, pass-small bytes start 0 (lit< tt), pow-le-pow_right {n = 10} (lit< tt) {i = 0 + length bytes} {j = 18} (omega arith))

-- ---- `leading_spaces`

module _ (l : List ℕ) (i : ℕ) where
  here : i < length l → drop i l ≡ get_or l i 0 ∷ drop (i + 1) l
  here h = rw add-one (drop-cons l i 0 h)

  -- the first byte that is no space, or the end
  pub one_space : i < length l → get_or l i 0 ≡ 32 → strip (drop i l) ≡ strip l → strip (drop (i + 1) l) ≡ strip l
  unfolding strip
  one_space h e k = simp (here h, e) at k

  pub no_space_lem : i < length l → (get_or l i 0 ≡ 32 → ⊥) → strip (drop i l) ≡ strip l → drop i l ≡ strip l
  unfolding strip
  no_space_lem h e k = here h ∙ simp (here h, ne_eqb _ _ e) at k

  pub all-spaces : length l ≤ i → strip (drop i l) ≡ strip l → drop (length l) l ≡ strip l
  unfolding strip
  all-spaces h k = drop-length l ∙ rw (drop_of_length-le l h) at k

-- ---- leading spaces leave what is kept before the first byte

not_stripped : (b : ℕ) (bs : List ℕ) → eqb b 32 ≡ false → strip (b ∷ bs) ≡ b ∷ bs
unfolding strip
not_stripped b bs e = simp e

strip-step : (b : ℕ) (bs : List ℕ) → Byte b → pass (strip bs) ≡ pass bs → pass (strip (b ∷ bs)) ≡ pass (b ∷ bs)
unfolding strip pass_from step_of is_digit
strip-step b bs (v_space e) ih = rw e ih
strip-step b bs (v_minus e) ih = rw e
strip-step b bs (v_digit p q r) ih = ap (pass_from start) (not_stripped b bs p)
strip-step b bs (v_other p q r) ih = ap (pass_from start) (not_stripped b bs p)

pass-strip : (l : List ℕ) → pass (strip l) ≡ pass l
unfolding strip pass_from
pass-strip [] = refl
pass-strip (b ∷ bs) = strip-step b bs (byte b) (pass-strip bs)

-- ---- `read_on`

module _ (l : List ℕ) (k₀ : Kept) (from : ℕ) where
  pub again : (k k' : Kept) (i : ℕ) → k' ≡ step_of k (get_or l i 0) → i < length l → pass_from k (drop i l) ≡ pass_from k₀ (drop from l) → pass_from k' (drop (i + 1) l) ≡ pass_from k₀ (drop from l)
  unfolding pass_from
  again k k' i e h r =
      let more : pass_from k (drop i l) ≡ pass_from (step_of k (get_or l i 0)) (drop (i + 1) l) = ap (pass_from k) (here l i h) in
      rw e (sym more ∙ r)

  pub read_out : (k k' : Kept) (i : ℕ) → k' ≡ step_of k (get_or l i 0) → k'.mark ≡ Other → i < length l → pass_from k (drop i l) ≡ pass_from k₀ (drop from l) → Malformed ≡ says_of (pass_from k₀ (drop from l))
  read_out k k' i e o h r = sym (other-pass (drop (i + 1) l) k' o) ∙ ap says_of (again k k' i e h r)

  pub read_all : (k : Kept) (i : ℕ) (r : Column) → r ≡ says_of k → length l ≤ i → pass_from k (drop i l) ≡ pass_from k₀ (drop from l) → r ≡ says_of (pass_from k₀ (drop from l))
  unfolding pass_from
  read_all k i r e h p = e ∙ ap says_of (rw (drop_of_length-le l h) at p)

pub grown : (k k' : Kept) (b i : ℕ) → k' ≡ step_of k b → k.number < 10 ^ i → k'.number < 10 ^ (i + 1)
grown k k' b i e h = rw e (step_small k b i h)

pub small : (k : Kept) (l : List ℕ) (i : ℕ) → k.number < 10 ^ i → i ≤ length l → length l ≤ 18 → k.number < 10 ^ 18
small k l i h j m = omega (arith, pow-le-pow_right {n = 10} (lit< tt) {i = i} {j = 18} (omega arith))

-- ---- `behind_minus`: no column ends in a minus
pub minus_alone : (l : List ℕ) (k : Kept) (from : ℕ) → k.mark ≡ Minus → length l ≤ from → Malformed ≡ says_of (pass_from k (drop from l))
unfolding pass_from
minus_alone l k from e h = rw (drop_of_length-le l h, e) refl

-- ---- `scan`

module _ (l : List ℕ) (i : ℕ) (e : drop i l ≡ strip l) where
  pub spaces-alone : length l ≤ i → Malformed ≡ column_of l
  unfolding column_of signed
  spaces-alone h = rw (← e, drop_of_length-le l h)

  pub first-kept : (k : Kept) → k ≡ step_of start (get_or l i 0) → k.number < 10 ^ (i + 1)
  first-kept k f = grown start k (get_or l i 0) i f (one-le-pow i 10 (lit< tt))

  pub scanned : (k : Kept) (r : Column) → i < length l → k ≡ step_of start (get_or l i 0) → r ≡ says_of (pass_from k (drop (i + 1) l)) → r ≡ column_of l
  scanned k r h f g = g ∙ ap says_of (again l start i start k i f h refl ∙ ap (pass_from start) e ∙ pass-strip l) ∙ means l
