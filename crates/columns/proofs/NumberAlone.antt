-- The number of a column of spaces and digits, by the lower halves of its bytes: after each byte that of the pass, and so the column's number at the
-- end. Assumes nothing.
use mathlib.Core.Path.{◌≡◌, refl, ap, sym, ◌∙◌}
use mathlib.Core.Bool.{Bool, true, false, cond, false≢true}
use mathlib.Core.List.{List, [], ◌∷◌, ◌++◌}
use Prim.Native.Nat.{ℕ, zero, suc, ◌+◌, ◌-◌, ◌*◌, ◌%◌}
use native.Mathlib.Omega.{arith}
use borrow.Author.Tests.{leb-true, eqb-true, eqb-false}
use lib.Dec.{eqb, leb}
use lib.IntN.{pos, negsuc, neg_ℤ}
use Rattle.format.specs.declared.Column.TheVariants.{Value, MinusZero}
use Rattle.format.specs.Column.{is_digit, column_of}
use Rattle.format.proofs.Basics.{and-true}
use Rattle.columns.specs.declared.pass.Mark.{Mark}
use Rattle.columns.specs.declared.pass.Mark.TheVariants.{Spaces, Minus, Digits, MinusDigits, Other}
use Rattle.columns.specs.declared.pass.Kept.{Kept}
use Rattle.columns.specs.Pass.{digit_mark, other_mark, step_of, start, pass_from, pass, says, number_step, number_from}
use Rattle.columns.proofs.Reading.{kept, means, pass-append, pass_one}

-- ---- one byte

-- the marks of spaces and digits
abbrev is_plain : Mark → Bool
is_plain Spaces = true
is_plain Minus = false
is_plain Digits = true
is_plain MinusDigits = false
is_plain Other = false

half_of_digit : (b : ℕ) → is_digit b ≡ true → b % 16 ≡ b - 48
unfolding is_digit
half_of_digit b d =
    let t = and-true (leb 48 b) (leb b 57) d in
    omega (arith, leb-true 48 b t.0, leb-true b 57 t.1)

-- before the first digit the number is 0
abbrev ZeroBefore : Kept → Type 0
ZeroBefore k = k.mark ≡ Spaces → k.number ≡ 0

-- a byte that is no digit leaves spaces alone only where it is one of them
other_space : (m : Mark) (b : ℕ) → is_plain (other_mark m b) ≡ true → (m ≡ Spaces) × (b ≡ 32)
other_space Spaces b p = go (eqb b 32) (eqb b 45) refl p
  where
    go : (s t : Bool) → eqb b 32 ≡ s → is_plain (cond s Spaces (cond t Minus Other)) ≡ true → (Spaces ≡ Spaces) × (b ≡ 32)
    go true t e p = (refl, eqb-true b 32 e)
    go false true e p = absurd (false≢true p)
    go false false e p = absurd (false≢true p)
other_space Minus b p = absurd (false≢true p)
other_space Digits b p = absurd (false≢true p)
other_space MinusDigits b p = absurd (false≢true p)
other_space Other b p = absurd (false≢true p)

module _ (k : Kept) (b : ℕ) (nothing : ZeroBefore k) where
  abbrev Stepped : Kept → Type 0
  Stepped k' = (k'.number ≡ number_step k.number b) × ZeroBefore k'

  digit_no_space : (m : Mark) → digit_mark m ≡ Spaces → ⊥
  digit_no_space Spaces e = let z : ◌≡◌ {A = ℕ} 0 1 = cc in omega arith
  digit_no_space Minus e = let z : ◌≡◌ {A = ℕ} 0 1 = cc in omega arith
  digit_no_space Digits e = let z : ◌≡◌ {A = ℕ} 0 1 = cc in omega arith
  digit_no_space MinusDigits e = let z : ◌≡◌ {A = ℕ} 0 1 = cc in omega arith
  digit_no_space Other e = let z : ◌≡◌ {A = ℕ} 0 1 = cc in omega arith

  -- the number of the pass and the number alone are the same after one byte more, as long as spaces and digits come
  step-number : is_plain (step_of k b).mark ≡ true → Stepped (step_of k b)
  unfolding step_of
  step-number = go (is_digit b) refl
    where
      go : (t : Bool) → is_digit b ≡ t → is_plain (cond {A = Kept} t (kept (digit_mark k.mark) (k.number * 10 + (b - 48))) (kept (other_mark k.mark b) k.number)).mark ≡ true → Stepped (cond {A = Kept} t (kept (digit_mark k.mark) (k.number * 10 + (b - 48))) (kept (other_mark k.mark b) k.number))
      go true d p = (ap (λ (x : ℕ). k.number * 10 + x) (sym (half_of_digit b d)), λ e. absurd (digit_no_space k.mark e))
      go false d p =
          let s = other_space k.mark b p in
          let z : k.number ≡ 0 = nothing s.0 in
          (omega (arith, s.1), λ e. z)

-- ---- all bytes

-- behind a minus, and behind what no column has, no spaces and no plain digits come
not-plain-step : (k : Kept) (b : ℕ) → is_plain k.mark ≡ false → is_plain (step_of k b).mark ≡ false
unfolding step_of
not-plain-step k b = go (is_digit b) k.mark
  where
    go : (t : Bool) (m : Mark) → is_plain m ≡ false → is_plain (cond {A = Kept} t (kept (digit_mark m) (k.number * 10 + (b - 48))) (kept (other_mark m b) k.number)).mark ≡ false
    go t Spaces e = absurd (false≢true (sym e))
    go t Digits e = absurd (false≢true (sym e))
    go true Minus e = refl
    go false Minus e = refl
    go true MinusDigits e = refl
    go false MinusDigits e = refl
    go true Other e = refl
    go false Other e = refl

not_plain : (l : List ℕ) (k : Kept) → is_plain k.mark ≡ false → is_plain (pass_from k l).mark ≡ false
unfolding pass_from
not_plain [] k e = e
not_plain (b ∷ bs) k e = not_plain bs (step_of k b) (not-plain-step k b e)

still_plain : (l : List ℕ) (k : Kept) → is_plain (pass_from k l).mark ≡ true → is_plain k.mark ≡ true
still_plain l k p = go (is_plain k.mark) refl
  where
    go : (t : Bool) → is_plain k.mark ≡ t → t ≡ true
    go true e = refl
    go false e = sym (not_plain l k e) ∙ p

number-from : (l : List ℕ) (k : Kept) → ZeroBefore k → is_plain (pass_from k l).mark ≡ true → number_from k.number l ≡ (pass_from k l).number
unfolding pass_from number_from
number-from [] k nothing p = refl
number-from (b ∷ bs) k nothing p =
    let s = step-number k b nothing (still_plain bs (step_of k b) p) in
    ap (λ (x : ℕ). number_from x bs) (sym s.0) ∙ number-from bs (step_of k b) s.1 p

-- before the first digit there is no number, however many bytes came
zero_before : (l : List ℕ) (k : Kept) → ZeroBefore k → ZeroBefore (pass_from k l)
unfolding pass_from
zero_before [] k nothing = nothing
zero_before (b ∷ bs) k nothing = zero_before bs (step_of k b) (λ e. (step-number k b nothing (ap is_plain e)).1 e)

number_one : (before : List ℕ) (byte : ℕ) → is_plain (pass (before ++ byte ∷ [])).mark ≡ true → (pass (before ++ byte ∷ [])).number ≡ number_step (pass before).number byte
number_one before byte p =
    let e = pass_one before byte in
    ap (λ (k : Kept). k.number) e ∙ (step-number (pass before) byte (zero_before before start (λ s. refl)) (sym (ap (λ (k : Kept). is_plain k.mark) e) ∙ p)).0

-- a column that says a number of at least 0 is of spaces and digits, and that is its number
says_plain : (m : Mark) (n v : ℕ) → says m n ≡ Value (pos v) → (is_plain m ≡ true) × (n ≡ v)
says_plain Digits n v e = (refl, cc)
says_plain MinusDigits n v e = go (eqb n 0) refl e
  where
    below : (n : ℕ) → (n ≡ 0 → ⊥) → Value (neg_ℤ (pos n)) ≡ Value (pos v) → ⊥
    below zero h e = h refl
    below (suc n) h e = let x : negsuc n ≡ pos v = cc in let z : ◌≡◌ {A = ℕ} 0 1 = cc in omega arith

    go : (t : Bool) → eqb n 0 ≡ t → cond t MinusZero (Value (neg_ℤ (pos n))) ≡ Value (pos v) → (is_plain MinusDigits ≡ true) × (n ≡ v)
    go true z e = let x : ◌≡◌ {A = ℕ} 0 1 = cc in absurd (omega arith)
    go false z e = absurd (below n (eqb-false n 0 z) e)
says_plain Spaces n v e = let x : ◌≡◌ {A = ℕ} 0 1 = cc in absurd (omega arith)
says_plain Minus n v e = let x : ◌≡◌ {A = ℕ} 0 1 = cc in absurd (omega arith)
says_plain Other n v e = let x : ◌≡◌ {A = ℕ} 0 1 = cc in absurd (omega arith)

pub number-alone : (l : List ℕ) (v : ℕ) → column_of l ≡ Value (pos v) → number_from 0 l ≡ v
number-alone l v e =
    let p = says_plain (pass l).mark (pass l).number v (means l ∙ e) in
    number-from l start (λ s. refl) p.0 ∙ p.1

-- and on the way to it, after each byte
pub number_on_the_way : (before behind : List ℕ) (byte v : ℕ) → column_of ((before ++ byte ∷ []) ++ behind) ≡ Value (pos v) → (pass (before ++ byte ∷ [])).number ≡ number_step (pass before).number byte
number_on_the_way before behind byte v e =
    let l = (before ++ byte ∷ []) ++ behind in
    let p = says_plain (pass l).mark (pass l).number v (means l ∙ e) in
    let q : is_plain (pass_from (pass (before ++ byte ∷ [])) behind).mark ≡ true = sym (ap (λ (k : Kept). is_plain k.mark) (pass-append (before ++ byte ∷ []) behind start)) ∙ p.0 in
    number_one before byte (still_plain behind (pass (before ++ byte ∷ [])) q)
