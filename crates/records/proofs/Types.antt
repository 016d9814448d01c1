-- The type of a record by its first two bytes, in the code's own words. Assumes nothing.
use mathlib.Core.Path.{◌≡◌, refl, sym, ◌∙◌}
use mathlib.Core.Bool.{Bool, true, false, cond, ◌&&◌, and-true, and-false}
use mathlib.Core.List.{List, [], ◌∷◌}
use Prim.Native.Nat.{ℕ, zero, suc, ◌+◌, ◌-◌, ◌≤◌, ◌<◌}
use native.Mathlib.Omega.{arith}
use borrow.Author.Tests.{ne_eqb}
use lib.Dec.{eqb}
use lib.ListN.{length, get_or}
use Rattle.format.specs.Text.{bytes, begins}
use Rattle.format.specs.Record.{RecordType, H, G, T, other, type_of}
use Rattle.records.specs.declared.TypeCode.TheVariants.{Header, Element, Grid, Net, Other}
use Rattle.records.specs.Steps.{code_of}

-- ---- 'E' (69) and a digit from '1' (49) to '8' (56)

digit_type : (b k : ℕ) (r : List ℕ) → b ≡ 49 + k → k ≤ 7 → Element (b - 48) ≡ code_of (type_of (69 ∷ b ∷ r))
unfolding type_of begins bytes
digit_type b zero r e h = rw e
digit_type b (suc zero) r e h = rw e
digit_type b (suc (suc zero)) r e h = rw e
digit_type b (suc (suc (suc zero))) r e h = rw e
digit_type b (suc (suc (suc (suc zero)))) r e h = rw e
digit_type b (suc (suc (suc (suc (suc zero))))) r e h = rw e
digit_type b (suc (suc (suc (suc (suc (suc zero)))))) r e h = rw e
digit_type b (suc (suc (suc (suc (suc (suc (suc zero))))))) r e h = rw e
digit_type b (suc (suc (suc (suc (suc (suc (suc (suc k)))))))) r e h = absurd (omega arith)

no_digit_type : (b : ℕ) (r : List ℕ) → ((n : ℕ) → 49 ≤ n → n ≤ 56 → b ≡ n → ⊥) → Other ≡ code_of (type_of (69 ∷ b ∷ r))
unfolding type_of begins bytes
no_digit_type b r h = simp (none 49 (omega arith) (omega arith), none 50 (omega arith) (omega arith), none 51 (omega arith) (omega arith), none 52 (omega arith) (omega arith), none 53 (omega arith) (omega arith), none 54 (omega arith) (omega arith), none 55 (omega arith) (omega arith), none 56 (omega arith) (omega arith))
  where
    none : (n : ℕ) → 49 ≤ n → n ≤ 56 → eqb b n ≡ false
    none n p q = ne_eqb b n (h n p q)

-- ---- another letter: 'H' (72), 'G' (71) or 'T' (84) and a space

letter_type : (a b : ℕ) (r : List ℕ) → (a ≡ 69 → ⊥) → type_of (a ∷ b ∷ r) ≡ cond (eqb b 32) (cond (eqb a 72) H (cond (eqb a 71) G (cond (eqb a 84) T other))) other
unfolding type_of begins bytes
letter_type a b r h = simp (ne_eqb a 69 h) (go (eqb a 72) (eqb a 71) (eqb a 84) (eqb b 32))
  where
    go : (h g t s : Bool) → cond (h && (s && true)) H (cond (g && (s && true)) G (cond (t && (s && true)) T other)) ≡ cond s (cond h H (cond g G (cond t T other))) other
    go h g t true = simp and-true
    go h g t false = simp and-false

-- ---- `read_type`

code : (t t' : RecordType) → t ≡ t' → code_of t ≡ code_of t'
code t t' e = rw e

pub digit-below : (l : List ℕ) → length l ≡ 84 → get_or l 0 0 ≡ 69 → get_or l 1 0 < 49 → Other ≡ code_of (type_of l)
digit-below [] n e h = absurd (omega arith)
digit-below (a ∷ []) n e h = absurd (omega arith)
digit-below (a ∷ b ∷ r) n e h = rw e (no_digit_type b r (λ (n : ℕ) p q m. omega arith))

pub digit_above : (l : List ℕ) → length l ≡ 84 → get_or l 0 0 ≡ 69 → 57 ≤ get_or l 1 0 → Other ≡ code_of (type_of l)
digit_above [] n e h = absurd (omega arith)
digit_above (a ∷ []) n e h = absurd (omega arith)
digit_above (a ∷ b ∷ r) n e h = rw e (no_digit_type b r (λ (n : ℕ) p q m. omega arith))

pub digit-between : (l : List ℕ) (d : ℕ) → length l ≡ 84 → get_or l 0 0 ≡ 69 → 49 ≤ get_or l 1 0 → get_or l 1 0 < 57 → d ≡ get_or l 1 0 - 48 → Element d ≡ code_of (type_of l)
digit-between [] d n e h k q = absurd (omega arith)
digit-between (a ∷ []) d n e h k q = absurd (omega arith)
digit-between (a ∷ b ∷ r) d n e h k q = rw (e, q) (digit_type b (b - 49) r (omega arith) (omega arith))

-- what the letter says where a space follows it
abbrev letter : ℕ → RecordType
letter a = cond (eqb a 72) H (cond (eqb a 71) G (cond (eqb a 84) T other))

another_letter : (l : List ℕ) → length l ≡ 84 → (get_or l 0 0 ≡ 69 → ⊥) → code_of (type_of l) ≡ code_of (cond (eqb (get_or l 1 0) 32) (letter (get_or l 0 0)) other)
another_letter [] n h = absurd (omega arith)
another_letter (a ∷ []) n h = absurd (omega arith)
another_letter (a ∷ b ∷ r) n h = code (type_of (a ∷ b ∷ r)) (cond (eqb b 32) (letter a) other) (letter_type a b r h)

module _ (l : List ℕ) (n : length l ≡ 84) where
  pub no_space_lem : (a : ℕ) → get_or l 0 0 ≡ a → (a ≡ 69 → ⊥) → (get_or l 1 0 ≡ 32 → ⊥) → Other ≡ code_of (type_of l)
  no_space_lem a e h k = sym (another_letter l n (λ q. h (sym e ∙ q)) ∙ rw (ne_eqb (get_or l 1 0) 32 k))

  pub letter_H : get_or l 0 0 ≡ 72 → get_or l 1 0 ≡ 32 → Header ≡ code_of (type_of l)
  letter_H e k = sym (another_letter l n (λ q. omega arith) ∙ rw (e, k))

  pub letter_G : get_or l 0 0 ≡ 71 → get_or l 1 0 ≡ 32 → Grid ≡ code_of (type_of l)
  letter_G e k = sym (another_letter l n (λ q. omega arith) ∙ rw (e, k))

  pub letter_T : get_or l 0 0 ≡ 84 → get_or l 1 0 ≡ 32 → Net ≡ code_of (type_of l)
  letter_T e k = sym (another_letter l n (λ q. omega arith) ∙ rw (e, k))

  pub no_letter : (get_or l 0 0 ≡ 69 → ⊥) → (get_or l 0 0 ≡ 72 → ⊥) → (get_or l 0 0 ≡ 71 → ⊥) → (get_or l 0 0 ≡ 84 → ⊥) → Other ≡ code_of (type_of l)
  no_letter h p q r = sym (another_letter l n h ∙ simp (ne_eqb _ 72 p, ne_eqb _ 71 q, ne_eqb _ 84 r) (either (eqb (get_or l 1 0) 32)))
    where
      either : (t : Bool) → code_of (cond t other other) ≡ Other
      either true = refl
      either false = refl

pub ruleset type_laws = (digit-below, digit_above, digit-between, no_space_lem, letter_H, letter_G, letter_T, no_letter)
