-- Checks in order: the first that applies is one, and what tests say of it. Assumes nothing.
use mathlib.Core.Path.{◌≡◌, refl, sym, ◌∙◌}
use mathlib.Core.Logic.{◌⊎◌, inl, inr, ◌↔◌, ◌≢◌}
use mathlib.Core.Bool.{Bool, true, false, ◌&&◌, ◌||◌, false≢true}
use mathlib.Core.List.{List, [], ◌∷◌}
use Prim.Native.Nat.{ℕ, suc, ◌≤◌, ◌<◌}
use native.Mathlib.Omega.{arith}
use lib.Dec.{leb, eqb}
use borrow.Author.Tests.{leb-true, leb-false, eqb-true, eqb-false}
use Rattle.format.specs.Basics.{given, refused, first, unless}
use Rattle.format.specs.Checks.{Check, FirstOf, AnswersFirst}

-- ---- Checks in order: there is only one first
pub one_first : (cs : List Check) (n m : ℕ) → FirstOf cs n → FirstOf cs m → n ≡ m
unfolding FirstOf
one_first [] n m a b = a ∙ sym b
one_first (c ∷ cs) n m (inl a) (inl b) = a.1 ∙ sym b.1
one_first (c ∷ cs) n m (inl a) (inr b) = absurd (b.0 a.0)
one_first (c ∷ cs) n m (inr a) (inl b) = absurd (a.0 b.0)
one_first (c ∷ cs) n m (inr a) (inr b) = one_first cs n m a.1 b.1

-- so a number that is the first is so exactly
pub exactly_first : (cs : List Check) (v n : ℕ) → FirstOf cs v → (v ≡ n) ↔ FirstOf cs n
exactly_first cs v n f = (λ e. rw e at f, λ g. one_first cs v n f g)

-- what holds of 0 and of every number of the checks holds of the first
abbrev pub Each : (ℕ → Type 0) → List Check → Type 0
Each P [] = Unit {0}
Each P (c ∷ cs) = P c.number × Each P cs

pub first_is : (P : ℕ → Type 0) (cs : List Check) (n : ℕ) → P 0 → Each P cs → FirstOf cs n → P n
unfolding FirstOf
first_is P [] n z e f = rw f z
first_is P (c ∷ cs) n z e (inl f) = rw f.1 e.0
first_is P (c ∷ cs) n z e (inr f) = first_is P cs n z e.1 f.1

-- a test says whether a sentence applies
pub record Says (test : Bool) (P : Type 0) : Type 0 where
  pub yes : test ≡ false → P
  pub no : test ≡ true → P → ⊥

-- one check more in front
pub check_first : (n : ℕ) (test : Bool) (P : Type 0) (cs : List Check) (v : ℕ) → Says test P → (test ≡ true → FirstOf cs v) → FirstOf (record { number = suc n; applies = P } ∷ cs) (first (unless test (suc n)) v)
unfolding FirstOf
check_first n true P cs v s rest = inr (s.no refl, rest refl)
check_first n false P cs v s rest = inl (s.yes refl, refl)

-- one that never applies
pub check_never : (n : ℕ) (cs : List Check) (v : ℕ) → FirstOf cs v → FirstOf (record { number = n; applies = ⊥ } ∷ cs) v
unfolding FirstOf
check_never n cs v f = inr (λ x. x, f)

pub check_end : (n : ℕ) (test : Bool) (P : Type 0) → Says test P → FirstOf (record { number = suc n; applies = P } ∷ []) (unless test (suc n))
unfolding FirstOf
check_end n true P s = inr (s.no refl, refl)
check_end n false P s = inl (s.yes refl, refl)

-- ---- Tests and what they say
-- a test decides a statement
pub record Decides (test : Bool) (P : Type 0) : Type 0 where
  pub yes : test ≡ true → P
  pub no : test ≡ false → P → ⊥

pub decides_by : {test : Bool} {P : Type 0} → (test ≡ true → P) → (P → test ≡ true) → Decides test P
decides_by f g = record { yes = f; no = λ e p. false≢true (sym e ∙ g p) }

pub decides_says : {test : Bool} {P : Type 0} → Decides test P → Says test (P → ⊥)
decides_says d = record { yes = d.no; no = λ e q. q (d.yes e) }

pub says_never : Says true ⊥
says_never = record { yes = λ e. false≢true (sym e); no = λ e x. x }

pub says_map : {test : Bool} {P Q : Type 0} → (P → Q) → (Q → P) → Says test P → Says test Q
says_map f g s = record { yes = λ e. f (s.yes e); no = λ e q. s.no e (g q) }

pub says-and : {a b : Bool} {P Q : Type 0} → Says a P → Says b Q → Says (a && b) (P ⊎ Q)
says-and {a = true} p q = record { yes = λ e. inr (q.yes e); no = λ e. elim [ inl x ↦ p.no refl x | inr y ↦ q.no e y ] }
says-and {a = false} p q = record { yes = λ e. inl (p.yes refl); no = λ e. absurd (false≢true e) }

pub says_still : {a : Bool} {P : Type 0} → Says a P → Says (a && true) P
says_still {a = true} p = p
says_still {a = false} p = p

-- the same where the second test is asked behind the first
pub says_then : {a b : Bool} {P Q : Type 0} → Says a P → (a ≡ true → Says b Q) → Says (a && b) (P ⊎ Q)
says_then {a = true} p q = says-and p (q refl)
says_then {a = false} p q = record { yes = λ e. inl (p.yes refl); no = λ e. absurd (false≢true e) }

pub says-or : {a b : Bool} {P Q : Type 0} → Says a P → Says b Q → Says (a || b) (Q × P)
says-or {a = true} p q = record { yes = λ e. absurd (false≢true (sym e)); no = λ e x. p.no refl x.1 }
says-or {a = false} p q = record { yes = λ e. (q.yes e, p.yes refl); no = λ e x. q.no e x.0 }

pub decides_and : {a b : Bool} {P Q : Type 0} → Decides a P → Decides b Q → Decides (a && b) (P × Q)
decides_and {a = true} p q = record { yes = λ e. (p.yes refl, q.yes e); no = λ e x. q.no e x.1 }
decides_and {a = false} p q = record { yes = λ e. absurd (false≢true e); no = λ e x. p.no refl x.0 }

pub decides_or : {a b : Bool} {P Q : Type 0} → Decides a P → Decides b Q → Decides (a || b) (P ⊎ Q)
decides_or {a = true} p q = record { yes = λ e. inl (p.yes refl); no = λ e. absurd (false≢true (sym e)) }
decides_or {a = false} p q = record { yes = λ e. inr (q.yes e); no = λ e. elim [ inl x ↦ p.no refl x | inr y ↦ q.no e y ] }

pub decides_map : {test : Bool} {P Q : Type 0} → (P → Q) → (Q → P) → Decides test P → Decides test Q
decides_map f g d = record { yes = λ e. f (d.yes e); no = λ e q. d.no e (g q) }

pub surely : {test : Bool} {P : Type 0} → Decides test P → P → test ≡ true
surely {test = true} d p = refl
surely {test = false} d p = absurd (d.no refl p)

pub always : Decides true (Unit {0})
always = record { yes = λ e. tt; no = λ e x. false≢true (sym e) }

pub decides_eqb : (a b : ℕ) → Decides (eqb a b) (a ≡ b)
decides_eqb a b = record { yes = eqb-true a b; no = eqb-false a b }

pub decides_leb : (a b : ℕ) → Decides (leb a b) (a ≤ b)
decides_leb a b = record { yes = leb-true a b; no = λ e l. omega (arith, leb-false a b e) }

pub says_eqb : (a b : ℕ) → Says (eqb a b) (a ≢ b)
says_eqb a b = record { yes = eqb-false a b; no = λ e n. n (eqb-true a b e) }

pub says_leb : (a b : ℕ) → Says (leb a b) (b < a)
says_leb a b = record { yes = leb-false a b; no = λ e l. omega (arith, leb-true a b e) }

-- ---- Answers by checks in order
pub values-first : {A : Type 0} (checks : List Check) (value : A) → FirstOf checks 0 → AnswersFirst checks (given value)
values-first checks value f = record {
  refusal = λ number at. (λ e. let x : ◌≡◌ {A = ℕ} 0 1 = cc in absurd (omega arith), λ h. absurd (h.1 (one_first checks number 0 h.2 f)));
  values = (λ e. f, λ g. (value, refl));
}

pub refusal_first : {A : Type 0} (checks : List Check) (n : ℕ) → FirstOf checks (suc n) → AnswersFirst {A = A} checks (refused (suc n) 0)
refusal_first checks n f = record {
  refusal = λ number at. (λ e. let p : at ≡ 0 = cc in let q : number ≡ suc n = cc in (p, omega arith, rw q f), λ h. let q : number ≡ suc n = one_first checks number (suc n) h.2 f in let p : at ≡ 0 = h.0 in cc);
  values = (λ e. let x : ◌≡◌ {A = ℕ} 0 1 = cc in absurd (omega arith), λ g. let x : suc n ≡ 0 = one_first checks (suc n) 0 f g in absurd (omega arith));
}
