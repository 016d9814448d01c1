-- Stage two as a proposition, and its laws over ++. Assumes nothing.
use mathlib.Core.Path.{◌≡◌, refl, ap}
use mathlib.Core.Bool.{true}
use mathlib.Core.List.{List, [], ◌∷◌, ◌++◌}
use Prim.Native.Nat.{ℕ, zero, suc, ◌≤◌}
use Rattle.format.specs.Record.{Data, View, count_index}
use Rattle.format.specs.Basics.{Fault, fault, none, or_else, to_fault}
use Rattle.format.specs.Judge.{fault_at, missing, headers_and_items, highest_level, due_after, lowest_level, open_after, held_after, walk}
use Rattle.format.specs.Edit.{not_below, due_behind, open_behind}
use Rattle.format.proofs.Basics.{and-true, first_zero, unless_zero}
use borrow.Author.Tests.{leb-true, le-leb}

-- every record passes, whatever comes after
abbrev pub Passes : ℕ → ℕ → Data → List View → Type 0
Passes o n s [] = Unit {0}
Passes o n s (r ∷ rs) = (fault_at o n s r ≡ 0) × Passes (open_after o n r) (due_after n r) (held_after n s r) rs

abbrev pub Walks : ℕ → ℕ → Data → List View → Type 0
Walks o n s rs = Passes o n s rs × (due_behind n rs ≡ 0)

pub or_else-none : (a b : Fault) → or_else a b ≡ none → (a ≡ none) × (b ≡ none)
or_else-none none b e = (refl, e)
or_else-none (fault n r) b e = (e, cc)

pub to_fault-none : (n i : ℕ) → to_fault n i ≡ none → n ≡ 0
to_fault-none zero i e = refl
to_fault-none (suc n) i e = cc

pub missing-none : (n i : ℕ) → missing n i ≡ none → n ≡ 0
missing-none zero i e = refl
missing-none (suc n) i e = cc

pub walk-passes : (o n : ℕ) (s : Data) (owner i : ℕ) (rs : List View) → walk o n s owner i rs ≡ none → Walks o n s rs
walk-passes o n s owner i [] e = (tt, missing-none n owner e)
walk-passes o n s owner i (r ∷ rs) e =
    let p = or_else-none _ _ e in
    let w = walk-passes _ _ _ _ _ rs p.1 in
    ((to_fault-none _ _ p.0, w.0), w.1)

pub passes-walk : (o n : ℕ) (s : Data) (owner i : ℕ) (rs : List View) → Walks o n s rs → walk o n s owner i rs ≡ none
passes-walk o n s owner i [] w = rw w.1
passes-walk o n s owner i (r ∷ rs) w = rw w.0.0 (passes-walk _ _ _ _ _ rs (w.0.1, w.1))

-- the sort of data that is due after a list of records
abbrev pub sort : ℕ → Data → List View → Data
sort n s [] = s
sort n s (r ∷ rs) = sort (due_after n r) (held_after n s r) rs

-- over ++
pub due_behind-append : (n : ℕ) (a b : List View) → due_behind n (a ++ b) ≡ due_behind (due_behind n a) b
due_behind-append n [] b = refl
due_behind-append n (r ∷ a) b = due_behind-append (due_after n r) a b

pub open_behind-append : (o n : ℕ) (a b : List View) → open_behind o n (a ++ b) ≡ open_behind (open_behind o n a) (due_behind n a) b
open_behind-append o n [] b = refl
open_behind-append o n (r ∷ a) b = open_behind-append (open_after o n r) (due_after n r) a b

pub passes-split : (o n : ℕ) (s : Data) (a b : List View) → Passes o n s (a ++ b) → Passes o n s a × Passes (open_behind o n a) (due_behind n a) (sort n s a) b
passes-split o n s [] b p = (tt, p)
passes-split o n s (r ∷ a) b p = let q = passes-split _ _ _ a b p.1 in ((p.0, q.0), q.1)

pub passes-join : (o n : ℕ) (s : Data) (a b : List View) → Passes o n s a → Passes (open_behind o n a) (due_behind n a) (sort n s a) b → Passes o n s (a ++ b)
passes-join o n s [] b p q = q
passes-join o n s (r ∷ a) b p q = (p.0, passes-join _ _ _ a b p.1 q)

pub headers_and_items-append : (n : ℕ) (a b : List View) → headers_and_items n (a ++ b) ≡ headers_and_items n a ++ headers_and_items (due_behind n a) b
headers_and_items-append n [] b = refl
headers_and_items-append zero (r ∷ a) b = ap (λ (l : List View). r ∷ l) (headers_and_items-append _ a b)
headers_and_items-append (suc n) (r ∷ a) b = headers_and_items-append n a b

-- before a header or an item the sort does not matter
pub sort_free : (o : ℕ) (s t : Data) (b : List View) → Passes o 0 s b → Passes o 0 t b
sort_free o s t [] p = p
sort_free o s t (r ∷ b) p = p

-- what a header or item that passes has
pub record Good (o : ℕ) (r : View) : Type 0 where
  pub known : count_index r.kind ≤ 9
  pub sound : r.column_fault ≡ 0
  pub low : lowest_level r.kind ≤ r.level
  pub high : r.level ≤ highest_level r.kind
  pub near : r.level ≤ suc o
  pub ruled : r.rule_fault ≡ 0

pub good : (o : ℕ) (s : Data) (r : View) → fault_at o 0 s r ≡ 0 → Good o r
good o s r e =
    let a = first_zero _ _ e in
    let b = first_zero _ _ a.1 in
    let c = first_zero _ _ b.1 in
    let n = and-true _ _ (unless_zero _ _ c.0) in
    let m = and-true _ _ n.0 in
    record { known = leb-true _ _ (unless_zero _ _ a.0); sound = b.0; low = leb-true _ _ m.0; high = leb-true _ _ m.1; near = leb-true _ _ n.1; ruled = c.1 }

pub good_fault_at : (o : ℕ) (s : Data) (r : View) → Good o r → fault_at o 0 s r ≡ 0
good_fault_at o s r g = rw (le-leb _ _ g.known, g.sound, le-leb _ _ g.low, le-leb _ _ g.high, le-leb _ _ g.near, g.ruled)

-- the same records from another open level
pub reopen : (o o' : ℕ) (s t : Data) (b : List View) → not_below (suc o') b ≡ true → Passes o 0 s b → Passes o' 0 t b
reopen o o' s t [] h p = p
reopen o o' s t (r ∷ b) h p =
    let g = good o s r p.0 in
    (good_fault_at o' t r (record { known = g.known; sound = g.sound; low = g.low; high = g.high; near = leb-true _ _ h; ruled = g.ruled }), p.1)
