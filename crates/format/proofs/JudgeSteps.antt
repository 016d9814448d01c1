-- One step of the walk; what is counted for a header behind a list of records, and below its level. Assumes nothing.
use mathlib.Core.Path.{◌≡◌, refl}
use mathlib.Core.Logic.{◌≢◌}
use mathlib.Core.Bool.{Bool, true, false, cond}
use mathlib.Core.List.{List, [], ◌∷◌, ◌++◌}
use Prim.Native.Nat.{ℕ, zero, suc, pred, ◌+◌, ◌<◌}
use native.Mathlib.Omega.{arith}
use lib.Dec.{eqb}
use borrow.Author.Tests.{eqb-false, ne_eqb}
use Rattle.format.specs.Record.{Data, Kind, View, head, item, neither}
use Rattle.format.specs.Above.{NoHeaderOf}
use Rattle.format.specs.Judge.{fault_at, headers_and_items, counts_for, owner_after, is_header_at, due_after, open_after, held_after, count_under, walk}
use Rattle.format.proofs.JudgeWalks.{Passes, Good, good}

-- one step of the walk: a record that passes hands the answer on
pub walk_step : (o n : ℕ) (s : Data) (owner i : ℕ) (r : View) (rs : List View) → fault_at o n s r ≡ 0 → walk o n s owner i (r ∷ rs) ≡ walk (open_after o n r) (due_after n r) (held_after n s r) (owner_after n owner i) (suc i) rs
walk_step o n s owner i r rs e = rw e

-- below level L nothing more is counted for a header of level L
pub count_under-low : (L j o n : ℕ) (s : Data) (rs : List View) → o < L → Passes o n s rs → count_under L j (headers_and_items n rs) ≡ 0
count_under-low L j o n s [] l p = refl
count_under-low L j o zero s (r ∷ rs) l p = go r.kind refl (eqb r.level L) refl (λ l₂. count_under-low L j (open_after o 0 r) (due_after 0 r) (held_after 0 s r) rs l₂ p.1)
  where
    g : Good o r
    g = good o s r p.0

    no_counts_for : counts_for L j r ≡ 0
    no_counts_for = rw (ne_eqb r.level (suc L) (omega (arith, g.near)))

    go : (k : Kind) → r.kind ≡ k → (t : Bool) → eqb r.level L ≡ t → (open_after o 0 r < L → count_under L j (headers_and_items (due_after 0 r) rs) ≡ 0) → cond (is_header_at L r) 0 (counts_for L j r + count_under L j (headers_and_items (due_after 0 r) rs)) ≡ 0
    go head e true q ih = rw (e, q)
    go head e false q ih = rw (no_counts_for, ih (rw e (let ne : r.level ≢ L = eqb-false _ _ q in omega (arith, g.near)))) (rw (e, q))
    go (item k) e t q ih = rw (no_counts_for, ih (rw e (let h : pred r.level < L = omega (arith, g.near) in h))) (rw e)
    go neither e t q ih = rw (no_counts_for, ih (rw e (let h : pred r.level < L = omega (arith, g.near) in h))) (rw e)
count_under-low L j o (suc n) s (r ∷ rs) l p = count_under-low L j o n s rs l p.1

-- over ++, while no header of level L is passed: what a running count wants
pub count_under-append : (L j : ℕ) (a b : List View) → NoHeaderOf L a → count_under L j (a ++ b) ≡ count_under L j a + count_under L j b
count_under-append L j [] b c = omega arith
count_under-append L j (r ∷ a) b c = rw (c.0, count_under-append L j a b c.1) (omega arith)
