-- Acceptance as a proposition, both ways. Assumes nothing.
use mathlib.Core.Path.{◌≡◌, refl}
use mathlib.Core.Logic.{◌≢◌}
use mathlib.Core.Bool.{Bool, true, false, not, ◌||◌}
use mathlib.Core.List.{List, [], ◌∷◌}
use Prim.Native.Nat.{ℕ, zero, suc, ◌+◌, ◌<◌}
use native.Mathlib.Omega.{arith}
use lib.Dec.{eqb}
use lib.ListN.{length}
use borrow.Author.Tests.{eqb-true, eqb-false, eq-eqb}
use Rattle.format.specs.Basics.{Fault, fault, none, or_else, to_fault, unless}
use Rattle.format.specs.Judge.{File, accepted, counts_agree, all, body_fault, headers_and_items, items, judge, count_agrees, sheet_count_fault, header_count_fault, count_fault, verdict, walk}
use Rattle.format.specs.Record.{View, is_head, nothing}
use Rattle.format.proofs.Basics.{and-true, true_and, unless_zero}
use Rattle.format.proofs.JudgeWalks.{Walks, or_else-none, to_fault-none, walk-passes, passes-walk}
use Rattle.format.proofs.JudgeCounts.{Agree, Counted}

pub record Ok (f : File) : Type 0 where
  pub walks : Walks 0 0 nothing f.body
  pub stated_elements : f.stated_elements ≡ items (headers_and_items 0 f.body)
  pub stated_records : f.stated_records ≡ length f.body
  pub counted : Counted (headers_and_items 0 f.body)

pub all_true : (n : ℕ) (f : ℕ → Bool) → all n f ≡ true → (j : ℕ) → j < n → f j ≡ true
all_true zero f e j l = absurd (omega arith)
all_true (suc n) f e j l = go (eqb j n) refl (all_true n f (and-true (f n) _ e).1 j)
  where
    go : (t : Bool) → eqb j n ≡ t → (j < n → f j ≡ true) → f j ≡ true
    go true q ih = rw (eqb-true j n q) (and-true (f n) (all n f) e).0
    go false q ih = let ne : j ≢ n = eqb-false j n q in ih (omega arith)

pub true_all : (n : ℕ) (f : ℕ → Bool) → ((j : ℕ) → j < n → f j ≡ true) → all n f ≡ true
true_all zero f h = refl
true_all (suc n) f h = true_and _ _ (h n (omega arith)) (true_all n f (λ j l. h j (omega arith)))

pub counts_agree_agree : (r : View) (rs : List View) → counts_agree r rs ≡ true → Agree r rs
counts_agree_agree r rs e = let a = and-true (all 10 (count_agrees r rs)) _ e in record { each = λ j l. eqb-true _ _ (all_true 10 (count_agrees r rs) a.0 j l); whole = eqb-true _ _ a.1 }

pub agree_counts_agree : (r : View) (rs : List View) → Agree r rs → counts_agree r rs ≡ true
agree_counts_agree r rs a = true_and _ _ (true_all 10 (count_agrees r rs) (λ j l. eq-eqb _ _ (a.each j l))) (eq-eqb _ _ a.whole)

header_count_fault_agree : (r : View) (rs : List View) → header_count_fault r rs ≡ 0 → is_head r.kind ≡ true → Agree r rs
header_count_fault_agree r rs e h = counts_agree_agree r rs (unless_zero _ _ (rw h at e))

agree_header_count_fault : (r : View) (rs : List View) → (is_head r.kind ≡ true → Agree r rs) → header_count_fault r rs ≡ 0
agree_header_count_fault r rs a = go (is_head r.kind) refl
  where
    go : (t : Bool) → is_head r.kind ≡ t → unless (not t || counts_agree r rs) 10 ≡ 0
    go true e = rw (agree_counts_agree r rs (a e))
    go false e = refl

pub count_fault_counted : (n i : ℕ) (rs : List View) → count_fault n i rs ≡ none → Counted (headers_and_items n rs)
count_fault_counted n i [] e = tt
count_fault_counted zero i (r ∷ rs) e = let p = or_else-none _ _ e in (header_count_fault_agree r _ (to_fault-none _ _ p.0), count_fault_counted _ _ rs p.1)
count_fault_counted (suc n) i (r ∷ rs) e = count_fault_counted n _ rs e

pub counted_count_fault : (n i : ℕ) (rs : List View) → Counted (headers_and_items n rs) → count_fault n i rs ≡ none
counted_count_fault n i [] c = refl
counted_count_fault zero i (r ∷ rs) c = rw (agree_header_count_fault r _ c.0) (counted_count_fault _ _ rs c.1)
counted_count_fault (suc n) i (r ∷ rs) c = counted_count_fault n _ rs c

pub verdict-none : (x : Fault) (a b n m : ℕ) → verdict x a b ≡ accepted n m → x ≡ none
verdict-none none a b n m e = refl
verdict-none (fault k r) a b n m e = cc

pub accepted_ok : (f : File) (n m : ℕ) → judge f ≡ accepted n m → Ok f
unfolding judge
accepted_ok f n m e =
    let x = or_else-none (walk 0 0 nothing 0 (suc f.part_length) f.body) (or_else (to_fault (sheet_count_fault f) 2) (count_fault 0 (suc f.part_length) f.body)) (verdict-none (body_fault f) _ _ _ _ e) in
    let y = or_else-none (to_fault (sheet_count_fault f) 2) (count_fault 0 (suc f.part_length) f.body) x.1 in
    let z = and-true (eqb f.stated_elements (items (headers_and_items 0 f.body))) (eqb f.stated_records (length f.body)) (unless_zero _ _ (to_fault-none (sheet_count_fault f) 2 y.0)) in
    record { walks = walk-passes 0 0 nothing 0 (suc f.part_length) f.body x.0; stated_elements = eqb-true _ _ z.0; stated_records = eqb-true _ _ z.1; counted = count_fault_counted 0 (suc f.part_length) f.body y.1 }

pub ok_accepted : (f : File) → Ok f → judge f ≡ accepted (f.part_length + length f.body) (items (headers_and_items 0 f.body))
unfolding judge
ok_accepted f k = rw (passes-walk 0 0 nothing 0 (suc f.part_length) f.body k.walks, eq-eqb _ _ k.stated_elements, eq-eqb _ _ k.stated_records, counted_count_fault 0 (suc f.part_length) f.body k.counted)
