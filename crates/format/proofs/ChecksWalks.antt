-- Stage two: the walk finds the first fault. Assumes nothing.
use mathlib.Core.Path.{◌≡◌, refl, ap, sym, ◌∙◌}
use mathlib.Core.Logic.{inl, inr, ◌↔◌, ◌≢◌}
use mathlib.Core.Bool.{Bool, true, false, false≢true}
use mathlib.Core.List.{List, [], ◌∷◌, ◌++◌, map}
use Prim.Native.Nat.{ℕ, zero, suc, ◌+◌, ◌≤◌, ◌<◌}
use native.Mathlib.Omega.{arith}
use lib.ListN.{length, length-append, drop}
use Rattle.format.specs.Basics.{Fault, none, fault, or_else, to_fault}
use Rattle.format.specs.Record.{Data, nothing, view}
use Rattle.format.specs.Part.{part_from, part_fault}
use Rattle.format.specs.Sheet.{Phase, due_a, due_b, due_c, due_d, due_e, due_f, body, is_over, after, wrong_in, sheet_machine}
use Rattle.format.specs.Judge.{open_of, fault_at, walk, open_after, due_after}
use Rattle.format.specs.Checks.{FirstOf, in_order, Walk, due_behind_all, AllPass, FirstFault, Due, of_part, header_or_item, data_due, faults_due, enter, due_again, stated, due_next, sheet_walk, Missing, from_part, from_item, StageTwo}
use Rattle.format.proofs.ChecksOrder.{one_first}
use Rattle.format.proofs.ChecksRecords.{due_first, data_first}
use Rattle.format.proofs.ChecksParts.{part-first}

-- ---- A walk that finds a number at each record, and at the end what is missing
module _ (W : Walk) (found : W.Due → List ℕ → ℕ) (right : (due : W.Due) (r : List ℕ) → FirstOf (in_order (W.faults due r)) (found due r)) where
  -- the first fault of the records
  unfoldable pub records-fault : W.Due → ℕ → List (List ℕ) → Fault
  records-fault due i [] = none
  records-fault due i (r ∷ rs) = or_else (to_fault (found due r) i) (records-fault (W.next due r) (suc i) rs)

  data Walked (due : W.Due) (i : ℕ) (rs : List (List ℕ)) : Type 0 where
    passes : records-fault due i rs ≡ none → AllPass W due rs → Walked due i rs
    stops : (n k : ℕ) → records-fault due i rs ≡ fault n k → FirstFault W due i rs n k → Walked due i rs

  all_more : (due : W.Due) (r : List ℕ) (rs : List (List ℕ)) → found due r ≡ 0 → AllPass W (W.next due r) rs → AllPass W due (r ∷ rs)
  all_more due r rs z h [] x behind e = let p : r ≡ x = cc in rw (← p) (rw z at (right due r))
  all_more due r rs z h (y ∷ front) x behind e = let p : r ≡ y = cc in let q : rs ≡ front ++ x ∷ behind = cc in rw (← p) (h front x behind q)

  all_none : (due : W.Due) → AllPass W due []
  all_none due front r behind e = absurd (omega (arith, ap length e ∙ length-append front (r ∷ behind)))

  walked : (due : W.Due) (i : ℕ) (rs : List (List ℕ)) → Walked due i rs
  unfolding records-fault
  walked due i [] = passes refl (all_none due)
  walked due i (r ∷ rs) = go (found due r) refl (walked (W.next due r) (suc i) rs)
    where
      go : (n : ℕ) → found due r ≡ n → Walked (W.next due r) (suc i) rs → Walked due i (r ∷ rs)
      go zero q (passes e all) = passes (rw q e) (all_more due r rs q all)
      go zero q (stops n k e f) = stops n k (rw q e) (record { front = r ∷ f.front; it = f.it; behind = f.behind; whole = ap (λ (l : List (List ℕ)). r ∷ l) f.whole; passed = all_more due r f.front q f.passed; fails = f.fails; some = f.some; is = omega (arith, f.is) })
      go (suc n) q w = stops (suc n) i (rw q) (record { front = []; it = r; behind = rs; whole = refl; passed = all_none due; fails = rw q at (right due r); some = λ e. omega arith; is = omega arith })

  all_tail : (due : W.Due) (r : List ℕ) (rs : List (List ℕ)) → AllPass W due (r ∷ rs) → AllPass W (W.next due r) rs
  all_tail due r rs h front x behind e = h (r ∷ front) x behind (ap (λ (l : List (List ℕ)). r ∷ l) e)

  all_first : (due : W.Due) (r : List ℕ) (rs : List (List ℕ)) → AllPass W due (r ∷ rs) → found due r ≡ 0
  all_first due r rs h = one_first _ _ _ (right due r) (h [] r rs refl)

  all-fine : (due : W.Due) (i : ℕ) (rs : List (List ℕ)) → AllPass W due rs → records-fault due i rs ≡ none
  unfolding records-fault
  all-fine due i [] h = refl
  all-fine due i (r ∷ rs) h = rw (all_first due r rs h) (all-fine (W.next due r) (suc i) rs (all_tail due r rs h))

  fault-at : (due : W.Due) (i : ℕ) (front : List (List ℕ)) (r : List ℕ) (behind : List (List ℕ)) (n : ℕ) → AllPass W due front → FirstOf (in_order (W.faults (due_behind_all W due front) r)) n → n ≢ 0 → records-fault due i (front ++ r ∷ behind) ≡ fault n (i + length front)
  unfolding records-fault
  fault-at due i [] r behind zero h f s = absurd (s refl)
  fault-at due i [] r behind (suc n) h f s = rw (one_first _ (found due r) (suc n) (right due r) f) (ap (fault (suc n)) (omega arith))
  fault-at due i (x ∷ front) r behind n h f s = rw (all_first due x front h) (fault-at (W.next due x) (suc i) front r behind n (all_tail due x front h) f s ∙ ap (fault n) (omega arith))

  -- exactly
  pub fault_exactly : (due : W.Due) (i : ℕ) (rs : List (List ℕ)) (n k : ℕ) → records-fault due i rs ≡ fault n k ↔ FirstFault W due i rs n k
  fault_exactly due i rs n k = (λ e. go e (walked due i rs), λ f. rw (f.whole, f.is) (fault-at due i f.front f.it f.behind n f.passed f.fails f.some))
    where
      go : records-fault due i rs ≡ fault n k → Walked due i rs → FirstFault W due i rs n k
      go e (passes q all) = let x : ◌≡◌ {A = ℕ} 0 1 = cc in absurd (omega arith)
      go e (stops m j q f) = let a : m ≡ n = cc in let b : j ≡ k = cc in rw (a, b) at f

  pub none_exactly : (due : W.Due) (i : ℕ) (rs : List (List ℕ)) → records-fault due i rs ≡ none ↔ AllPass W due rs
  none_exactly due i rs = (λ e. go e (walked due i rs), all-fine due i rs)
    where
      go : records-fault due i rs ≡ none → Walked due i rs → AllPass W due rs
      go e (passes q all) = all
      go e (stops m j q f) = let x : ◌≡◌ {A = ℕ} 0 1 = cc in absurd (omega arith)

-- ---- A sheet
number_due : Due → List ℕ → ℕ
number_due (of_part p) r = wrong_in p r
number_due (header_or_item opened) r = fault_at opened 0 nothing (view r)
number_due (data_due opened held more) r = fault_at opened (suc more) held (view r)

number-right : (due : Due) (r : List ℕ) → FirstOf (in_order (faults_due due r)) (number_due due r)
unfolding number_due
number-right (of_part p) r = part-first p r
number-right (header_or_item opened) r = due_first opened nothing r
number-right (data_due opened held more) r = data_first opened more held r

abbrev sheet_fault_from : Due → ℕ → List (List ℕ) → Fault
sheet_fault_from due i rs = records-fault sheet_walk number_due number-right due i rs

-- what is missing at the end, with the number of the last header or item, or 1
lacking : Due → (owner : ℕ) → Fault
lacking (of_part p) owner = fault 3 owner
lacking (header_or_item opened) owner = none
lacking (data_due opened held more) owner = fault 3 owner

owner_next : Due → (owner i : ℕ) → ℕ
owner_next (of_part p) owner i = owner
owner_next (header_or_item opened) owner i = i
owner_next (data_due opened held more) owner i = owner

owner_behind : Due → (owner i : ℕ) → List (List ℕ) → ℕ
owner_behind due owner i [] = owner
owner_behind due owner i (r ∷ rs) = owner_behind (due_next due r) (owner_next due owner i) (suc i) rs

abbrev total : Due → (owner i : ℕ) → List (List ℕ) → Fault
total due owner i rs = or_else (sheet_fault_from due i rs) (lacking (due_behind_all sheet_walk due rs) (owner_behind due owner i rs))

pub or_else_assoc : (a b c : Fault) → or_else (or_else a b) c ≡ or_else a (or_else b c)
or_else_assoc none b c = refl
or_else_assoc (fault n k) b c = refl

body-total : (o n : ℕ) (held : Data) (owner i : ℕ) (rs : List (List ℕ)) → walk o n held owner i (map view rs) ≡ total (due_again o held n) owner i rs
unfolding records-fault number_due lacking owner_next owner_behind
body-total o zero held owner i [] = refl
body-total o (suc n) held owner i [] = refl
body-total o zero held owner i (r ∷ rs) = ap (or_else (to_fault (fault_at o 0 nothing (view r)) i)) (body-total (open_after o 0 (view r)) (due_after 0 (view r)) (view r).data_held i (suc i) rs) ∙ sym (or_else_assoc (to_fault (fault_at o 0 nothing (view r)) i) _ _)
body-total o (suc n) held owner i (r ∷ rs) = ap (or_else (to_fault (fault_at o (suc n) held (view r)) i)) (body-total o n held owner (suc i) rs) ∙ sym (or_else_assoc (to_fault (fault_at o (suc n) held (view r)) i) _ _)

-- the sheet part, and behind it the body
abbrev from_phase : Phase → ℕ → List (List ℕ) → Fault
from_phase q i rs = or_else (part_fault sheet_machine q i rs) (walk 0 0 nothing 0 (i + part_from sheet_machine q rs) (map view (drop (part_from sheet_machine q rs) rs)))

free_owner : (i : ℕ) (rs : List (List ℕ)) → walk 0 0 nothing 0 i (map view rs) ≡ walk 0 0 nothing 1 i (map view rs)
free_owner i [] = refl
free_owner i (r ∷ rs) = refl

in_body : (i : ℕ) (rs : List (List ℕ)) → from_phase body i rs ≡ total (header_or_item 0) 1 i rs
in_body i [] = body-total 0 0 nothing 1 i []
in_body i (r ∷ rs) = ap (λ (j : ℕ). walk 0 0 nothing 0 j (map view (r ∷ rs))) same ∙ free_owner i (r ∷ rs) ∙ body-total 0 0 nothing 1 i (r ∷ rs)
  where
    same : i + 0 ≡ i
    same = omega arith

-- one record of the part, or its end
part-more : (q : Phase) → is_over q ≡ false → (i : ℕ) (r : List ℕ) (rs : List (List ℕ)) → from_phase (after q r) (suc i) rs ≡ total (enter (after q r)) 1 (suc i) rs → from_phase q i (r ∷ rs) ≡ total (of_part q) 1 i (r ∷ rs)
unfolding records-fault number_due owner_next owner_behind
part-more q over i r rs ih = rw over (or_else_assoc (to_fault (wrong_in q r) i) (part_fault sheet_machine (after q r) (suc i) rs) _ ∙ ap (or_else (to_fault (wrong_in q r) i)) (ap (λ (j : ℕ). or_else (part_fault sheet_machine (after q r) (suc i) rs) (walk 0 0 nothing 0 j (map view (drop (part_from sheet_machine (after q r) rs) rs)))) same ∙ ih) ∙ sym (or_else_assoc (to_fault (wrong_in q r) i) _ _))
  where
    same : i + suc (part_from sheet_machine (after q r) rs) ≡ suc i + part_from sheet_machine (after q r) rs
    same = omega arith

part_end : (q : Phase) (i : ℕ) → from_phase q i [] ≡ total (enter q) 1 i []
unfolding records-fault lacking owner_behind
part_end body i = refl
part_end due_a i = refl
part_end (due_b level more) i = refl
part_end (due_c unit wholes more) i = refl
part_end (due_d unit wholes more) i = refl
part_end (due_e unit wholes more fs) i = refl
part_end (due_f unit wholes more fs) i = refl

part_step : (q : Phase) (i : ℕ) (r : List ℕ) (rs : List (List ℕ)) → from_phase (after q r) (suc i) rs ≡ total (enter (after q r)) 1 (suc i) rs → from_phase q i (r ∷ rs) ≡ total (enter q) 1 i (r ∷ rs)
part_step body i r rs ih = in_body i (r ∷ rs)
part_step due_a i r rs ih = part-more due_a refl i r rs ih
part_step (due_b level more) i r rs ih = part-more (due_b level more) refl i r rs ih
part_step (due_c unit wholes more) i r rs ih = part-more (due_c unit wholes more) refl i r rs ih
part_step (due_d unit wholes more) i r rs ih = part-more (due_d unit wholes more) refl i r rs ih
part_step (due_e unit wholes more fs) i r rs ih = part-more (due_e unit wholes more fs) refl i r rs ih
part_step (due_f unit wholes more fs) i r rs ih = part-more (due_f unit wholes more fs) refl i r rs ih

part-total : (rs : List (List ℕ)) (q : Phase) (i : ℕ) → from_phase q i rs ≡ total (enter q) 1 i rs
part-total [] q i = part_end q i
part-total (r ∷ rs) q i = part_step q i r rs (part-total rs (after q r) (suc i))

-- ---- What is missing
-- data records alone: the owner stays
data_behind : (o n : ℕ) (held : Data) (rest : List (List ℕ)) → length rest < n → (m : ℕ) × (due_behind_all sheet_walk (due_again o held n) rest ≡ data_due o held m)
data_behind o zero held rest l = absurd (omega arith)
data_behind o (suc n) held [] l = (n, refl)
data_behind o (suc n) held (r ∷ rest) l = data_behind o n held rest (omega arith)

data_owner : (o n : ℕ) (held : Data) (owner i : ℕ) (rest : List (List ℕ)) → length rest < n → owner_behind (due_again o held n) owner i rest ≡ owner
unfolding owner_behind owner_next
data_owner o zero held owner i rest l = absurd (omega arith)
data_owner o (suc n) held owner i [] l = refl
data_owner o (suc n) held owner i (r ∷ rest) l = data_owner o n held owner (suc i) rest (omega arith)

behind-append : (due : Due) (a b : List (List ℕ)) → due_behind_all sheet_walk due (a ++ b) ≡ due_behind_all sheet_walk (due_behind_all sheet_walk due a) b
behind-append due [] b = refl
behind-append due (r ∷ a) b = behind-append (due_next due r) a b

owner-append : (due : Due) (owner i : ℕ) (a b : List (List ℕ)) → owner_behind due owner i (a ++ b) ≡ owner_behind (due_behind_all sheet_walk due a) (owner_behind due owner i a) (i + length a) b
unfolding owner_behind
owner-append due owner i [] b = ap (λ (j : ℕ). owner_behind due owner j b) (omega arith)
owner-append due owner i (r ∷ a) b = owner-append (due_next due r) (owner_next due owner i) (suc i) a b ∙ ap (λ (j : ℕ). owner_behind (due_behind_all sheet_walk (due_next due r) a) (owner_behind (due_next due r) (owner_next due owner i) (suc i) a) j b) (omega arith)

-- the item whose data the records end in
record Item (due : Due) (owner i : ℕ) (rs : List (List ℕ)) : Type 0 where
  front : List (List ℕ)
  it : List ℕ
  rest : List (List ℕ)
  opened : ℕ
  whole : rs ≡ front ++ it ∷ rest
  at : due_behind_all sheet_walk due front ≡ header_or_item opened
  short : length rest < stated it
  owns : owner_behind due owner i rs ≡ i + length front

data InData (due : Due) (owner i : ℕ) (rs : List (List ℕ)) : Type 0 where
  owned : Item due owner i rs → InData due owner i rs
  unowned : (o : ℕ) (held : Data) (m : ℕ) → due ≡ data_due o held m → length rs ≤ m → owner_behind due owner i rs ≡ owner → InData due owner i rs

again_is : (a n : ℕ) (h : Data) (o : ℕ) (held : Data) (m : ℕ) → due_again a h n ≡ data_due o held m → n ≡ suc m
again_is a zero h o held m e = let x : ◌≡◌ {A = ℕ} 0 1 = cc in absurd (omega arith)
again_is a (suc n) h o held m e = let x : n ≡ m = cc in ap suc x

enter_not_data : (q : Phase) (o : ℕ) (held : Data) (m : ℕ) → enter q ≡ data_due o held m → ⊥
enter_not_data body o held m e = let x : ◌≡◌ {A = ℕ} 0 1 = cc in omega arith
enter_not_data due_a o held m e = let x : ◌≡◌ {A = ℕ} 0 1 = cc in omega arith
enter_not_data (due_b level more) o held m e = let x : ◌≡◌ {A = ℕ} 0 1 = cc in omega arith
enter_not_data (due_c unit wholes more) o held m e = let x : ◌≡◌ {A = ℕ} 0 1 = cc in omega arith
enter_not_data (due_d unit wholes more) o held m e = let x : ◌≡◌ {A = ℕ} 0 1 = cc in omega arith
enter_not_data (due_e unit wholes more fs) o held m e = let x : ◌≡◌ {A = ℕ} 0 1 = cc in omega arith
enter_not_data (due_f unit wholes more fs) o held m e = let x : ◌≡◌ {A = ℕ} 0 1 = cc in omega arith

in_data : (due : Due) (owner i : ℕ) (rs : List (List ℕ)) (o : ℕ) (held : Data) (m : ℕ) → due_behind_all sheet_walk due rs ≡ data_due o held m → InData due owner i rs
unfolding owner_behind owner_next
in_data due owner i [] o held m e = unowned o held m e (omega arith) refl
in_data due owner i (r ∷ rs) o held m e = go due (in_data (due_next due r) (owner_next due owner i) (suc i) rs o held m e)
  where
    go : (d : Due) → InData (due_next d r) (owner_next d owner i) (suc i) rs → InData d owner i (r ∷ rs)
    go d (owned x) = owned (record { front = r ∷ x.front; it = x.it; rest = x.rest; opened = x.opened; whole = ap (λ (l : List (List ℕ)). r ∷ l) x.whole; at = x.at; short = x.short; owns = x.owns ∙ omega arith })
    go (header_or_item a) (unowned o₂ held₂ m₂ q l w) = owned (record { front = []; it = r; rest = rs; opened = a; whole = refl; at = refl; short = omega (arith, again_is _ (stated r) _ o₂ held₂ m₂ q); owns = w ∙ omega arith })
    go (data_due a h n) (unowned o₂ held₂ m₂ q l w) = unowned a h n refl (omega (arith, again_is a n h o₂ held₂ m₂ q)) w
    go (of_part p) (unowned o₂ held₂ m₂ q l w) = absurd (enter_not_data (after p r) o₂ held₂ m₂ q)

-- behind the sheet part there is no way back
is_part : Due → Bool
is_part (of_part p) = true
is_part (header_or_item opened) = false
is_part (data_due opened held more) = false

again_out : (o : ℕ) (held : Data) (n : ℕ) → is_part (due_again o held n) ≡ false
unfolding is_part
again_out o held zero = refl
again_out o held (suc n) = refl

stays_out : (due : Due) (rs : List (List ℕ)) → is_part due ≡ false → is_part (due_behind_all sheet_walk due rs) ≡ false
unfolding is_part
stays_out due [] e = e
stays_out (of_part p) (r ∷ rs) e = absurd (false≢true (sym e))
stays_out (header_or_item opened) (r ∷ rs) e = stays_out (due_next (header_or_item opened) r) rs (again_out (open_of (view r).kind (view r).level) (view r).data_held (stated r))
stays_out (data_due opened held more) (r ∷ rs) e = stays_out (due_again opened held more) rs (again_out opened held more)

out_of_part : (due : Due) (rs : List (List ℕ)) (p : Phase) → is_part due ≡ false → due_behind_all sheet_walk due rs ≡ of_part p → ⊥
unfolding is_part
out_of_part due rs p o e = false≢true (sym (stays_out due rs o) ∙ ap is_part e)

part-owner : (due : Due) (owner i : ℕ) (rs : List (List ℕ)) (p : Phase) → due_behind_all sheet_walk due rs ≡ of_part p → owner_behind due owner i rs ≡ owner
unfolding owner_behind owner_next is_part
part-owner due owner i [] p e = refl
part-owner (of_part q) owner i (r ∷ rs) p e = part-owner (enter (after q r)) owner (suc i) rs p e
part-owner (header_or_item opened) owner i (r ∷ rs) p e = absurd (out_of_part (header_or_item opened) (r ∷ rs) p refl e)
part-owner (data_due opened held more) owner i (r ∷ rs) p e = absurd (out_of_part (data_due opened held more) (r ∷ rs) p refl e)

abbrev at_end : List (List ℕ) → Fault
at_end rs = lacking (due_behind_all sheet_walk (of_part due_a) rs) (owner_behind (of_part due_a) 1 1 rs)

-- behind an item that is short of data records
short_due : (due : Due) (front : List (List ℕ)) (it : List ℕ) (rest : List (List ℕ)) (opened : ℕ) → due_behind_all sheet_walk due front ≡ header_or_item opened → length rest < stated it → (m : ℕ) × (due_behind_all sheet_walk due (front ++ it ∷ rest) ≡ data_due (open_of (view it).kind (view it).level) (view it).data_held m)
short_due due front it rest opened at short = let d = data_behind (open_of (view it).kind (view it).level) (stated it) (view it).data_held rest short in (d.0, behind-append due front (it ∷ rest) ∙ ap (λ (x : Due). due_behind_all sheet_walk x (it ∷ rest)) at ∙ d.1)

short-owner : (due : Due) (owner i : ℕ) (front : List (List ℕ)) (it : List ℕ) (rest : List (List ℕ)) (opened : ℕ) → due_behind_all sheet_walk due front ≡ header_or_item opened → length rest < stated it → owner_behind due owner i (front ++ it ∷ rest) ≡ i + length front
unfolding owner_behind owner_next
short-owner due owner i front it rest opened at short = owner-append due owner i front (it ∷ rest) ∙ ap (λ (x : Due). owner_behind x (owner_behind due owner i front) (i + length front) (it ∷ rest)) at ∙ data_owner (open_of (view it).kind (view it).level) (stated it) (view it).data_held (i + length front) (suc (i + length front)) rest short

missing_exactly : (rs : List (List ℕ)) (n k : ℕ) → at_end rs ≡ fault n k ↔ ((n ≡ 3) × Missing rs k)
unfolding lacking
missing_exactly rs n k = (go (due_behind_all sheet_walk (of_part due_a) rs) refl, λ h. back h.0 h.1)
  where
    owner : ℕ
    owner = owner_behind (of_part due_a) 1 1 rs

    item : owner ≡ k → InData (of_part due_a) 1 1 rs → Missing rs k
    item is (owned x) = from_item x.front x.it x.rest x.opened x.whole x.at x.short (sym is ∙ x.owns ∙ omega arith)
    item is (unowned o held m q l w) = let x : ◌≡◌ {A = ℕ} 0 1 = cc in absurd (omega arith)

    go : (d : Due) → due_behind_all sheet_walk (of_part due_a) rs ≡ d → lacking d owner ≡ fault n k → (n ≡ 3) × Missing rs k
    go (of_part p) q e = let a : n ≡ 3 = cc in let b : owner ≡ k = cc in (a, from_part p q (sym b ∙ part-owner (of_part due_a) 1 1 rs p q))
    go (header_or_item opened) q e = let x : ◌≡◌ {A = ℕ} 0 1 = cc in absurd (omega arith)
    go (data_due o held m) q e = let a : n ≡ 3 = cc in let b : owner ≡ k = cc in (a, item b (in_data (of_part due_a) 1 1 rs o held m q))

    back : n ≡ 3 → Missing rs k → at_end rs ≡ fault n k
    back three (from_part p e is) = ap (λ (d : Due). lacking d owner) e ∙ (let a : owner ≡ 1 = part-owner (of_part due_a) 1 1 rs p e in cc)
    back three (from_item front it rest opened whole at short is) = let d = short_due (of_part due_a) front it rest opened at short in let a : owner_behind (of_part due_a) 1 1 (front ++ it ∷ rest) ≡ k = short-owner (of_part due_a) 1 1 front it rest opened at short ∙ omega arith in ap at_end whole ∙ ap (λ (x : Due). lacking x (owner_behind (of_part due_a) 1 1 (front ++ it ∷ rest))) d.1 ∙ (cc)

-- ---- Stage two of a sheet, exactly
abbrev pub stage_two_fault : List (List ℕ) → Fault
stage_two_fault rs = from_phase due_a 1 rs

pub stage_two_exactly : (rs : List (List ℕ)) (n k : ℕ) → stage_two_fault rs ≡ fault n k ↔ StageTwo rs n k
stage_two_exactly rs n k = (λ e. there (sheet_fault_from (of_part due_a) 1 rs) refl (sym (part-total rs due_a 1) ∙ e), λ x. part-total rs due_a 1 ∙ back x)
  where
    there : (a : Fault) → sheet_fault_from (of_part due_a) 1 rs ≡ a → or_else (sheet_fault_from (of_part due_a) 1 rs) (at_end rs) ≡ fault n k → StageTwo rs n k
    there none q e = let x = (missing_exactly rs n k).0 (rw q at e) in inr (x.0, (none_exactly sheet_walk number_due number-right (of_part due_a) 1 rs).0 q, x.1)
    there (fault m j) q e = inl ((fault_exactly sheet_walk number_due number-right (of_part due_a) 1 rs n k).0 (q ∙ (rw q at e)))

    back : StageTwo rs n k → or_else (sheet_fault_from (of_part due_a) 1 rs) (at_end rs) ≡ fault n k
    back (inl f) = rw ((fault_exactly sheet_walk number_due number-right (of_part due_a) 1 rs n k).1 f)
    back (inr x) = rw ((none_exactly sheet_walk number_due number-right (of_part due_a) 1 rs).1 x.1) ((missing_exactly rs n k).1 (x.0, x.2))
