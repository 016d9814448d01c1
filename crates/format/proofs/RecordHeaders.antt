-- The header's total and one of its counts written anew: what judging sees of it afterwards. Assumes nothing.
use mathlib.Core.Path.{◌≡◌, refl, ap, sym, ◌∙◌}
use mathlib.Core.Bool.{Bool, true, false, cond, ◌&&◌, ◌||◌, false≢true}
use mathlib.Core.List.{List}
use Prim.Native.Nat.{ℕ, zero, suc, ◌+◌, ◌-◌, ◌^◌, ◌≤◌, ◌<◌}
use native.Mathlib.Omega.{arith}
use borrow.Author.Tests.{leb-true, leb-false, ltb-true, eqb-true, eqb-false}
use lib.Dec.{eqb, leb, ltb}
use lib.ListN.{length}
use lib.IntN.{pos}
use Rattle.format.specs.declared.Column.TheVariants.{Value}
use Rattle.format.specs.Text.{bytes, begins}
use Rattle.format.specs.Column.{strip, signed, column_of, number_of, written}
use Rattle.format.specs.Layout.{column, splice, find, number_at, column_fault, header}
use Rattle.format.specs.Record.{RecordType, H, E1, E2, E3, E4, E5, E6, E7, E8, G, T, other, type_of, is_head, count_name, count_in, as_data, header_view, element_view, grid_view, net_view, other_view, view_as, view, rewrite, raise, lower}
use Rattle.format.specs.Judge.{all}
use Rattle.format.proofs.EditViews.{more, less}
use Rattle.format.proofs.Basics.{and-true}
use Rattle.format.proofs.JudgeAccepted.{all_true}
use Rattle.format.proofs.Columns.{Apart, left, right, length-column, number-below, length-splice, length-written}
use Rattle.format.proofs.LayoutRewriting.{apart, apart_is, clear_all, new_length, new_own, new_other, column_fault-kept}

-- where the count of kind j stands, and how wide it is
abbrev pub at : ℕ → ℕ
at j = (find (count_name j) header).start

abbrev pub wide : ℕ → ℕ
wide j = (find (count_name j) header).width

-- what the table says of them, computed for each of the ten
abbrev other-count : ℕ → ℕ → Bool
other-count j k = eqb k j || apart (at j) (wide j) (find (count_name k) header)

abbrev placed : ℕ → Bool
placed j = clear_all (at j) (wide j) header && (ltb 0 (wide j) && (leb (at j + wide j) 84 && (leb 23 (at j) && (((eqb j 9 && eqb (wide j) 1) || eqb (wide j) 5) && all 10 (other-count j)))))

all_placed : (j : ℕ) → j ≤ 9 → placed j ≡ true
unfolding find header count_name
all_placed zero l = refl
all_placed (suc zero) l = refl
all_placed (suc (suc zero)) l = refl
all_placed (suc (suc (suc zero))) l = refl
all_placed (suc (suc (suc (suc zero)))) l = refl
all_placed (suc (suc (suc (suc (suc zero))))) l = refl
all_placed (suc (suc (suc (suc (suc (suc zero)))))) l = refl
all_placed (suc (suc (suc (suc (suc (suc (suc zero))))))) l = refl
all_placed (suc (suc (suc (suc (suc (suc (suc (suc zero)))))))) l = refl
all_placed (suc (suc (suc (suc (suc (suc (suc (suc (suc zero))))))))) l = refl
all_placed (suc (suc (suc (suc (suc (suc (suc (suc (suc (suc j)))))))))) l = absurd (omega arith)

pub record Placed (j : ℕ) : Type 0 where
  pub small : j ≤ 9
  pub clear : clear_all (at j) (wide j) header ≡ true
  pub some : 0 < wide j
  pub room : at j + wide j ≤ 84
  pub behind : 23 ≤ at j
  pub one_or_five : (eqb j 9 && eqb (wide j) 1) || eqb (wide j) 5 ≡ true
  pub others : all 10 (other-count j) ≡ true

pub place : (j : ℕ) → j ≤ 9 → Placed j
place j l =
    let a = and-true (clear_all (at j) (wide j) header) _ (all_placed j l) in
    let b = and-true (ltb 0 (wide j)) _ a.1 in
    let c = and-true (leb (at j + wide j) 84) _ b.1 in
    let d = and-true (leb 23 (at j)) _ c.1 in
    let e = and-true ((eqb j 9 && eqb (wide j) 1) || eqb (wide j) 5) _ d.1 in
    record { small = l; clear = a.0; some = ltb-true 0 (wide j) b.0; room = leb-true (at j + wide j) 84 c.0; behind = leb-true 23 (at j) d.0; one_or_five = e.0; others = e.1 }

pub wide_cases : (j : ℕ) → Placed j → (wide j ≡ 5 → ⊥) → (j ≡ 9) × (wide j ≡ 1)
wide_cases j p not_five = go (eqb j 9 && eqb (wide j) 1) refl p.one_or_five
  where
    go : (t : Bool) → eqb j 9 && eqb (wide j) 1 ≡ t → t || eqb (wide j) 5 ≡ true → (j ≡ 9) × (wide j ≡ 1)
    go true q h = let z = and-true (eqb j 9) (eqb (wide j) 1) q in (eqb-true _ _ z.0, eqb-true _ _ z.1)
    go false q h = absurd (not_five (eqb-true _ _ h))

-- beyond the ten nothing is counted
none_beyond : (r : List ℕ) (k : ℕ) → 9 < k → count_in r k ≡ 0
unfolding number_at find header count_name column column_of strip signed
none_beyond r zero l = absurd (omega arith)
none_beyond r (suc zero) l = absurd (omega arith)
none_beyond r (suc (suc zero)) l = absurd (omega arith)
none_beyond r (suc (suc (suc zero))) l = absurd (omega arith)
none_beyond r (suc (suc (suc (suc zero)))) l = absurd (omega arith)
none_beyond r (suc (suc (suc (suc (suc zero))))) l = absurd (omega arith)
none_beyond r (suc (suc (suc (suc (suc (suc zero)))))) l = absurd (omega arith)
none_beyond r (suc (suc (suc (suc (suc (suc (suc zero))))))) l = absurd (omega arith)
none_beyond r (suc (suc (suc (suc (suc (suc (suc (suc zero)))))))) l = absurd (omega arith)
none_beyond r (suc (suc (suc (suc (suc (suc (suc (suc (suc zero))))))))) l = absurd (omega arith)
none_beyond r (suc (suc (suc (suc (suc (suc (suc (suc (suc (suc k)))))))))) l = refl

-- ---- total T and count C of kind j written anew
abbrev pub set : ℕ → ℕ → ℕ → List ℕ → List ℕ
set j t c r = splice (at j) (wide j) (written (wide j) (pos c)) (splice 18 5 (written 5 (pos t)) r)

total_clear : clear_all 18 5 header ≡ true
unfolding header
total_clear = refl

pub rewrite-count : (j x : ℕ) (r : List ℕ) → rewrite header (count_name j) x r ≡ splice (at j) (wide j) (written (wide j) (pos x)) r
unfolding rewrite
rewrite-count j x r = refl

pub rewrite-total : (x : ℕ) (r : List ℕ) → rewrite header "total" x r ≡ splice 18 5 (written 5 (pos x)) r
unfolding rewrite find header
rewrite-total x r = refl

pub number-total : (r : List ℕ) → number_at header "total" r ≡ number_of (column_of (column 18 5 r))
unfolding number_at find header
number-total r = refl

pub number-level : (r : List ℕ) → number_at header "level" r ≡ number_of (column_of (column 16 2 r))
unfolding number_at find header
number-level r = refl

pub number-count : (j : ℕ) (r : List ℕ) → count_in r j ≡ number_of (column_of (column (at j) (wide j) r))
unfolding number_at
number-count j r = refl

module _ (j t c : ℕ) (r : List ℕ) (p : Placed j) (84-wide : length r ≡ 84) (t_fits : t < 10 ^ 5) (c-fits : c < 10 ^ wide j) where
  wide_five : wide j ≤ 5
  wide_five = go (eqb (wide j) 5) refl
    where
      go : (b : Bool) → eqb (wide j) 5 ≡ b → wide j ≤ 5
      go true e = omega (arith, eqb-true (wide j) 5 e)
      go false e = omega (arith, (wide_cases j p (eqb-false (wide j) 5 e)).1)

  abbrev mid : List ℕ
  mid = splice 18 5 (written 5 (pos t)) r

  mid_length : length (splice 18 5 (written 5 (pos t)) r) ≡ 84
  mid_length = new_length 18 5 t r (omega arith) (omega arith) t_fits (omega arith) ∙ 84-wide

  most : wide j ≤ 20
  most = omega (arith, wide_five)

  fits_in : at j + wide j ≤ length (splice 18 5 (written 5 (pos t)) r)
  fits_in = omega (arith, mid_length, p.room)

  pub set-length : length (set j t c r) ≡ 84
  set-length = new_length (at j) (wide j) c mid p.some most c-fits fits_in ∙ mid_length

  -- a column apart from both
  pub set_other : (a v : ℕ) → Apart a v 18 5 → Apart a v (at j) (wide j) → column a v (set j t c r) ≡ column a v r
  set_other a v h k = new_other (at j) (wide j) c mid p.some most c-fits fits_in a v k ∙ new_other 18 5 t r (omega arith) (omega arith) t_fits (omega arith) a v h

  pub set_before : (a v : ℕ) → a + v ≤ 18 → column a v (set j t c r) ≡ column a v r
  set_before a v l = set_other a v (left l) (left (omega (arith, p.behind)))

  pub set-total : column_of (column 18 5 (set j t c r)) ≡ Value (pos t)
  set-total = ap column_of (new_other (at j) (wide j) c mid p.some most c-fits fits_in 18 5 (left (omega (arith, p.behind)))) ∙ new_own 18 5 t r (omega arith) (omega arith) t_fits (omega arith)

  pub set_own : column_of (column (at j) (wide j) (set j t c r)) ≡ Value (pos c)
  set_own = new_own (at j) (wide j) c mid p.some most c-fits fits_in

  pub set-column_fault : column_fault header r ≡ 0 → column_fault header (set j t c r) ≡ 0
  set-column_fault f = column_fault-kept (at j) (wide j) c mid p.some most c-fits fits_in header p.clear (column_fault-kept 18 5 t r (omega arith) (omega arith) t_fits (omega arith) header total_clear f)

  -- another count
  pub set-count : (k : ℕ) → count_in (set j t c r) k ≡ cond (eqb k j) c (count_in r k)
  set-count k = beyond (leb k 9) refl
    where
      within : k ≤ 9 → count_in (set j t c r) k ≡ cond (eqb k j) c (count_in r k)
      within l = rw (number-count k (set j t c r), number-count k r) (go (eqb k j) refl)
        where
          q : Placed k
          q = place k l

          go : (b : Bool) → eqb k j ≡ b → number_of (column_of (column (at k) (wide k) (set j t c r))) ≡ cond b c (number_of (column_of (column (at k) (wide k) r)))
          go true e = rw (eqb-true k j e) (ap number_of set_own)
          go false e = ap (λ (bs : List ℕ). number_of (column_of bs)) (set_other (at k) (wide k) (right (omega (arith, q.behind))) (apart_is (at j) (wide j) (find (count_name k) header) (rw e at (all_true 10 (other-count j) p.others k (omega arith)))))

      beyond : (b : Bool) → leb k 9 ≡ b → count_in (set j t c r) k ≡ cond (eqb k j) c (count_in r k)
      beyond true e = within (leb-true k 9 e)
      beyond false e = go (eqb k j) refl
        where
          far : 9 < k
          far = omega (arith, leb-false k 9 e)

          go : (b : Bool) → eqb k j ≡ b → count_in (set j t c r) k ≡ cond b c (count_in r k)
          go true q = absurd (omega (arith, p.small, eqb-true k j q, far))
          go false q = none_beyond (set j t c r) k far ∙ sym (none_beyond r k far)

-- ---- a record seen as a header is one, and stays one
pub start_two : (r r' : List ℕ) → column 0 2 r' ≡ column 0 2 r → type_of r' ≡ type_of r
unfolding type_of begins bytes column
start_two r r' e = rw e

view-head : (r : List ℕ) → is_head (view r).kind ≡ true → type_of r ≡ H
unfolding view element_view grid_view net_view other_view
view-head r h = go (type_of r) refl h
  where
    go : (s : RecordType) → type_of r ≡ s → is_head (view_as s r).kind ≡ true → type_of r ≡ H
    go H e h = e
    go E1 e h = absurd (false≢true h)
    go E2 e h = absurd (false≢true h)
    go E3 e h = absurd (false≢true h)
    go E4 e h = absurd (false≢true h)
    go E5 e h = absurd (false≢true h)
    go E6 e h = absurd (false≢true h)
    go E7 e h = absurd (false≢true h)
    go E8 e h = absurd (false≢true h)
    go G e h = absurd (false≢true h)
    go T e h = absurd (false≢true h)
    go other e h = absurd (false≢true h)

pub view_is : (r : List ℕ) → type_of r ≡ H → view r ≡ header_view r
unfolding view
view_is r e = ap (λ (s : RecordType). view_as s r) e

-- what is seen of a header with other counts
module _ (j t c : ℕ) (r : List ℕ) (p : Placed j) (84-wide : length r ≡ 84) (t_fits : t < 10 ^ 5) (c-fits : c < 10 ^ wide j) (f : (header_view r).column_fault ≡ 0) where
  pub seen : header_view (set j t c r) ≡ record { kind = (header_view r).kind; level = (header_view r).level; data_records = (header_view r).data_records; data_held = (header_view r).data_held; column_fault = (header_view r).column_fault; rule_fault = (header_view r).rule_fault; fault_as_data = as_data (set j t c r); total = t; count = λ k. cond (eqb k j) c (count_in r k) }
  unfolding header_view
  seen = λ i. record { kind = (header_view r).kind; level = levels i; data_records = 0; data_held = (header_view r).data_held; column_fault = flaws i; rule_fault = 0; fault_as_data = as_data (set j t c r); total = totals i; count = λ k. set-count j t c r p 84-wide t_fits c-fits k i }
    where
      levels : number_at header "level" (set j t c r) ≡ number_at header "level" r
      levels = number-level (set j t c r) ∙ ap (λ (bs : List ℕ). number_of (column_of bs)) (set_before j t c r p 84-wide t_fits c-fits 16 2 (omega arith)) ∙ sym (number-level r)

      flaws : column_fault header (set j t c r) ≡ column_fault header r
      flaws = set-column_fault j t c r p 84-wide t_fits c-fits f ∙ sym f

      totals : number_at header "total" (set j t c r) ≡ t
      totals = number-total (set j t c r) ∙ ap number_of (set-total j t c r p 84-wide t_fits c-fits)

raise_is : (j : ℕ) (r : List ℕ) → raise j r ≡ set j (number_at header "total" r + 1) (count_in r j + 1) r
unfolding raise
raise_is j r = ap (rewrite header (count_name j) (count_in r j + 1)) (rewrite-total (number_at header "total" r + 1) r) ∙ rewrite-count j (count_in r j + 1) (splice 18 5 (written 5 (pos (number_at header "total" r + 1))) r)

lower_is : (j : ℕ) (r : List ℕ) → lower j r ≡ set j (number_at header "total" r - 1) (count_in r j - 1) r
unfolding lower
lower_is j r = ap (rewrite header (count_name j) (count_in r j - 1)) (rewrite-total (number_at header "total" r - 1) r) ∙ rewrite-count j (count_in r j - 1) (splice 18 5 (written 5 (pos (number_at header "total" r - 1))) r)

-- ---- THE LAWS of a header with one item more or less
set_wide : (j t c : ℕ) (r : List ℕ) → j ≤ 9 → length r ≡ 84 → length (set j t c r) ≡ 84
set_wide j t c r l w = length-splice (at j) (wide j) (written (wide j) (pos c)) (splice 18 5 (written 5 (pos t)) r) (length-written (wide j) (pos c)) (omega (arith, inner, (place j l).room)) ∙ inner
  where
    inner : length (splice 18 5 (written 5 (pos t)) r) ≡ 84
    inner = length-splice 18 5 (written 5 (pos t)) r (length-written 5 (pos t)) (omega arith) ∙ w

pub raise_wide : (j : ℕ) (r : List ℕ) → j ≤ 9 → length r ≡ 84 → length (raise j r) ≡ 84
raise_wide j r l w = ap length (raise_is j r) ∙ set_wide j _ _ r l w

pub lower_wide : (j : ℕ) (r : List ℕ) → j ≤ 9 → length r ≡ 84 → length (lower j r) ≡ 84
lower_wide j r l w = ap length (lower_is j r) ∙ set_wide j _ _ r l w

-- a count and the total have room
count_room : (j n t : ℕ) → Placed j → (j ≡ 9 → n + 1 ≤ 9) → n ≤ t → t + 1 ≤ 99999 → n + 1 < 10 ^ wide j
count_room j n t p nine le tot = go (eqb (wide j) 5) refl
  where
    go : (b : Bool) → eqb (wide j) 5 ≡ b → n + 1 < 10 ^ wide j
    go true e = rw (eqb-true (wide j) 5 e) (omega arith)
    go false e = let z = wide_cases j p (eqb-false (wide j) 5 e) in rw z.1 (omega (arith, nine z.0))

column-below : (a w : ℕ) (r : List ℕ) → a + w ≤ length r → number_of (column_of (column a w r)) < 10 ^ w
column-below a w r l = rw (length-column a w r l) at (number-below (column a w r))

total_seen : (r : List ℕ) → (header_view r).total ≡ number_at header "total" r
unfolding header_view
total_seen r = refl

count_seen : (r : List ℕ) (j : ℕ) → (header_view r).count j ≡ count_in r j
unfolding header_view
count_seen r j = refl

-- one kind changed
at-kind : (r : List ℕ) (g : ℕ → ℕ) (j k : ℕ) → cond (eqb k j) (g (count_in r j)) (count_in r k) ≡ cond (eqb k j) (g (count_in r k)) (count_in r k)
at-kind r g j k = go (eqb k j) refl
  where
    go : (b : Bool) → eqb k j ≡ b → cond b (g (count_in r j)) (count_in r k) ≡ cond b (g (count_in r k)) (count_in r k)
    go true e = ap (λ (i : ℕ). g (count_in r i)) (sym (eqb-true k j e))
    go false e = refl

two_kept : (j t c : ℕ) (r : List ℕ) → Placed j → length r ≡ 84 → t < 10 ^ 5 → c < 10 ^ wide j → type_of r ≡ H → view (set j t c r) ≡ header_view (set j t c r)
two_kept j t c r p w tf cf s = view_is (set j t c r) (start_two r (set j t c r) (set_before j t c r p w tf cf 0 2 (omega arith)) ∙ s)

seen_more : (j : ℕ) (r : List ℕ) → Placed j → length r ≡ 84 → (header_view r).column_fault ≡ 0 → number_at header "total" r + 1 < 10 ^ 5 → count_in r j + 1 < 10 ^ wide j → header_view (set j (number_at header "total" r + 1) (count_in r j + 1) r) ≡ more (as_data (set j (number_at header "total" r + 1) (count_in r j + 1) r)) j (header_view r)
unfolding header_view
seen_more j r p w f tf cf = seen j _ _ r p w tf cf f ∙ (λ i. record { kind = (header_view r).kind; level = (header_view r).level; data_records = (header_view r).data_records; data_held = (header_view r).data_held; column_fault = (header_view r).column_fault; rule_fault = (header_view r).rule_fault; fault_as_data = as_data (set j (number_at header "total" r + 1) (count_in r j + 1) r); total = number_at header "total" r + 1; count = λ k. at-kind r (λ n. n + 1) j k i })

seen_less : (j : ℕ) (r : List ℕ) → Placed j → length r ≡ 84 → (header_view r).column_fault ≡ 0 → number_at header "total" r - 1 < 10 ^ 5 → count_in r j - 1 < 10 ^ wide j → header_view (set j (number_at header "total" r - 1) (count_in r j - 1) r) ≡ less (as_data (set j (number_at header "total" r - 1) (count_in r j - 1) r)) j (header_view r)
unfolding header_view
seen_less j r p w f tf cf = seen j _ _ r p w tf cf f ∙ (λ i. record { kind = (header_view r).kind; level = (header_view r).level; data_records = (header_view r).data_records; data_held = (header_view r).data_held; column_fault = (header_view r).column_fault; rule_fault = (header_view r).rule_fault; fault_as_data = as_data (set j (number_at header "total" r - 1) (count_in r j - 1) r); total = number_at header "total" r - 1; count = λ k. at-kind r (λ n. n - 1) j k i })

pub raised : (j : ℕ) (r : List ℕ) → length r ≡ 84 → j ≤ 9 → is_head (view r).kind ≡ true → (view r).column_fault ≡ 0 → (view r).total + 1 ≤ 99999 → (j ≡ 9 → (view r).count j + 1 ≤ 9) → (view r).count j ≤ (view r).total → view (raise j r) ≡ more (as_data (raise j r)) j (view r)
raised j r w l h f t nine le = rw (raise_is j r) (two_kept j _ _ r p w t_fits c-fits (view-head r h) ∙ seen_more j r p w (rw v at f) t_fits c-fits ∙ ap (more _ j) (sym v))
  where
    p : Placed j
    p = place j l

    v : view r ≡ header_view r
    v = view_is r (view-head r h)

    t_fits : number_at header "total" r + 1 < 10 ^ 5
    t_fits = omega (arith, rw (v, total_seen r) at t)

    c-fits : count_in r j + 1 < 10 ^ wide j
    c-fits = count_room j (count_in r j) (number_at header "total" r) p (λ e. rw (v, count_seen r j) at (nine e)) (rw (v, count_seen r j, total_seen r) at le) (rw (v, total_seen r) at t)

pub lowered : (j : ℕ) (r : List ℕ) → length r ≡ 84 → j ≤ 9 → is_head (view r).kind ≡ true → (view r).column_fault ≡ 0 → view (lower j r) ≡ less (as_data (lower j r)) j (view r)
lowered j r w l h f = rw (lower_is j r) (two_kept j _ _ r p w t_fits c-fits (view-head r h) ∙ seen_less j r p w (rw v at f) t_fits c-fits ∙ ap (less _ j) (sym v))
  where
    p : Placed j
    p = place j l

    v : view r ≡ header_view r
    v = view_is r (view-head r h)

    t_fits : number_at header "total" r - 1 < 10 ^ 5
    t_fits = omega (arith, number-total r, column-below 18 5 r (omega arith))

    c-fits : count_in r j - 1 < 10 ^ wide j
    c-fits = omega (arith, number-count j r, column-below (at j) (wide j) r (omega (arith, p.room)))
