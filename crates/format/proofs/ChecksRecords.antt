-- The checks of one record of the body: the number that judging finds is the first that applies. Assumes nothing.
use mathlib.Core.Path.{◌≡◌, refl, ap, sym, ◌∙◌}
use mathlib.Core.Logic.{inl, inr, ◌≢◌}
use mathlib.Core.Bool.{Bool, true, false, cond, ◌&&◌, false≢true}
use mathlib.Core.List.{List, [], ◌∷◌}
use Prim.Native.Nat.{ℕ, suc, ◌+◌, ◌-◌, ◌*◌, ◌%◌, ◌≤◌, ◌<◌}
use native.Mathlib.Omega.{arith}
use native.Mathlib.Nat.{mod-add-div, mod-lt, div-eq_of_lt-le, mul_comm, mul-add}
use lib.Dec.{leb, eqb}
use lib.IntN.{ℤ, pos, negsuc, nat_abs}
use lib.Signed.{le_z, ◌≤ℤ◌, le_z_yes}
use lib.ListN.{length, replicate}
use borrow.Author.Tests.{leb-true, leb-false, eqb-true, eqb-false, eq-eqb}
use Rattle.format.specs.Basics.{member, round_up, minus, first, unless}
use Rattle.format.specs.Column.{column_of, formed, integer, size}
use Rattle.format.specs.declared.Column.{Column}
use Rattle.format.specs.declared.Column.TheVariants.{Value, MinusZero, Malformed}
use Rattle.format.specs.Layout.{Rule, any_sign, at_least, range, within, one_of, inside, is_one, spaces, What, text, blank, integral, integral_or_spaces, Col, column, find, integer_at, number_at, data_note, element, grid_header, net_header, header, bytes_of, is_formed, is_inside, all_formed, all_inside, column_fault}
use Rattle.format.specs.Record.{RecordType, H, E1, E2, E3, E4, E5, E6, E7, E8, G, T, other, type_of, Kind, head, item, neither, kind_of, view, view_as, kind_and_count, element_records, element_rule, is_header_or_item, header_view, element_view, grid_view, net_view, other_view, grid_states, grid_needs, net_needs, Data, nothing, points_3d, points_2d, triangles, heights, notes, attributes, data_columns, data_rule, data_fault, direction_ok}
use Rattle.format.specs.Judge.{lowest_level, highest_level, fault_at}
use Rattle.format.proofs.Basics.{and-true, true_and, first_alone}
use Rattle.format.proofs.ChecksOrder.{Says, Decides, check_first, check_never, decides_says, surely, says_never, says-and, says_still, says_then, says-or, says_leb, always, decides_and, decides_or, decides_map, decides_eqb, decides_leb}
use Rattle.format.specs.Checks.{Check, FirstOf, Some, in_order, MalformedAs, Inside, OutsideAs, Outside, OneOf, Coordinates, LevelBroken, RoundedUp, KindAndCount, Records, ElementKept, faults_as, header_or_item_faults, DirectionKept, NoteWrong, data_faults}
use Rattle.format.specs.Checks.{Malformed as MalformedIn}

-- ---- 5: columns that are malformed
formed-says : (c : Column) → Says (formed c) ((z : ℤ) → c ≡ Value z → ⊥)
formed-says (Value z) = record { yes = λ e. absurd (false≢true (sym e)); no = λ e p. p z refl }
formed-says MinusZero = record { yes = λ e z q. let x : ◌≡◌ {A = ℕ} 0 1 = cc in omega arith; no = λ e. absurd (false≢true e) }
formed-says Malformed = record { yes = λ e z q. let x : ◌≡◌ {A = ℕ} 0 1 = cc in omega arith; no = λ e. absurd (false≢true e) }

pub spaces-says : (bs : List ℕ) → Says (spaces bs) (bs ≢ replicate (length bs) 32)
spaces-says [] = record { yes = λ e. absurd (false≢true (sym e)); no = λ e p. p refl }
spaces-says (b ∷ bs) = go (eqb b 32) refl (spaces-says bs)
  where
    go : (t : Bool) → eqb b 32 ≡ t → Says (spaces bs) (bs ≢ replicate (length bs) 32) → Says (t && spaces bs) (b ∷ bs ≢ 32 ∷ replicate (length bs) 32)
    go true q ih = record { yes = λ e p. ih.yes e (cc); no = λ e p. ih.no e (λ (x : bs ≡ replicate (length bs) 32). p (cc (eqb-true b 32 q))) }
    go false q ih = record { yes = λ e p. eqb-false b 32 q (cc); no = λ e. absurd (false≢true e) }

as_says : (w : What) (bs : List ℕ) → Says (is_formed w bs) (MalformedAs w bs)
as_says text bs = says_never
as_says blank bs = says_never
as_says (integral rule) bs = formed-says (column_of bs)
as_says integral_or_spaces bs = says-or (spaces-says bs) (formed-says (column_of bs))

pub malformed-says : (layout : List Col) (r : List ℕ) → Says (all_formed layout r) (MalformedIn layout r)
unfolding all_formed
malformed-says [] r = says_never
malformed-says (c ∷ cs) r = says-and (as_says c.what (bytes_of c r)) (malformed-says cs r)

-- ---- 6: integers outside their range or list
decides_int_le : (a b : ℤ) → Decides (le_z a b) (a ≤ℤ b)
decides_int_le a b = record { yes = λ e. le_z_yes (rw e tt); no = λ e l. rw e at l.le }

is_one_decides : (z : ℤ) (ns : List ℕ) → Decides (is_one z ns) (Some (λ (n : ℕ). z ≡ pos n) ns)
is_one_decides (pos n) [] = record { yes = λ e. false≢true e; no = λ e x. x }
is_one_decides (pos n) (m ∷ ns) = decides_or (decides_map (λ e. ap pos e) (λ e. (cc)) (decides_eqb n m)) (is_one_decides (pos n) ns)
is_one_decides (negsuc n) ns = record { yes = λ e. absurd (false≢true e); no = λ e. never ns }
  where
    never : (ns : List ℕ) → Some (λ (m : ℕ). negsuc n ≡ pos m) ns → ⊥
    never [] x = x
    never (m ∷ ns) (inl q) = let x : ◌≡◌ {A = ℕ} 0 1 = cc in omega arith
    never (m ∷ ns) (inr x) = never ns x

inside_decides : (rule : Rule) (z : ℤ) → Decides (inside rule z) (Inside rule z)
inside_decides any_sign z = record { yes = λ e. tt; no = λ e x. false≢true (sym e) }
inside_decides (at_least n) z = decides_int_le (pos n) z
inside_decides (range n m) z = decides_and (decides_int_le (pos n) z) (decides_int_le z (pos m))
inside_decides (within n) z = decides_leb (nat_abs z) n
inside_decides (one_of ns) z = is_one_decides z ns

outside_as : (w : What) (bs : List ℕ) → is_formed w bs ≡ true → Says (is_inside w bs) (OutsideAs w bs)
outside_as text bs f = says_never
outside_as blank bs f = says_never
outside_as (integral rule) bs f = go (column_of bs) refl f
  where
    go : (c : Column) → column_of bs ≡ c → formed c ≡ true → Says (inside rule (integer c)) ((z : ℤ) × (column_of bs ≡ Value z) × (Inside rule z → ⊥))
    go (Value z) q f = record { yes = λ e. (z, q, (inside_decides rule z).no e); no = λ e x. x.2 ((inside_decides rule x.0).yes (rw (same x.0 x.1) at e)) }
      where
        same : (y : ℤ) → column_of bs ≡ Value y → z ≡ y
        same y p = cc
    go MinusZero q f = absurd (false≢true f)
    go Malformed q f = absurd (false≢true f)
outside_as integral_or_spaces bs f = says_never

pub outside-says : (layout : List Col) (r : List ℕ) → all_formed layout r ≡ true → Says (all_inside layout r) (Outside layout r)
unfolding all_formed all_inside
outside-says [] r f = says_never
outside-says (c ∷ cs) r f = let h = and-true (is_formed c.what (bytes_of c r)) (all_formed cs r) f in says-and (outside_as c.what (bytes_of c r) h.0) (outside-says cs r h.1)

-- the two together, with one test more that is 6
two_sixes : (formed inside extra : Bool) (v : ℕ) → first (first (unless formed 5) (unless inside 6)) (first (unless extra 6) v) ≡ first (unless formed 5) (first (unless (inside && extra) 6) v)
two_sixes false inside extra v = refl
two_sixes true false extra v = refl
two_sixes true true extra v = refl

pub columns_first : (layout : List Col) (r : List ℕ) (extra : Bool) (Six : Type 0) (cs : List Check) (v : ℕ) → (all_formed layout r ≡ true → Says (all_inside layout r && extra) Six) → (all_formed layout r ≡ true → all_inside layout r && extra ≡ true → FirstOf cs v) → FirstOf (record { number = 5; applies = MalformedIn layout r } ∷ record { number = 6; applies = Six } ∷ cs) (first (column_fault layout r) (first (unless extra 6) v))
unfolding column_fault
columns_first layout r extra Six cs v six rest = rw (two_sixes (all_formed layout r) (all_inside layout r) extra v) (check_first 4 (all_formed layout r) _ _ _ (malformed-says layout r) (λ f. check_first 5 (all_inside layout r && extra) _ _ _ (six f) (rest f)))

-- ---- 7
near : (opened level : ℕ) → Says (leb level (suc opened)) (opened + 1 < level)
near opened level = record { yes = λ e. omega (arith, leb-false level (suc opened) e); no = λ e l. omega (arith, leb-true level (suc opened) e) }

level-says : (k : Kind) (opened level : ℕ) → Says (leb (lowest_level k) level && leb level (highest_level k) && leb level (suc opened)) (LevelBroken opened k level)
level-says head opened level = says-and (says-and (says_leb 1 level) (says_leb level 8)) (near opened level)
level-says (item k) opened level = says-and (says-and (says_leb 2 level) (says_leb level 9)) (near opened level)
level-says neither opened level = says-and (says-and (says_leb 2 level) (says_leb level 9)) (near opened level)

-- ---- 8
pub member_decides : (n : ℕ) (ns : List ℕ) → Decides (member n ns) (OneOf n ns)
member_decides n [] = record { yes = λ e. false≢true e; no = λ e x. x }
member_decides n (m ∷ ns) = decides_or (decides_eqb n m) (member_decides n ns)

kind_and_count_decides : (t : RecordType) (kind count : ℕ) → Decides (kind_and_count t kind count) (KindAndCount t kind count)
kind_and_count_decides H kind count = always
kind_and_count_decides E1 kind count = decides_and (member_decides kind (2 ∷ 3 ∷ 6 ∷ [])) (decides_leb 1 count)
kind_and_count_decides E2 kind count = decides_and (member_decides kind (2 ∷ 3 ∷ 6 ∷ [])) (decides_leb 1 count)
kind_and_count_decides E3 kind count = decides_and (member_decides kind (2 ∷ 3 ∷ 6 ∷ [])) (decides_eqb count 3)
kind_and_count_decides E4 kind count = decides_and (member_decides kind (2 ∷ 3 ∷ 6 ∷ [])) (decides_eqb count 3)
kind_and_count_decides E5 kind count = decides_or (decides_and (member_decides kind (0 ∷ 1 ∷ [])) (decides_eqb count 0)) (decides_and (member_decides kind (2 ∷ 3 ∷ 6 ∷ [])) (decides_leb 1 count))
kind_and_count_decides E6 kind count = decides_and (decides_and (member_decides kind (2 ∷ 3 ∷ 6 ∷ [])) (decides_eqb (count % 2) 0)) (decides_leb 2 count)
kind_and_count_decides E7 kind count = decides_and (decides_eqb kind 4) (decides_leb 1 count)
kind_and_count_decides E8 kind count = decides_and (decides_eqb kind 5) (decides_leb 1 count)
kind_and_count_decides G kind count = always
kind_and_count_decides T kind count = always
kind_and_count_decides other kind count = always

pub rounded : (n d : ℕ) → 0 < d → RoundedUp n d (round_up n d)
rounded n d l = let a = mod-add-div (n + (d - 1)) d in let b = mod-lt (n + (d - 1)) l in (omega arith, omega arith)

pub only_rounded : (n d m : ℕ) → 0 < d → RoundedUp n d m → m ≡ round_up n d
only_rounded n d m l r = sym (div-eq_of_lt-le d (rw (mul_comm m d) (omega arith)) (rw (mul_comm (m + 1) d, mul-add d m 1) (omega arith)))

pub decides_rounded : (n d m : ℕ) → 0 < d → Decides (eqb m (round_up n d)) (RoundedUp n d m)
decides_rounded n d m l = record { yes = λ e. rw (eqb-true m (round_up n d) e) (rounded n d l); no = λ e r. eqb-false m (round_up n d) e (only_rounded n d m l r) }

records_are : (kind count : ℕ) → Records kind count (element_records kind count)
unfolding element_records
records_are kind count = record {
  kinds01 = elim [ inl e ↦ rw e | inr x ↦ elim x [ inl e ↦ rw e | inr y ↦ absurd y ] ];
  kind2 = λ e. rw e (rounded count 6 (omega arith));
  kinds36 = elim [ inl e ↦ rw e (rounded count 4 (omega arith)) | inr x ↦ elim x [ inl e ↦ rw e (rounded count 4 (omega arith)) | inr y ↦ absurd y ] ];
  kind4 = λ e. rw e (rounded count 64 (omega arith));
  kind5 = λ e. rw e;
}

-- of the kinds that there are
only_records : (kind count n : ℕ) → OneOf kind (0 ∷ 1 ∷ 2 ∷ 3 ∷ 4 ∷ 5 ∷ 6 ∷ []) → Records kind count n → n ≡ element_records kind count
unfolding element_records
only_records kind count n (inl e) r = r.kinds01 (inl e) ∙ rw e
only_records kind count n (inr (inl e)) r = r.kinds01 (inr (inl e)) ∙ rw e
only_records kind count n (inr (inr (inl e))) r = only_rounded count 6 n (omega arith) (r.kind2 e) ∙ rw e
only_records kind count n (inr (inr (inr (inl e)))) r = only_rounded count 4 n (omega arith) (r.kinds36 (inl e)) ∙ rw e
only_records kind count n (inr (inr (inr (inr (inl e))))) r = only_rounded count 64 n (omega arith) (r.kind4 e) ∙ rw e
only_records kind count n (inr (inr (inr (inr (inr (inl e)))))) r = r.kind5 e ∙ rw e
only_records kind count n (inr (inr (inr (inr (inr (inr (inl e))))))) r = only_rounded count 4 n (omega arith) (r.kinds36 (inr (inl e))) ∙ rw e
only_records kind count n (inr (inr (inr (inr (inr (inr (inr x))))))) r = absurd x

abbrev AKind : ℕ → Type 0
AKind kind = OneOf kind (0 ∷ 1 ∷ 2 ∷ 3 ∷ 4 ∷ 5 ∷ 6 ∷ [])

a_coordinate : (kind : ℕ) → Coordinates kind → AKind kind
a_coordinate kind (inl e) = inr (inr (inl e))
a_coordinate kind (inr (inl e)) = inr (inr (inr (inl e)))
a_coordinate kind (inr (inr (inl e))) = inr (inr (inr (inr (inr (inr (inl e))))))
a_coordinate kind (inr (inr (inr x))) = absurd x

a_point : (kind count : ℕ) → KindAndCount E5 kind count → AKind kind
a_point kind count (inl x) = elim x.0 [ inl e ↦ inl e | inr y ↦ elim y [ inl e ↦ inr (inl e) | inr z ↦ absurd z ] ]
a_point kind count (inr x) = a_coordinate kind x.0

rule_decides : (t : RecordType) (kind count n : ℕ) → (KindAndCount t kind count → AKind kind) → Decides (kind_and_count t kind count && eqb n (element_records kind count)) (KindAndCount t kind count × Records kind count n)
rule_decides t kind count n known = record {
  yes = λ e. let h = and-true (kind_and_count t kind count) _ e in (kc.yes h.0, rw (eqb-true n (element_records kind count) h.1) (records_are kind count));
  no = λ e k. false≢true (sym e ∙ true_and (kind_and_count t kind count) (eqb n (element_records kind count)) (surely kc k.0) (eq-eqb _ _ (only_records kind count n (known k.0) k.1)));
}
  where
    kc : Decides (kind_and_count t kind count) (KindAndCount t kind count)
    kc = kind_and_count_decides t kind count

element_decides : (t : RecordType) (r : List ℕ) → (KindAndCount t (number_at element "data kind" r) (number_at element "data count" r) → AKind (number_at element "data kind" r)) → Decides (element_rule t r) (ElementKept t r)
unfolding element_rule
element_decides t r known = rule_decides t _ _ _ known

-- ---- A record where a header or an item is due, 2 to 9 in order
-- the last check of all
check_last : (n : ℕ) (test : Bool) (P : Type 0) → Says test P → FirstOf (record { number = suc n; applies = P } ∷ record { number = 9; applies = ⊥ } ∷ []) (unless test (suc n))
unfolding FirstOf
check_last n true P s = inr (s.no refl, inr (λ x. x, refl))
check_last n false P s = inl (s.yes refl, refl)

module _ (opened : ℕ) (r : List ℕ) where
  record_first : (k : Kind) (NotDue : Type 0) (layout : List Col) (level : ℕ) (rule : Bool) (Kept : Type 0) → Says (is_header_or_item k) NotDue → Decides rule Kept → FirstOf (in_order (record { unasked = ⊥; not_due = NotDue; malformed = MalformedIn layout r; outside = Outside layout r; level = LevelBroken opened k level; data_rule = Kept → ⊥; fraction = ⊥ })) (first (unless (is_header_or_item k) 4) (first (column_fault layout r) (first (unless (leb (lowest_level k) level && leb level (highest_level k) && leb level (suc opened)) 7) (unless rule 8))))
  record_first k NotDue layout level rule Kept due d = check_never 2 _ _ (check_first 3 (is_header_or_item k) NotDue _ _ due (λ e. columns_first layout r true (Outside layout r) _ _ (λ f. says_still (outside-says layout r f)) (λ f i. check_first 6 _ _ _ _ (level-says k opened level) (λ l. check_last 7 rule (Kept → ⊥) (decides_says d)))))

  known_type : (t : RecordType) → (t ≡ other → ⊥) → Says true (t ≡ other)
  known_type t n = record { yes = λ e. absurd (false≢true (sym e)); no = λ e. n }

  pub as_first : (held : Data) (t : RecordType) → FirstOf (in_order (faults_as opened t r)) (fault_at opened 0 held (view_as t r))
  unfolding header_view element_view grid_view net_view other_view grid_states grid_needs net_needs FirstOf
  as_first held H = record_first head (H ≡ other) header _ true (Unit {0}) (known_type H (λ e. let x : ◌≡◌ {A = ℕ} 0 1 = cc in omega arith)) always
  as_first held E1 = record_first (kind_of E1) (E1 ≡ other) element _ (element_rule E1 r) (ElementKept E1 r) (known_type E1 (λ e. let x : ◌≡◌ {A = ℕ} 0 1 = cc in omega arith)) (element_decides E1 r (λ k. a_coordinate _ k.0))
  as_first held E2 = record_first (kind_of E2) (E2 ≡ other) element _ (element_rule E2 r) (ElementKept E2 r) (known_type E2 (λ e. let x : ◌≡◌ {A = ℕ} 0 1 = cc in omega arith)) (element_decides E2 r (λ k. a_coordinate _ k.0))
  as_first held E3 = record_first (kind_of E3) (E3 ≡ other) element _ (element_rule E3 r) (ElementKept E3 r) (known_type E3 (λ e. let x : ◌≡◌ {A = ℕ} 0 1 = cc in omega arith)) (element_decides E3 r (λ k. a_coordinate _ k.0))
  as_first held E4 = record_first (kind_of E4) (E4 ≡ other) element _ (element_rule E4 r) (ElementKept E4 r) (known_type E4 (λ e. let x : ◌≡◌ {A = ℕ} 0 1 = cc in omega arith)) (element_decides E4 r (λ k. a_coordinate _ k.0))
  as_first held E5 = record_first (kind_of E5) (E5 ≡ other) element _ (element_rule E5 r) (ElementKept E5 r) (known_type E5 (λ e. let x : ◌≡◌ {A = ℕ} 0 1 = cc in omega arith)) (element_decides E5 r (λ k. a_point _ _ k))
  as_first held E6 = record_first (kind_of E6) (E6 ≡ other) element _ (element_rule E6 r) (ElementKept E6 r) (known_type E6 (λ e. let x : ◌≡◌ {A = ℕ} 0 1 = cc in omega arith)) (element_decides E6 r (λ k. a_coordinate _ k.0.0))
  as_first held E7 = record_first (kind_of E7) (E7 ≡ other) element _ (element_rule E7 r) (ElementKept E7 r) (known_type E7 (λ e. let x : ◌≡◌ {A = ℕ} 0 1 = cc in omega arith)) (element_decides E7 r (λ k. inr (inr (inr (inr (inl k.0))))))
  as_first held E8 = record_first (kind_of E8) (E8 ≡ other) element _ (element_rule E8 r) (ElementKept E8 r) (known_type E8 (λ e. let x : ◌≡◌ {A = ℕ} 0 1 = cc in omega arith)) (element_decides E8 r (λ k. inr (inr (inr (inr (inr (inl k.0)))))))
  as_first held G = record_first (item 8) (G ≡ other) grid_header _ _ _ (known_type G (λ e. let x : ◌≡◌ {A = ℕ} 0 1 = cc in omega arith)) (decides_rounded (number_at grid_header "rows" r * number_at grid_header "columns" r) 12 _ (omega arith))
  as_first held T = record_first (item 8) (T ≡ other) net_header _ _ _ (known_type T (λ e. let x : ◌≡◌ {A = ℕ} 0 1 = cc in omega arith)) (decides_rounded (3 * number_at net_header "triangles" r) 4 _ (omega arith))
  as_first held other = inr (λ x. x, inl (refl, refl))

-- "a record is checked when reached, for 3, 2, 4, 5, 6, 7, 8, 9 in that order, and the first fault answers"
pub due_first : (opened : ℕ) (held : Data) (r : List ℕ) → FirstOf (in_order (header_or_item_faults opened r)) (fault_at opened 0 held (view r))
unfolding view
due_first opened held r = as_first opened r held (type_of r)

-- ---- A data record, 2 to 9 in order
-- columns alone, and one test more that is 6
pub columns_last : (layout : List Col) (r : List ℕ) (extra : Bool) (Six : Type 0) (cs : List Check) → (all_formed layout r ≡ true → Says (all_inside layout r && extra) Six) → (all_formed layout r ≡ true → all_inside layout r && extra ≡ true → FirstOf cs 0) → FirstOf (record { number = 5; applies = MalformedIn layout r } ∷ record { number = 6; applies = Six } ∷ cs) (first (column_fault layout r) (unless extra 6))
columns_last layout r extra Six cs six rest = rw (first_alone (unless extra 6)) at (columns_first layout r extra Six cs 0 six rest)

first_of_two : (r : List ℕ) → all_inside data_note r ≡ true → number_at data_note "writing direction" r ≤ 1
unfolding all_inside data_note number_at find
first_of_two r e = go (integer (column_of (column 0 1 r))) (and-true _ _ e).0
  where
    go : (z : ℤ) → le_z (pos 0) z && le_z z (pos 1) ≡ true → size z ≤ 1
    go (pos n) e = leb-true n 1 (and-true (leb 0 n) (leb n 1) e).1
    go (negsuc n) e = omega arith

direction_decides : (r : List ℕ) → number_at data_note "writing direction" r ≤ 1 → Decides (direction_ok r) (DirectionKept r)
unfolding direction_ok
direction_decides r l = go (eqb w 0) refl
  where
    w : ℕ
    w = number_at data_note "writing direction" r

    d : ℤ
    d = integer_at data_note "direction" r

    between : (a b : ℤ) → Decides (le_z a d && le_z d b) ((a ≤ℤ d) × (d ≤ℤ b))
    between a b = decides_and (decides_int_le a d) (decides_int_le d b)

    go : (t : Bool) → eqb w 0 ≡ t → Decides (cond t (le_z (minus 45) d && le_z d (pos 45)) (le_z (minus 135) d && le_z d (minus 45))) (DirectionKept r)
    go true q = record { yes = λ e. (λ w0. (between (minus 45) (pos 45)).yes e, λ w1. absurd (omega (arith, eqb-true w 0 q))); no = λ e k. (between (minus 45) (pos 45)).no e (k.0 (eqb-true w 0 q)) }
    go false q = let ne : w ≢ 0 = eqb-false w 0 q in record { yes = λ e. (λ w0. absurd (ne w0), λ w1. (between (minus 135) (minus 45)).yes e); no = λ e k. (between (minus 135) (minus 45)).no e (k.1 (omega arith)) }

note-says : (held : Data) (behind : ℕ) (r : List ℕ) → all_inside (data_columns held behind) r ≡ true → Says (data_rule held r) (NoteWrong held r)
unfolding data_columns
note-says nothing behind r i = says_never
note-says (points_3d n) behind r i = says_never
note-says (points_2d n) behind r i = says_never
note-says (triangles n) behind r i = says_never
note-says (heights n) behind r i = says_never
note-says notes behind r i = decides_says (direction_decides r (first_of_two r i))
note-says attributes behind r i = says_never

nothing-more : FirstOf (record { number = 7; applies = ⊥ } ∷ record { number = 8; applies = ⊥ } ∷ record { number = 9; applies = ⊥ } ∷ []) 0
unfolding FirstOf
nothing-more = inr (λ x. x, inr (λ x. x, inr (λ x. x, refl)))

pub data_fault_first : (held : Data) (behind : ℕ) (r : List ℕ) → FirstOf (in_order (data_faults held behind r)) (data_fault held behind r)
unfolding data_fault
data_fault_first held behind r = check_never 2 _ _ (check_never 4 _ _ (columns_last (data_columns held behind) r (data_rule held r) _ _ (λ f. says_then (outside-says (data_columns held behind) r f) (note-says held behind r)) (λ f i. nothing-more)))

data_as : (t : RecordType) (opened due : ℕ) (held : Data) (r : List ℕ) → FirstOf (in_order (data_faults held due r)) (fault_at opened (suc due) held (view_as t r))
unfolding header_view element_view grid_view net_view other_view
data_as H opened due held r = data_fault_first held due r
data_as E1 opened due held r = data_fault_first held due r
data_as E2 opened due held r = data_fault_first held due r
data_as E3 opened due held r = data_fault_first held due r
data_as E4 opened due held r = data_fault_first held due r
data_as E5 opened due held r = data_fault_first held due r
data_as E6 opened due held r = data_fault_first held due r
data_as E7 opened due held r = data_fault_first held due r
data_as E8 opened due held r = data_fault_first held due r
data_as G opened due held r = data_fault_first held due r
data_as T opened due held r = data_fault_first held due r
data_as other opened due held r = data_fault_first held due r

pub data_first : (opened due : ℕ) (held : Data) (r : List ℕ) → FirstOf (in_order (data_faults held due r)) (fault_at opened (suc due) held (view r))
unfolding view
data_first opened due held r = data_as (type_of r) opened due held r
