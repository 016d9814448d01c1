-- The checks of one record of the sheet part, and of an index. Assumes nothing.
use mathlib.Core.Path.{◌≡◌, refl, sym}
use mathlib.Core.Logic.{◌⊎◌, inl, inr, ◌≢◌}
use mathlib.Core.Bool.{◌||◌, Bool, true, false, cond, not, false≢true}
use mathlib.Core.List.{List, [], ◌∷◌}
use Prim.Native.Nat.{ℕ, ◌<◌}
use Prim.Native.String.{String}
use native.Mathlib.Omega.{arith}
use lib.Dec.{leb, eqb}
use lib.IntN.{ℤ, pos, nat_abs}
use lib.Signed.{lt_z, ◌<ℤ◌, lt_z_yes}
use lib.ListN.{length, take}
use borrow.Author.Tests.{eqb-true, eqb-false}
use Rattle.format.specs.Text.{bytes, same, begins}
use Rattle.format.specs.Basics.{first, unless}
use Rattle.format.specs.Corner.{most, fraction_ok}
use Rattle.format.specs.Layout.{Col, number_at, all_formed, all_inside, column_fault, sheet_a, sheet_b, sheet_c, sheet_d, sheet_e, sheet_f, index_a, index_b, index_c}
use Rattle.format.specs.Sheet.{Phase, due_a, due_b, due_c, due_d, due_e, due_f, body, unit_of, fractions_ok, fractions_of, f_count_ok, wrong_in}
use Rattle.format.specs.Index as Index
use Rattle.format.specs.Index.{Stage, b_count_ok}
use Rattle.format.specs.Checks.{FirstOf, OneOf, in_order, column_faults, UnitWrong, Starts, FCountKept, FractionWrong, SomeFractionWrong, part_faults, index_faults}
use Rattle.format.proofs.Basics.{first_alone}
use Rattle.format.proofs.ChecksOrder.{Says, Decides, decides_says, decides_and, decides_or, decides_map, decides_eqb, says_never, says_map, says-and, says_eqb, says_leb, check_first, check_never, check_end}
use Rattle.format.proofs.ChecksRecords.{outside-says, columns_first, decides_rounded}

-- ---- 2
pub same_decides : (xs ys : List ℕ) → Decides (same xs ys) (xs ≡ ys)
same_decides [] [] = record { yes = λ e. refl; no = λ e. absurd (false≢true (sym e)) }
same_decides [] (y ∷ ys) = record { yes = λ e. absurd (false≢true e); no = λ e q. let x : ◌≡◌ {A = ℕ} 0 1 = cc in omega arith }
same_decides (x ∷ xs) [] = record { yes = λ e. absurd (false≢true e); no = λ e q. let x : ◌≡◌ {A = ℕ} 0 1 = cc in omega arith }
same_decides (x ∷ xs) (y ∷ ys) = decides_map (λ h. let p : x ≡ y = h.0 in let q : xs ≡ ys = h.1 in cc) (λ q. let p : x ≡ y = cc in let t : xs ≡ ys = cc in (p, t)) (decides_and (decides_eqb x y) (same_decides xs ys))

pub starts_decides : (type : String) (r : List ℕ) → length (bytes type) ≡ 2 → Decides (begins type r) (Starts type r)
unfolding begins
starts_decides type r two = rw two (same_decides (take 2 r) (bytes type))

starts_says : (type : String) (r : List ℕ) → length (bytes type) ≡ 2 → Says (begins type r) (Starts type r → ⊥)
starts_says type r two = decides_says (starts_decides type r two)

-- ---- 6 at record b
of_two : (n a b : ℕ) → Decides (eqb n a || eqb n b) (OneOf n (a ∷ b ∷ []))
of_two n a b = decides_map (elim [ inl e ↦ inl e | inr e ↦ inr (inl e) ]) (elim [ inl e ↦ inl e | inr x ↦ elim x [ inl e ↦ inr e | inr y ↦ absurd y ] ]) (decides_or (decides_eqb n a) (decides_eqb n b))

apart : (level : ℕ) → OneOf level (500 ∷ 1000 ∷ []) → OneOf level (2500 ∷ 5000 ∷ []) → ⊥
apart level (inl e) (inl q) = omega arith
apart level (inl e) (inr (inl q)) = omega arith
apart level (inr (inl e)) (inl q) = omega arith
apart level (inr (inl e)) (inr (inl q)) = omega arith
apart level (inl e) (inr (inr y)) = y
apart level (inr (inl e)) (inr (inr y)) = y
apart level (inr (inr x)) q = x

unit_says : (level unit : ℕ) → Says (eqb unit (unit_of level)) (UnitWrong level unit)
unit_says level unit = go _ _ (of_two level 500 1000) (of_two level 2500 5000)
  where
    go : (s t : Bool) → Decides s (OneOf level (500 ∷ 1000 ∷ [])) → Decides t (OneOf level (2500 ∷ 5000 ∷ [])) → Says (eqb unit (cond s 1 (cond t 10 999))) (UnitWrong level unit)
    go true t a b = says_map (λ n. inl (a.yes refl, n)) (elim [ inl x ↦ x.1 | inr x ↦ elim x [ inl y ↦ absurd (apart level (a.yes refl) y.0) | inr y ↦ absurd (y.0 (a.yes refl)) ] ]) (says_eqb unit 1)
    go false true a b = says_map (λ n. inr (inl (b.yes refl, n))) (elim [ inl x ↦ absurd (a.no refl x.0) | inr x ↦ elim x [ inl y ↦ y.1 | inr y ↦ absurd (y.1 (b.yes refl)) ] ]) (says_eqb unit 10)
    go false false a b = says_map (λ n. inr (inr (a.no refl, b.no refl, n))) (elim [ inl x ↦ absurd (a.no refl x.0) | inr x ↦ elim x [ inl y ↦ absurd (b.no refl y.0) | inr y ↦ y.2 ] ]) (says_eqb unit 999)

-- ---- 9
decides_int_lt : (a b : ℤ) → Decides (lt_z a b) (a <ℤ b)
decides_int_lt a b = record { yes = λ e. lt_z_yes (rw e tt); no = λ e l. rw e at l.lt }

large_says : (unit : ℕ) (fraction : ℤ) → Says (leb (nat_abs fraction) (most unit)) (((unit ≡ 1) × (999 < nat_abs fraction)) ⊎ ((unit ≢ 1) × (99 < nat_abs fraction)))
large_says unit fraction = go (eqb unit 1) refl
  where
    go : (t : Bool) → eqb unit 1 ≡ t → Says (leb (nat_abs fraction) (cond t 999 99)) (((unit ≡ 1) × (999 < nat_abs fraction)) ⊎ ((unit ≢ 1) × (99 < nat_abs fraction)))
    go true q = says_map (λ l. inl (eqb-true unit 1 q, l)) (elim [ inl x ↦ x.1 | inr x ↦ absurd (x.0 (eqb-true unit 1 q)) ]) (says_leb (nat_abs fraction) 999)
    go false q = says_map (λ l. inr (eqb-false unit 1 q, l)) (elim [ inl x ↦ absurd (eqb-false unit 1 q x.0) | inr x ↦ x.1 ]) (says_leb (nat_abs fraction) 99)

-- a test that is turned round
says-not : {test : Bool} {P : Type 0} → Decides test P → Says (not test) P
says-not {test = true} d = record { yes = λ e. d.yes refl; no = λ e. absurd (false≢true e) }
says-not {test = false} d = record { yes = λ e. absurd (false≢true (sym e)); no = λ e. d.no refl }

pub fraction-says : (unit : ℕ) (whole fraction : ℤ) → Says (fraction_ok unit whole fraction) (FractionWrong unit whole fraction)
unfolding fraction_ok
fraction-says unit whole fraction = says-and (large_says unit fraction) (says-not (decides_or (decides_and (decides_int_lt whole (pos 0)) (decides_int_lt (pos 0) fraction)) (decides_and (decides_int_lt (pos 0) whole) (decides_int_lt fraction (pos 0)))))

fractions_says : (unit : ℕ) (ws fs : List ℤ) → Says (fractions_ok unit ws fs) (SomeFractionWrong unit ws fs)
fractions_says unit [] fs = says_never
fractions_says unit (w ∷ ws) [] = says_never
fractions_says unit (w ∷ ws) (f ∷ fs) = says-and (fraction-says unit w f) (fractions_says unit ws fs)

-- ---- 2 to 9 in order, of a record that is judged by its columns
module _ (layout : List Col) (r : List ℕ) where
  columns_in_order : (asked rule ninth : Bool) (Unasked Also Fraction : Type 0) → Says asked Unasked → Says rule Also → Says ninth Fraction → FirstOf (in_order (column_faults Unasked layout Also Fraction r)) (first (unless asked 2) (first (column_fault layout r) (first (unless rule 6) (unless ninth 9))))
  columns_in_order asked rule ninth Unasked Also Fraction two six nine = check_first 1 asked Unasked _ _ two (λ e. check_never 4 _ _ (columns_first layout r rule _ _ _ (λ f. says-and (outside-says layout r f) six) (λ f i. check_never 7 _ _ (check_never 8 _ _ (check_end 8 ninth Fraction nine)))))

  -- with nothing else
  plain_columns : FirstOf (in_order (column_faults ⊥ layout ⊥ ⊥ r)) (column_fault layout r)
  plain_columns = rw (first_alone (column_fault layout r)) at (columns_in_order true true true ⊥ ⊥ ⊥ says_never says_never says_never)

two_bytes_M : length (bytes "M ") ≡ 2
unfolding bytes
two_bytes_M = refl

pub two_bytes_I : length (bytes "I ") ≡ 2
unfolding bytes
two_bytes_I = refl

nothing_due_lem : (r : List ℕ) → FirstOf (in_order (column_faults ⊥ [] ⊥ ⊥ r)) 0
unfolding column_fault all_formed all_inside
nothing_due_lem r = plain_columns [] r

f_count_decides : (courses fs : ℕ) → Decides (f_count_ok courses fs) (FCountKept courses fs)
f_count_decides courses fs = decides_or (decides_eqb fs 0) (decides_rounded courses 3 fs (omega arith))

pub part-first : (p : Phase) (r : List ℕ) → FirstOf (in_order (part_faults p r)) (wrong_in p r)
part-first due_a r = rw (first_alone (column_fault sheet_a r)) at (columns_in_order sheet_a r (begins "M " r) true true _ ⊥ ⊥ (starts_says "M " r two_bytes_M) says_never says_never)
part-first (due_b level more) r = rw (first_alone (unless (eqb (number_at sheet_b "unit" r) (unit_of level)) 6)) at (columns_in_order sheet_b r true (eqb (number_at sheet_b "unit" r) (unit_of level)) true ⊥ _ ⊥ says_never (unit_says level (number_at sheet_b "unit" r)) says_never)
part-first (due_c unit wholes more) r = plain_columns sheet_c r
part-first (due_d unit wholes more) r = rw (first_alone (unless (f_count_ok (number_at sheet_d "courses" r) (number_at sheet_d "f records" r)) 6)) at (columns_in_order sheet_d r true (f_count_ok (number_at sheet_d "courses" r) (number_at sheet_d "f records" r)) true ⊥ _ ⊥ says_never (decides_says (f_count_decides (number_at sheet_d "courses" r) (number_at sheet_d "f records" r))) says_never)
part-first (due_e unit wholes more fs) r = columns_in_order sheet_e r true true (fractions_ok unit wholes (fractions_of r)) ⊥ ⊥ _ says_never says_never (fractions_says unit wholes (fractions_of r))
part-first (due_f unit wholes more fs) r = plain_columns sheet_f r
part-first body r = nothing_due_lem r

pub index-first : (s : Stage) (r : List ℕ) → FirstOf (in_order (index_faults s r)) (Index.wrong_in s r)
index-first Index.due_a r = rw (first_alone (unless (b_count_ok r) 6)) at (columns_in_order index_a r (begins "I " r) (b_count_ok r) true _ _ ⊥ (starts_says "I " r two_bytes_I) (decides_says (decides_rounded (number_at index_a "sheets" r) 10 (number_at index_a "b records" r) (omega arith))) says_never)
index-first (Index.due_b bs cs) r = plain_columns index_b r
index-first (Index.due_c cs) r = plain_columns index_c r
index-first Index.over r = nothing_due_lem r
