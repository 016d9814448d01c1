-- Record 2 with its two counts written anew, and THE LAWS of the columns, all of them. Assumes nothing.
use mathlib.Core.Path.{◌≡◌, refl, ap, sym, ◌∙◌}
use mathlib.Core.Bool.{true, ◌&&◌}
use mathlib.Core.List.{List, ◌++◌}
use Prim.Native.Nat.{ℕ, ◌≤◌}
use Prim.Native.String.{String}
use native.Mathlib.Omega.{arith}
use lib.ListN.{length, take}
use lib.IntN.{pos}
use Rattle.format.specs.Column.{column_of, integer, number_of, written}
use Rattle.format.specs.Layout.{column, splice, find, integer_at, number_at, column_fault, sheet_b}
use Rattle.format.specs.Record.{rewrite}
use Rattle.format.specs.Part.{part_from}
use Rattle.format.specs.Sheet.{due_a, sheet_machine, after, wrong_in, wholes_of, part_length, sheet_fault, stated_elements, stated_records, write_counts}
use Rattle.format.specs.Edit.{alter_at}
use Rattle.format.proofs.Basics.{and-true, first_zero, zero_first}
use Rattle.format.proofs.Lists.{Wide}
use Rattle.format.proofs.Columns.{Apart, left, column-other, length-splice, length-written}
use Rattle.format.proofs.LayoutRewriting.{apart, apart_is, clear_all, new_own, new_other, column_fault-kept}
use Rattle.format.proofs.SheetPhases.{fine_from, fault-fine, part_length_long, part_length_two, part_length-kept, fine-kept}
use Rattle.format.proofs.EditRecords.{sheet_ok, Lawful}
use Rattle.format.proofs.RecordHeaders.{raised, lowered, raise_wide, lower_wide}

abbrev counts : ℕ → ℕ → List ℕ → List ℕ
counts e s r = splice 37 7 (written 7 (pos s)) (splice 31 6 (written 6 (pos e)) r)

counts_is : (e s : ℕ) (r : List ℕ) → write_counts e s r ≡ counts e s r
unfolding write_counts rewrite find sheet_b
counts_is e s r = refl

clear_both : clear_all 31 6 sheet_b && clear_all 37 7 sheet_b ≡ true
unfolding sheet_b
clear_both = refl

pub write_wide : (e s : ℕ) (r : List ℕ) → length r ≡ 84 → length (write_counts e s r) ≡ 84
write_wide e s r w = ap length (counts_is e s r) ∙ length-splice 37 7 (written 7 (pos s)) (splice 31 6 (written 6 (pos e)) r) (length-written 7 (pos s)) (omega (arith, inner)) ∙ inner
  where
    inner : length (splice 31 6 (written 6 (pos e)) r) ≡ 84
    inner = length-splice 31 6 (written 6 (pos e)) r (length-written 6 (pos e)) (omega arith) ∙ w

module _ (e s : ℕ) (r : List ℕ) (w : length r ≡ 84) (e-fits : e ≤ 999999) (s-fits : s ≤ 9999999) where
  abbrev mid : List ℕ
  mid = splice 31 6 (written 6 (pos e)) r

  mid_wide : length (splice 31 6 (written 6 (pos e)) r) ≡ 84
  mid_wide = length-splice 31 6 (written 6 (pos e)) r (length-written 6 (pos e)) (omega arith) ∙ w

  other : (a v : ℕ) → Apart a v 31 6 → Apart a v 37 7 → column a v (counts e s r) ≡ column a v r
  other a v h k = new_other 37 7 s mid (omega arith) (omega arith) (omega arith) (omega (arith, mid_wide)) a v k ∙ new_other 31 6 e r (omega arith) (omega arith) (omega arith) (omega arith) a v h

  -- any column of b that is none of the two
  pub other-integer : (n : String) → apart 31 6 (find n sheet_b) && apart 37 7 (find n sheet_b) ≡ true → integer_at sheet_b n (counts e s r) ≡ integer_at sheet_b n r
  unfolding integer_at
  other-integer n t = let y = and-true (apart 31 6 (find n sheet_b)) _ t in ap (λ (bs : List ℕ). integer (column_of bs)) (other (find n sheet_b).start (find n sheet_b).width (apart_is 31 6 (find n sheet_b) y.0) (apart_is 37 7 (find n sheet_b) y.1))

  pub other-number : (n : String) → apart 31 6 (find n sheet_b) && apart 37 7 (find n sheet_b) ≡ true → number_at sheet_b n (counts e s r) ≡ number_at sheet_b n r
  unfolding number_at
  other-number n t = let y = and-true (apart 31 6 (find n sheet_b)) _ t in ap (λ (bs : List ℕ). number_of (column_of bs)) (other (find n sheet_b).start (find n sheet_b).width (apart_is 31 6 (find n sheet_b) y.0) (apart_is 37 7 (find n sheet_b) y.1))

  pub unit_kept : number_at sheet_b "unit" (counts e s r) ≡ number_at sheet_b "unit" r
  unfolding find sheet_b
  unit_kept = other-number "unit" refl

  pub wholes_kept : wholes_of (counts e s r) ≡ wholes_of r
  unfolding wholes_of find sheet_b
  wholes_kept = rw (other-integer "lower left X" refl, other-integer "lower left Y" refl, other-integer "upper right X" refl, other-integer "upper right Y" refl, other-integer "upper left X" refl, other-integer "upper left Y" refl, other-integer "lower right X" refl, other-integer "lower right Y" refl)

  pub column_fault-b-kept : column_fault sheet_b r ≡ 0 → column_fault sheet_b (counts e s r) ≡ 0
  column_fault-b-kept f = let y = and-true (clear_all 31 6 sheet_b) _ clear_both in column_fault-kept 37 7 s mid (omega arith) (omega arith) (omega arith) (omega (arith, mid_wide)) sheet_b y.1 (column_fault-kept 31 6 e r (omega arith) (omega arith) (omega arith) (omega arith) sheet_b y.0 f)

-- the two counts are read back
own-stated_records : (e s : ℕ) (r : List ℕ) → length r ≡ 84 → s ≤ 9999999 → number_of (column_of (column 37 7 (counts e s r))) ≡ s
own-stated_records e s r w l = ap number_of (new_own 37 7 s (splice 31 6 (written 6 (pos e)) r) (omega arith) (omega arith) (omega arith) (omega (arith, inner)))
  where
    inner : length (splice 31 6 (written 6 (pos e)) r) ≡ 84
    inner = length-splice 31 6 (written 6 (pos e)) r (length-written 6 (pos e)) (omega arith) ∙ w

own-stated_elements : (e s : ℕ) (r : List ℕ) → length r ≡ 84 → e ≤ 999999 → number_of (column_of (column 31 6 (counts e s r))) ≡ e
own-stated_elements e s r w l = ap (λ (bs : List ℕ). number_of (column_of bs)) (column-other 37 7 (written 7 (pos s)) (splice 31 6 (written 6 (pos e)) r) (length-written 7 (pos s)) (omega (arith, inner)) 31 6 (left (omega arith))) ∙ ap number_of (new_own 31 6 e r (omega arith) (omega arith) (omega arith) (omega arith))
  where
    inner : length (splice 31 6 (written 6 (pos e)) r) ≡ 84
    inner = length-splice 31 6 (written 6 (pos e)) r (length-written 6 (pos e)) (omega arith) ∙ w

-- ---- the sheet part reads the same of record 2
module _ (e s : ℕ) (e-fits : e ≤ 999999) (s-fits : s ≤ 9999999) where
  same_step : (a b : List ℕ) → length b ≡ 84 → after (after due_a a) (write_counts e s b) ≡ after (after due_a a) b
  same_step a b w = rw (counts_is e s b, unit_kept e s b w e-fits s-fits, wholes_kept e s b w e-fits s-fits)

  same-fault : (a b : List ℕ) → length b ≡ 84 → wrong_in (after due_a a) b ≡ 0 → wrong_in (after due_a a) (write_counts e s b) ≡ 0
  same-fault a b w f =
      let y = first_zero (column_fault sheet_b b) _ f in
      rw (counts_is e s b) (zero_first _ _ (column_fault-b-kept e s b w e-fits s-fits y.0) (rw (unit_kept e s b w e-fits s-fits) y.1))

fine-sheet : (rs : List (List ℕ)) → sheet_ok rs ≡ fine_from sheet_machine due_a rs
unfolding sheet_fault
fine-sheet rs = fault-fine sheet_machine due_a 1 rs

two : (rs : List (List ℕ)) → sheet_ok rs ≡ true → 2 ≤ part_length rs
unfolding part_length
two rs h = part_length_two sheet_machine (λ b. b) refl (λ a. refl) (λ a b w. refl) (λ a b w f. f) rs (sym (fine-sheet rs) ∙ h)

inside : (rs : List (List ℕ)) → sheet_ok rs ≡ true → part_length rs ≤ length rs
unfolding part_length
inside rs h = part_length_long sheet_machine due_a rs (sym (fine-sheet rs) ∙ h)

kept-part_length : (rs X : List (List ℕ)) (e s : ℕ) → Wide rs → sheet_ok rs ≡ true → e ≤ 999999 → s ≤ 9999999 → part_length (alter_at (write_counts e s) 1 (take (part_length rs) rs) ++ X) ≡ part_length rs
unfolding part_length
kept-part_length rs X e s w h a b = part_length-kept sheet_machine (write_counts e s) refl (λ x. refl) (same_step e s a b) (same-fault e s a b) rs X w (sym (fine-sheet rs) ∙ h)

kept-sheet : (rs X : List (List ℕ)) (e s : ℕ) → Wide rs → sheet_ok rs ≡ true → e ≤ 999999 → s ≤ 9999999 → sheet_ok (alter_at (write_counts e s) 1 (take (part_length rs) rs) ++ X) ≡ true
unfolding part_length
kept-sheet rs X e s w h a b = fine-sheet (alter_at (write_counts e s) 1 (take (part_from sheet_machine due_a rs) rs) ++ X) ∙ fine-kept sheet_machine (write_counts e s) refl (λ x. refl) (same_step e s a b) (same-fault e s a b) rs X w (sym (fine-sheet rs) ∙ h)

stated_elements-written : (e s : ℕ) (r : List ℕ) → length r ≡ 84 → e ≤ 999999 → stated_elements (write_counts e s r) ≡ e
unfolding stated_elements number_at find sheet_b
stated_elements-written e s r w l = rw (counts_is e s r) (own-stated_elements e s r w l)

stated_records-written : (e s : ℕ) (r : List ℕ) → length r ≡ 84 → s ≤ 9999999 → stated_records (write_counts e s r) ≡ s
unfolding stated_records number_at find sheet_b
stated_records-written e s r w l = rw (counts_is e s r) (own-stated_records e s r w l)

-- THE LAWS of the columns
pub the_laws : Lawful
the_laws = record {
  two = two;
  inside = inside;
  part_length-kept = kept-part_length;
  sheet-kept = kept-sheet;
  stated_elements-written = stated_elements-written;
  stated_records-written = stated_records-written;
  raised = raised;
  lowered = lowered;
  raise_wide = raise_wide;
  lower_wide = lower_wide;
  write_wide = write_wide;
}
