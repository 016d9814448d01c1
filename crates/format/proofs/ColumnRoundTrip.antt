-- What was written reads as that number: for every width at once and both signs. Assumes nothing.
use mathlib.Core.Path.{◌≡◌, refl, ap, sym, ◌∙◌}
use mathlib.Core.Bool.{Bool, true, false, cond, ◌&&◌}
use mathlib.Core.List.{List, [], ◌∷◌, ◌++◌}
use Prim.Native.Nat.{ℕ, zero, suc, ◌-◌, ◌^◌, ◌≤◌, ◌<◌}
use native.Mathlib.Omega.{arith}
use borrow.Author.Tests.{lt-ltb, le-leb, leb-true, ltb-true}
use lib.Dec.{eqb, leb, eqb-suc-zero}
use lib.ListN.{length, replicate, length-append, length-replicate}
use lib.Seq.{take_all}
use lib.IntN.{ℤ, pos, negsuc, neg_ℤ}
use Rattle.format.specs.declared.Column.TheVariants.{Value, MinusZero, Malformed}
use Rattle.format.specs.Basics.{given, refused, Outcome}
use Rattle.format.specs.Column.{strip, value_of, is_number, negative, positive, signed, column_of, number_of, digits_in, digits, text_of, fits, written, width_ok, column_answer, read_alone, write_alone}
use Rattle.format.proofs.Basics.{and-true}
use Rattle.format.proofs.Columns.{Byte, v_space, v_minus, v_digit, v_other, byte, strip-spaces, length-written, read_written, number-below}
use Rattle.format.proofs.ColumnFits.{fit, fits_plus}

-- ---- WHAT WAS WRITTEN READS AS THAT NUMBER
pub spaces-before : (k : ℕ) (t : List ℕ) → column_of (replicate k 32 ++ t) ≡ column_of t
unfolding column_of
spaces-before k t = ap signed (strip-spaces k t)

-- the spaces in front of a number that fits change nothing
unpadded : (w : ℕ) (z : ℤ) → length (text_of z) ≤ w → column_of (written w z) ≡ column_of (text_of z)
unfolding written
unpadded w z h =
    ap column_of (take_all w (replicate (w - length (text_of z)) 32 ++ text_of z) (simp (length-append, length-replicate) (omega arith))) ∙
    spaces-before (w - length (text_of z)) (text_of z)

-- a minus before digits that read as a number above 0, with no space between
not_above : (v n : ℕ) → neg_ℤ (pos v) ≡ pos (suc n) → ⊥
not_above zero n e = let x : ◌≡◌ {A = ℕ} 0 (suc n) = cc in omega arith
not_above (suc v) n e = let x : ◌≡◌ {A = ℕ} 0 1 = cc in omega arith

no_second_minus : (bs : List ℕ) (n : ℕ) → negative bs ≡ Value (pos (suc n)) → ⊥
unfolding negative
no_second_minus bs n = at_test (is_number bs) (eqb (value_of bs) 0)
  where
    at_test : (t u : Bool) → cond t (cond u MinusZero (Value (neg_ℤ (pos (value_of bs))))) Malformed ≡ Value (pos (suc n)) → ⊥
    at_test true true e = let x : ◌≡◌ {A = ℕ} 0 1 = cc in omega arith
    at_test true false e = not_above (value_of bs) n (cc)
    at_test false u e = let x : ◌≡◌ {A = ℕ} 0 1 = cc in omega arith

negated : (bs : List ℕ) (n : ℕ) → positive bs ≡ Value (pos (suc n)) → negative bs ≡ Value (negsuc n)
unfolding positive negative
negated bs n = at_test (is_number bs) refl
  where
    at_test : (t : Bool) → is_number bs ≡ t → cond t (Value (pos (value_of bs))) Malformed ≡ Value (pos (suc n)) → negative bs ≡ Value (negsuc n)
    at_test true p e = let v : value_of bs ≡ suc n = cc in simp (p, v, eqb-suc-zero)
    at_test false p e = let x : ◌≡◌ {A = ℕ} 0 1 = cc in absurd (omega arith)

minus-head : (b : ℕ) (bs : List ℕ) (n : ℕ) → Byte b → (b ≡ 32 → ⊥) → column_of (b ∷ bs) ≡ Value (pos (suc n)) → column_of (45 ∷ b ∷ bs) ≡ Value (negsuc n)
unfolding column_of strip signed
minus-head b bs n (v_space e) h c = absurd (h e)
minus-head b bs n (v_minus e) h c = absurd (no_second_minus bs n (rw e at c))
minus-head b bs n (v_digit p q r) h c = negated (b ∷ bs) n (simp (p, q) at c)
minus-head b bs n (v_other p q r) h c = negated (b ∷ bs) n (simp (p, q) at c)

-- the digits of a number have no space in front, since one byte less would not hold it
space_head : (bs : List ℕ) (n : ℕ) → column_of (32 ∷ bs) ≡ Value (pos (suc n)) → suc n < 10 ^ length bs
unfolding column_of strip
space_head bs n c = let e : number_of (column_of bs) ≡ suc n = ap number_of c in omega (arith, number-below bs)

minus-digits : (t : List ℕ) (n : ℕ) → t ≡ digits_in 19 (suc n) → length t ≤ 19 → column_of t ≡ Value (pos (suc n)) → column_of (45 ∷ t) ≡ Value (negsuc n)
unfolding column_of strip signed
minus-digits [] n e l c = let x : ◌≡◌ {A = ℕ} 0 1 = cc in absurd (omega arith)
minus-digits (b ∷ bs) n e l c = minus-head b bs n (byte b) no_space_lem c
  where
    no_space_lem : b ≡ 32 → ⊥
    no_space_lem h =
        let k : suc n < 10 ^ length bs = space_head bs n (rw h at c) in
        let q : leb (suc (length bs)) (length bs) ≡ true = ap (λ (x : List ℕ). leb (length x) (length bs)) e ∙ fit 19 (suc n) (length bs) (omega arith) (omega arith) ∙ lt-ltb (suc n) (10 ^ length bs) k in
        omega (arith, leb-true (suc (length bs)) (length bs) q)

module _ (w : ℕ) (some : 1 ≤ w) (most : w ≤ 18) where
  reads_plain : (n : ℕ) → fits w (pos n) ≡ true → column_of (written w (pos n)) ≡ Value (pos n)
  reads_plain n e = read_written w n some (omega arith) (ltb-true n (10 ^ w) (sym (fits_plus w n some (omega arith)) ∙ e))

  reads-minus : (n : ℕ) → fits w (negsuc n) ≡ true → column_of (written w (negsuc n)) ≡ Value (negsuc n)
  unfolding fits text_of digits
  reads-minus n e =
      let h : suc (length (digits_in 19 (suc n))) ≤ w = leb-true (suc (length (digits_in 19 (suc n)))) w e in
      let plain : column_of (written w (pos (suc n))) ≡ Value (pos (suc n)) = reads_plain (suc n) (le-leb (length (digits_in 19 (suc n))) w (omega arith)) in
      unpadded w (negsuc n) h ∙ minus-digits (digits_in 19 (suc n)) n refl (omega arith) (sym (unpadded w (pos (suc n)) (omega arith)) ∙ plain)

  -- the written form of a number that fits reads as that number
  pub reads-back : (z : ℤ) → fits w z ≡ true → column_of (written w z) ≡ Value z
  reads-back (pos n) e = reads_plain n e
  reads-back (negsuc n) e = reads-minus n e

-- ---- the same of a column written and read alone
-- a column written alone holds the written form, where width and number allow it, or is as it was
data Outcomes (column : List ℕ) (z : ℤ) : Outcome ℕ → Type 0 where
  wrote : width_ok (length column) ≡ true → fits (length column) z ≡ true → Outcomes column z (record { answer = given (length column); bytes = written (length column) z })
  refuses : Outcomes column z (record { answer = refused 16 0; bytes = column })

outcome : (column : List ℕ) (z : ℤ) → Outcomes column z (write_alone column z)
unfolding write_alone
outcome column z = at_test (width_ok (length column) && fits (length column) z) refl
  where
    at_test : (t : Bool) → width_ok (length column) && fits (length column) z ≡ t → Outcomes column z (cond t (record { answer = given (length column); bytes = written (length column) z }) (record { answer = refused 16 0; bytes = column }))
    at_test true e = let p = and-true (width_ok (length column)) (fits (length column) z) e in wrote p.0 p.1
    at_test false e = refuses

width-kept : {column : List ℕ} {z : ℤ} {o : Outcome ℕ} → Outcomes column z o → length o.bytes ≡ length column
width-kept {column} {z} (wrote p e) = length-written (length column) z
width-kept refuses = refl

reads-given : {column : List ℕ} {z : ℤ} {o : Outcome ℕ} (n : ℕ) → Outcomes column z o → o.answer ≡ given n → read_alone o.bytes ≡ given z
unfolding read_alone
reads-given {column} {z} n (wrote p e) a =
    let h = and-true (leb 1 (length column)) (leb (length column) 18) p in
    rw (length-written (length column) z) (simp p (ap column_answer (reads-back (length column) (leb-true 1 (length column) h.0) (leb-true (length column) 18 h.1) z e)))
reads-given n refuses a = let x : ◌≡◌ {A = ℕ} 0 1 = cc in absurd (omega arith)

-- refused or not, the column keeps its width
pub length_write_alone : (column : List ℕ) (z : ℤ) → length (write_alone column z).bytes ≡ length column
length_write_alone column z = width-kept (outcome column z)

-- THE ROUND TRIP: what was written reads as that number
pub round_trip : (column : List ℕ) (z : ℤ) (n : ℕ) → (write_alone column z).answer ≡ given n → read_alone (write_alone column z).bytes ≡ given z
round_trip column z n = reads-given n (outcome column z)
