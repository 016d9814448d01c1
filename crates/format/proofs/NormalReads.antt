-- A record in normal form reads as the record does, and is its own normal form. Assumes nothing.
use mathlib.Core.Path.{◌≡◌, refl, ap, sym, ◌∙◌}
use mathlib.Core.Bool.{Bool, true, false, cond, or-true}
use mathlib.Core.Logic.{inl, inr}
use mathlib.Core.List.{List, [], ◌∷◌}
use Prim.Native.Nat.{ℕ, zero, suc, ◌+◌, ◌^◌, ◌≤◌, ◌<◌}
use Prim.Native.String.{String}
use native.Mathlib.Omega.{arith}
use lib.Dec.{eqb, leb}
use lib.Text.{eqt}
use borrow.Author.Tests.{lt-ltb, leb-true}
use lib.IntN.{ℤ, pos, negsuc, neg_ℤ}
use lib.ListN.{length}
use Rattle.format.specs.declared.Column.{Column}
use Rattle.format.specs.declared.Column.TheVariants.{Value, MinusZero, Malformed}
use Rattle.format.specs.Basics.{unless}
use Rattle.format.specs.Column.{strip, value_of, is_number, negative, positive, signed, column_of, formed, integer, number_of, fits, written}
use Rattle.format.specs.Layout.{What, text, blank, integral, integral_or_spaces, Col, column, splice, find, bytes_of, spaces, integer_at, number_at, is_formed, is_inside, all_formed, all_inside, column_fault}
use Rattle.format.specs.Normal.{normal_bytes, normal_record}
use Rattle.format.specs.JudgedColumns.{WrittenAnew, ColumnNormal, EachColumn, is_integer}
use Rattle.format.proofs.Basics.{and-true, true_and, first_zero, zero_first, unless_zero, zero_unless}
use Rattle.format.proofs.Columns.{strip-short, number_digits, digits-below, number-below, pow-up, length-column}
use Rattle.format.proofs.ColumnFits.{fits_plus, fits-minus}
use Rattle.format.proofs.ColumnRoundTrip.{reads-back}
use Rattle.format.proofs.NormalRecords.{EndToEnd, narrow, all_narrow, Table, within_84, splice-same, normalised}

-- ---- the number read in a column fits that column
minus_value : (v n : ℕ) → Value (neg_ℤ (pos v)) ≡ Value (negsuc n) → v ≡ suc n
minus_value zero n e = let x : ◌≡◌ {A = ℕ} 0 1 = cc in absurd (omega arith)
minus_value (suc v) n e = cc

negative-below : (bs : List ℕ) (n : ℕ) → negative bs ≡ Value (negsuc n) → suc n < 10 ^ length bs
unfolding negative
negative-below bs n = at_test (is_number bs) refl (eqb (value_of bs) 0)
  where
    at_test : (t : Bool) → is_number bs ≡ t → (u : Bool) → cond t (cond u MinusZero (Value (neg_ℤ (pos (value_of bs))))) Malformed ≡ Value (negsuc n) → suc n < 10 ^ length bs
    at_test true p true e = let x : ◌≡◌ {A = ℕ} 0 1 = cc in absurd (omega arith)
    at_test true p false e = rw (minus_value (value_of bs) n e) at (digits-below bs (number_digits bs p))
    at_test false p u e = let x : ◌≡◌ {A = ℕ} 0 1 = cc in absurd (omega arith)

not-positive : (bs : List ℕ) (n : ℕ) → positive bs ≡ Value (negsuc n) → ⊥
unfolding positive
not-positive bs n = at_test (is_number bs)
  where
    at_test : (t : Bool) → cond t (Value (pos (value_of bs))) Malformed ≡ Value (negsuc n) → ⊥
    at_test true e = let x : ◌≡◌ {A = ℕ} 0 1 = cc in omega arith
    at_test false e = let x : ◌≡◌ {A = ℕ} 0 1 = cc in omega arith

signed_below : (t : List ℕ) (n w : ℕ) → length t ≤ suc w → signed t ≡ Value (negsuc n) → suc n < 10 ^ w
unfolding signed
signed_below [] n w l e = let x : ◌≡◌ {A = ℕ} 0 1 = cc in absurd (omega arith)
signed_below (b ∷ bs) n w l e = at_test (eqb b 45) e
  where
    at_test : (t : Bool) → cond t (negative bs) (positive (b ∷ bs)) ≡ Value (negsuc n) → suc n < 10 ^ w
    at_test true e = omega (arith, negative-below bs n e, pow-up (length bs) w (omega arith))
    at_test false e = absurd (not-positive (b ∷ bs) n e)

pub read_fits : (l : List ℕ) (z : ℤ) → length l ≤ 18 → column_of l ≡ Value z → (1 ≤ length l) × (fits (length l) z ≡ true)
unfolding column_of strip signed
read_fits [] z h e = let x : ◌≡◌ {A = ℕ} 0 1 = cc in absurd (omega arith)
read_fits (b ∷ bs) (pos n) h e = (omega arith, fits_plus (suc (length bs)) n (omega arith) (omega arith) ∙ lt-ltb n (10 ^ suc (length bs)) (rw (ap number_of e) at (number-below (b ∷ bs))))
read_fits (b ∷ bs) (negsuc n) h e = (omega arith, fits-minus (length bs) n (omega arith) ∙ lt-ltb (suc n) (10 ^ length bs) (signed_below (strip (b ∷ bs)) n (length bs) (strip-short (b ∷ bs)) e))

pub reads_same : (l : List ℕ) (z : ℤ) → length l ≤ 18 → column_of l ≡ Value z → column_of (written (length l) z) ≡ Value z
reads_same l z h e = let f = read_fits l z h e in reads-back (length l) f.0 h z f.1

-- ---- one column: it reads the same, is as well formed, and is in written form already
pub record Still (what : What) (w : ℕ) (before after : List ℕ) : Type 0 where
  pub reads : column_of after ≡ column_of before
  pub formed : is_formed what before ≡ true → is_formed what after ≡ true
  pub fixed : normal_bytes what w after ≡ after

either_way : (t : Bool) (a b : List ℕ) → b ≡ a → cond t a b ≡ a
either_way true a b e = refl
either_way false a b e = e

written_still : (w : ℕ) (before after : List ℕ) → length before ≡ w → w ≤ 18 → WrittenAnew w before after → (column_of after ≡ column_of before) × ((formed (column_of after) ≡ true) × (written w (integer (column_of after)) ≡ after))
written_still w before after l h (z, (p, q)) = (own ∙ sym p, (ap formed own, ap (λ (c : Column). written w (integer c)) own ∙ sym q))
  where
    own : column_of after ≡ Value z
    own = ap column_of q ∙ rw l at (reads_same before z (omega arith) p)

still : (what : What) (w : ℕ) (before after : List ℕ) → length before ≡ w → cond (is_integer what) (leb w 18) true ≡ true → ColumnNormal what w before after → Still what w before after
still text w before after l h e = record { reads = ap column_of e; formed = λ f. refl; fixed = refl }
still blank w before after l h e = record { reads = ap column_of e; formed = λ f. refl; fixed = refl }
still (integral rule) w before after l h e = let k = written_still w before after l (leb-true w 18 h) e in record { reads = k.0; formed = λ f. k.1.0; fixed = k.1.1 }
still integral_or_spaces w before after l h (inl (s, e)) = record { reads = ap column_of e; formed = λ f. ap (is_formed integral_or_spaces) e ∙ f; fixed = rw (ap spaces e ∙ s) }
still integral_or_spaces w before after l h (inr (s, e)) = let k = written_still w before after l (leb-true w 18 h) e in record { reads = k.0; formed = λ f. rw k.1.0 (or-true (spaces after)); fixed = either_way (spaces after) after _ k.1.1 }

-- ---- one record
abbrev pub EachStill : List Col → (before after : List ℕ) → Type 0
EachStill [] before after = Unit {0}
EachStill (c ∷ cs) before after = Still c.what c.width (bytes_of c before) (bytes_of c after) × EachStill cs before after

pub each_still : (at : ℕ) (cs : List Col) (r x : List ℕ) → EndToEnd at cs → length r ≡ 84 → all_narrow cs ≡ true → EachColumn cs r x → EachStill cs r x
each_still at [] r x e l h k = tt
each_still at (c ∷ cs) r x e l h k = (still c.what c.width (bytes_of c r) (bytes_of c x) (length-column c.start c.width r (omega (arith, within_84 (at + c.width) cs e.1, e.0))) p.0 k.0, each_still (at + c.width) cs r x e.1 l p.1 k.1)
  where
    p : (narrow c ≡ true) × (all_narrow cs ≡ true)
    p = and-true (narrow c) (all_narrow cs) h

module _ (r x : List ℕ) where
  find-reads : (name : String) (cs : List Col) → EachStill cs r x → column_of (bytes_of (find name cs) x) ≡ column_of (bytes_of (find name cs) r)
  unfolding find column
  find-reads name [] k = refl
  find-reads name (c ∷ cs) k = at_test (eqt name c.name) (find-reads name cs k.1)
    where
      at_test : (t : Bool) → column_of (bytes_of (find name cs) x) ≡ column_of (bytes_of (find name cs) r) → column_of (bytes_of (cond t c (find name cs)) x) ≡ column_of (bytes_of (cond t c (find name cs)) r)
      at_test true ih = k.0.reads
      at_test false ih = ih

  pub number_at-same : (cs : List Col) → EachStill cs r x → (name : String) → number_at cs name x ≡ number_at cs name r
  unfolding number_at
  number_at-same cs k name = ap number_of (find-reads name cs k)

  pub integer_at-same : (cs : List Col) → EachStill cs r x → (name : String) → integer_at cs name x ≡ integer_at cs name r
  unfolding integer_at
  integer_at-same cs k name = ap integer (find-reads name cs k)

  formed_still : (cs : List Col) → EachStill cs r x → all_formed cs r ≡ true → all_formed cs x ≡ true
  unfolding all_formed
  formed_still [] k f = refl
  formed_still (c ∷ cs) k f = let p = and-true (is_formed c.what (bytes_of c r)) (all_formed cs r) f in true_and _ _ (k.0.formed p.0) (formed_still cs k.1 p.1)

  inside-same : (what : What) (a b : List ℕ) → column_of b ≡ column_of a → is_inside what b ≡ is_inside what a
  inside-same text a b e = refl
  inside-same blank a b e = refl
  inside-same (integral rule) a b e = rw e
  inside-same integral_or_spaces a b e = refl

  inside_still : (cs : List Col) → EachStill cs r x → all_inside cs r ≡ true → all_inside cs x ≡ true
  unfolding all_inside
  inside_still [] k f = refl
  inside_still (c ∷ cs) k f = let p = and-true (is_inside c.what (bytes_of c r)) (all_inside cs r) f in true_and _ _ (inside-same c.what (bytes_of c r) (bytes_of c x) k.0.reads ∙ p.0) (inside_still cs k.1 p.1)

  pub sound_still : (cs : List Col) → EachStill cs r x → column_fault cs r ≡ 0 → column_fault cs x ≡ 0
  unfolding column_fault
  sound_still cs k f = let y = first_zero (unless (all_formed cs r) 5) (unless (all_inside cs r) 6) f in zero_first _ _ (zero_unless _ 5 (formed_still cs k (unless_zero _ _ y.0))) (zero_unless _ 6 (inside_still cs k (unless_zero _ _ y.1)))

  pub own_normal : (cs : List Col) → EachStill cs r x → normal_record cs x ≡ x
  unfolding normal_record
  own_normal [] k = refl
  own_normal (c ∷ cs) k = ap (λ (bs : List ℕ). normal_record cs (splice c.start c.width bs x)) k.0.fixed ∙ ap (normal_record cs) (splice-same c.start c.width x) ∙ own_normal cs k.1

-- a record in order and its normal form
pub normal_still : (cs : List Col) (r : List ℕ) → Table cs → length r ≡ 84 → column_fault cs r ≡ 0 → EachStill cs r (normal_record cs r)
normal_still cs r t l f = each_still 0 cs r (normal_record cs r) t.end l t.narrow (normalised cs r t l f).judged
