-- No byte of a record is in doubt by the letters of its layout exactly where the record can be told at once; and what callers make of that. Assumes nothing.
use mathlib.Core.Path.{◌≡◌, refl, sym}
use mathlib.Core.Bool.{Bool, true, false, cond, ◌&&◌, false≢true}
use mathlib.Core.List.{List, [], ◌∷◌}
use Prim.Native.Nat.{ℕ, zero, suc, ◌+◌, ◌≤◌}
use native.Mathlib.Nat.{zero-add, add-suc}
use native.Mathlib.Omega.{arith}
use borrow.Author.Tests.{leb-true, eqb-true, eqb-false, ne_eqb}
use lib.Dec.{eqb, leb}
use lib.ListN.{length, drop, get_or, length-drop}
use lib.Seq.{drop-drop, get_or-drop}
use Rattle.format.specs.Layout.{Rule, any_sign, at_least, range, within, one_of, What, text, blank, integral, integral_or_spaces, Col, column, bytes_of, is_formed, is_inside, all_formed, all_inside}
use Rattle.format.proofs.Basics.{and-true, true_and}
use Rattle.form_bytes.specs.Letters.{letters_for, doubts_in}
use Rattle.form_bytes.specs.Told.{looser_rule, looser, no_zero_after_minus, told_at_once, has_letters}
use Rattle.form_bytes.proofs.Doubts.{doubts_append}
use Rattle.form_bytes.proofs.Rules.{length_for}
use Rattle.form_bytes.proofs.AtOnce.{at_once}
use Rattle.form_records.specs.LaidOut.{letters_of, laid_out}
use Rattle.form_records.specs.Sure.{all_told, sure}

-- ---- exactly, by the letters

-- a sum is 0 where both are
pub zero_sum : (x y : ℕ) → eqb (x + y) 0 ≡ eqb x 0 && eqb y 0
zero_sum x y = go (eqb x 0) refl
  where
    go : (t : Bool) → eqb x 0 ≡ t → eqb (x + y) 0 ≡ t && eqb y 0
    go true e = rw (eqb-true x 0 e, zero-add y)
    go false e =
        let n : x ≡ 0 → ⊥ = eqb-false x 0 e in
        ne_eqb (x + y) 0 (λ (p : x + y ≡ 0). n (omega arith))

record Laid (at : ℕ) (c : Col) (cs : List Col) : Type 0 where
  start_is : c.start ≡ at
  has_byte : 1 ≤ c.width
  has-letters : has_letters c.what c.width ≡ true
  behind : laid_out (at + c.width) cs ≡ true

laid : (at : ℕ) (c : Col) (cs : List Col) → laid_out at (c ∷ cs) ≡ true → Laid at c cs
laid at c cs h =
    let a = and-true (eqb c.start at) ((leb 1 c.width && has_letters c.what c.width) && laid_out (at + c.width) cs) h in
    let b = and-true (leb 1 c.width && has_letters c.what c.width) (laid_out (at + c.width) cs) a.1 in
    let d = and-true (leb 1 c.width) (has_letters c.what c.width) b.0 in
    record { start_is = eqb-true c.start at a.0; has_byte = leb-true 1 c.width d.0; has-letters = d.1; behind = b.1 }

ends_by_84 : (at : ℕ) (cs : List Col) → laid_out at cs ≡ true → at ≤ 84
ends_by_84 at [] h = omega (arith, eqb-true at 84 h)
ends_by_84 at (c ∷ cs) h =
    let a = laid at c cs h in
    omega (arith, ends_by_84 (at + c.width) cs a.behind)

-- ---- exactly

module _ (r : List ℕ) (whole : length r ≡ 84) where
  -- the byte before a column
  abbrev byte_before : ℕ → ℕ
  byte_before at = get_or (32 ∷ r) at 0

  next-before : (w at p : ℕ) → 1 ≤ w → get_or (p ∷ drop at r) w 0 ≡ byte_before (at + w)
  next-before zero at p h = absurd (omega arith)
  next-before (suc v) at p h = rw (add-suc at v) (get_or-drop at r v 0)

  columns_told : (cs : List Col) (at : ℕ) → laid_out at cs ≡ true → eqb (doubts_in (letters_of cs) (byte_before at) (drop at r)) 0 ≡ all_told cs r
  unfolding letters_of doubts_in all_told column
  columns_told [] at h = refl
  columns_told (c ∷ cs) at h =
      let a = laid at c cs h in
      let w = c.width in
      let k = letters_for c.what w in
      let n : at + w ≤ 84 = ends_by_84 (at + w) cs a.behind in
      let f : w ≤ length (drop at r) = rw (length-drop at r) (omega arith) in
      let s = doubts_append k (letters_of cs) (byte_before at) (drop at r) (rw (length_for c.what w) f) in
      let t = at_once c.what w (byte_before at) (drop at r) a.has-letters a.has_byte f in
      let i = columns_told cs (at + w) a.behind in
      rw (s, length_for c.what w, next-before w at (byte_before at) a.has_byte, drop-drop w at r, zero_sum, t, i, a.start_is)

pub doubtless : (layout : List Col) → laid_out 0 layout ≡ true → (r : List ℕ) → length r ≡ 84 → eqb (doubts_in (letters_of layout) 32 r) 0 ≡ sure layout r
unfolding sure
doubtless layout h r whole = rw whole (columns_told r whole layout 0 h)

pub no_record : (layout : List Col) (r : List ℕ) → (length r ≡ 84 → ⊥) → false ≡ sure layout r
unfolding sure
no_record layout r h = rw (ne_eqb (length r) 84 h)

-- ---- what callers cite: a record told at once is without fault, but for those columns of which more is asked: a number above 0, or one of a list

abbrev pub rule_asks_more : Rule → Bool
rule_asks_more any_sign = false
rule_asks_more (at_least zero) = false
rule_asks_more (at_least (suc n)) = true
rule_asks_more (range n m) = false
rule_asks_more (within n) = false
rule_asks_more (one_of ns) = true

abbrev pub asks_more : What → Bool
asks_more text = false
asks_more blank = false
asks_more (integral rule) = rule_asks_more rule
asks_more integral_or_spaces = false

unfoldable pub asking_more : List Col → List Col
asking_more [] = []
asking_more (c ∷ cs) = cond (asks_more c.what) (c ∷ asking_more cs) (asking_more cs)

same_rule : (rule : Rule) → rule_asks_more rule ≡ false → looser_rule rule ≡ rule
same_rule any_sign e = refl
same_rule (at_least zero) e = refl
same_rule (at_least (suc n)) e = absurd (false≢true (sym e))
same_rule (range n m) e = refl
same_rule (within n) e = refl
same_rule (one_of ns) e = absurd (false≢true (sym e))

same : (k : What) → asks_more k ≡ false → looser k ≡ k
same text e = refl
same blank e = refl
same (integral rule) e = rw (same_rule rule e)
same integral_or_spaces e = refl

-- the three parts of a column told at once
parts : (k : What) (p : ℕ) (bs : List ℕ) → told_at_once k p bs ≡ true → (is_formed k bs ≡ true) × (is_inside (looser k) bs ≡ true)
parts k p bs h =
    let a = and-true (is_formed k bs) (is_inside (looser k) bs && no_zero_after_minus k p bs) h in
    (a.0, (and-true (is_inside (looser k) bs) (no_zero_after_minus k p bs) a.1).0)

module _ (r : List ℕ) where
  told-formed : (cs : List Col) → all_told cs r ≡ true → all_formed cs r ≡ true
  unfolding all_told all_formed
  told-formed [] h = refl
  told-formed (c ∷ cs) h =
      let a = and-true (told_at_once c.what (get_or (32 ∷ r) c.start 0) (bytes_of c r)) (all_told cs r) h in
      true_and (is_formed c.what (bytes_of c r)) (all_formed cs r) (parts c.what _ (bytes_of c r) a.0).0 (told-formed cs a.1)

  told-inside : (cs : List Col) → all_told cs r ≡ true → all_inside cs r ≡ all_inside (asking_more cs) r
  unfolding all_told all_inside asking_more
  told-inside [] h = refl
  told-inside (c ∷ cs) h =
      let a = and-true (told_at_once c.what (get_or (32 ∷ r) c.start 0) (bytes_of c r)) (all_told cs r) h in
      go (asks_more c.what) refl (parts c.what _ (bytes_of c r) a.0).1 (told-inside cs a.1)
    where
      go : (m : Bool) → asks_more c.what ≡ m → is_inside (looser c.what) (bytes_of c r) ≡ true → all_inside cs r ≡ all_inside (asking_more cs) r → is_inside c.what (bytes_of c r) && all_inside cs r ≡ all_inside (cond m (c ∷ asking_more cs) (asking_more cs)) r
      go true em f i = rw i
      go false em f i = rw (rw (same c.what em) at f, i)

module _ (layout : List Col) (r : List ℕ) (h : sure layout r ≡ true) where
  both : (eqb (length r) 84 ≡ true) × (all_told layout r ≡ true)
  unfolding sure
  both = and-true (eqb (length r) 84) (all_told layout r) h

  pub sure_record : length r ≡ 84
  sure_record = eqb-true (length r) 84 both.0

  pub sure-formed : all_formed layout r ≡ true
  sure-formed = told-formed r layout both.1

  pub sure-inside : all_inside layout r ≡ all_inside (asking_more layout) r
  sure-inside = told-inside r layout both.1
