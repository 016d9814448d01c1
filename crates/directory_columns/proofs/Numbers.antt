-- The functions in the code's own words, and what callers cite of `number_is` and `lists_packed`. Assumes nothing.
use mathlib.Core.Path.{◌≡◌, refl, ap, sym, ◌∙◌}
use mathlib.Core.Bool.{Bool, true, false, not, ◌&&◌, and-true, and-false, and-eq-true_iff}
use mathlib.Core.List.{List, [], ◌∷◌}
use Rattle.std.proofs.Common.{min}
use Prim.Native.Nat.{ℕ, suc, ◌+◌, ◌*◌, ◌/◌, ◌%◌, ◌≤◌, ◌<◌}
use native.Mathlib.Numerals.{add-one}
use native.Mathlib.Omega.{arith}
use borrow.Author.Tests.{lt-leb, leb-true, ltb-true, ltb-false, not-true, not-false}
use lib.Dec.{eqb, ltb, leb, leb-suc-suc}
use lib.IntN.{pos}
use lib.ListN.{length, get_or}
use mir.Syntax.{w64}
use mir.Val.{Fits}
use Rattle.format.specs.Basics.{round_up}
use Rattle.format.specs.Text.{same}
use Rattle.format.specs.Column.{written}
use Rattle.format.specs.Layout.{column}
use Rattle.format.proofs.Columns.{length-column}
use Rattle.format.proofs.ColumnFits.{fits_plus}
use Rattle.columns.specs.InRecord.{is_written_at}
use Rattle.format_directory.specs.declared.Edition.{Edition}
use Rattle.format_directory.specs.declared.Edition.TheVariants.{One, Two}
use Rattle.format_directory.specs.Directory.{per_layer, per_record}
use Rattle.files.specs.declared.Stride.TheVariants.{Plain}
use Rattle.files.specs.Records.{records_of}
use Rattle.files.proofs.Records.{no_record, record_wide}
use Rattle.directory_columns.specs.declared.LayerNumbers.{LayerNumbers}
use Rattle.directory_columns.specs.declared.PackedNumbers.{PackedNumbers}
use Rattle.directory_columns.specs.PackedColumns.{unpacked, Packs, packed_number}
use Rattle.directory_columns.proofs.PackedColumns.{packed_decides, number-bytes}
use Rattle.directory_columns.specs.Numbers.{has_column, column_is, columns_are, number_is, numbers_are, listed_of, lists_layer, packed_of, lists_packed}

-- ---- `per_record`, `rows`
pub some_each : (e : Edition) (each : ℕ) → each ≡ per_record e → 0 < each
some_each One each q = omega (arith, q)
some_each Two each q = omega (arith, q)

pub rows_are : (e : Edition) (each layers : ℕ) → each ≡ per_record e → layers / each + min 1 (layers % each) ≡ round_up layers (per_record e)
rows_are One each layers q = rw q (omega arith)
rows_are Two each layers q = rw q (omega arith)

-- what is known of a column that is there
pub record Column (r : List ℕ) (k : ℕ) : Type 0 where
  pub low : k < 11
  pub whole : 2 + 7 * k + 7 ≤ length r

column_of_lem : (r : List ℕ) (k : ℕ) → has_column r k ≡ true → Column r k
unfolding has_column
column_of_lem r k h =
    let both = (and-eq-true_iff (ltb k 11) (leb (2 + 7 * k + 7) (length r))).0 h in
    record { low = ltb-true k 11 both.0; whole = leb-true (2 + 7 * k + 7) (length r) both.1 }

module _ (r : List ℕ) (k : ℕ) (g : Column r k) where
  pub width_fits : Fits w64 (7 * k)
  width_fits = record { fits = omega (arith, g.low) }

  pub start_fits : Fits w64 (2 + 7 * k)
  start_fits = record { fits = omega (arith, g.low) }

-- the same in the code's own words
module _ (r : List ℕ) (k : ℕ) (t : Bool) (e : t ≡ has_column r k) (h : t ≡ true) where
  there : Column r k
  there = column_of_lem r k (sym e ∙ h)

  pub there-width : Fits w64 (7 * k)
  there-width = width_fits r k there

  pub there-start : Fits w64 (2 + 7 * k)
  there-start = start_fits r k there

  pub there-whole : 2 + 7 * k + 7 ≤ length r
  there-whole = there.whole

-- ---- `column_is`
module _ (r : List ℕ) (k p : ℕ) where
  pub column_lacks : (t : Bool) → t ≡ has_column r k → t ≡ false → t ≡ column_is r k p
  unfolding column_is
  column_lacks t e h = rw (← e, h)

  pub compared : (t : Bool) (q : ℕ) → t ≡ has_column r k → t ≡ true → Packs (column (2 + 7 * k) 7 r) q → eqb q p ≡ column_is r k p
  unfolding column_is
  compared t q e h c = packed_decides (column (2 + 7 * k) 7 r) p q (length-column (2 + 7 * k) 7 r (there-whole r k t e h)) c ∙ sym (rw (← e, h))

  column-has : column_is r k p ≡ true → has_column r k ≡ true
  unfolding column_is
  column-has h = ((and-eq-true_iff (has_column r k) (ltb p 72057594037927936 && same (column (2 + 7 * k) 7 r) (unpacked 7 p))).0 h).0

-- ---- `number_is`
module _ (r : List ℕ) (k n : ℕ) where
  pub number-column : column_is r k (packed_number n) ≡ number_is r k n
  unfolding column_is number_is has_column is_written_at
  number-column =
      ap (λ (t : Bool). has_column r k && t) (number-bytes (column (2 + 7 * k) 7 r) n)
      ∙ sym (ap (λ (t : Bool). ltb k 11 && ((t && leb (2 + 7 * k + 7) (length r)) && same (column (2 + 7 * k) 7 r) (written 7 (pos n)))) (fits_plus 7 n (omega arith) (omega arith) ∙ leb-suc-suc n 9999999) ∙ in_order (ltb k 11) (leb n 9999999) (leb (2 + 7 * k + 7) (length r)) (same (column (2 + 7 * k) 7 r) (written 7 (pos n))))
    where
      in_order : (a m l s : Bool) → a && ((m && l) && s) ≡ (a && l) && (m && s)
      in_order true true true s = refl
      in_order true true false s = refl
      in_order true false true s = refl
      in_order true false false s = refl
      in_order false m l s = refl

  pub by_column : (t : Bool) (p : ℕ) → p ≡ packed_number n → t ≡ column_is r k p → t ≡ number_is r k n
  by_column t p e h = h ∙ ap (column_is r k) e ∙ number-column

-- ---- `numbers_are`
module _ (r : List ℕ) (k : ℕ) (n : PackedNumbers) (t : Bool) (t-is : t ≡ column_is r k n.header) where
  pub header-differs : (e : Edition) → not t ≡ true → false ≡ columns_are r k (packed_of e n)
  unfolding packed_of
  header-differs One h = rw (← t-is, not-true t h)
  header-differs Two h = rw (← t-is, not-true t h)

  module _ (h : not t ≡ false) where
    low : k < 11
    low = (column_of_lem r k (column-has r k n.header (sym t-is ∙ not-false t h))).low

    pub total-fits : Fits w64 (k + 1)
    total-fits = record { fits = omega (arith, low) }

    pub last_fits : Fits w64 (k + 2)
    last_fits = record { fits = omega (arith, low) }

    pub header-alone : (e : Edition) → e ≡ One → true ≡ columns_are r k (packed_of e n)
    unfolding packed_of
    header-alone e is = rw (is, ← t-is, not-false t h)

    module _ (e : Edition) (is : e ≡ Two) (u : Bool) (u-is : u ≡ number_is r (k + 1) n.total) where
      total_is : u ≡ column_is r (suc k) (packed_number n.total)
      total_is = u-is ∙ sym (number-column r (k + 1) n.total) ∙ ap (λ (m : ℕ). column_is r m (packed_number n.total)) (add-one k)

      pub total-differs : u ≡ false → u ≡ columns_are r k (packed_of e n)
      unfolding packed_of
      total-differs l = rw (is, ← t-is, not-false t h, ← total_is, l)

      pub last_decides : u ≡ true → (v : Bool) → v ≡ column_is r (k + 2) n.last → v ≡ columns_are r k (packed_of e n)
      unfolding packed_of
      last_decides l v q = q ∙ sym (rw (is, ← t-is, not-false t h, ← total_is, l) (and-true (column_is r (suc (suc k)) n.last) ∙ ap (λ (m : ℕ). column_is r m n.last) (let x : suc (suc k) ≡ k + 2 = omega arith in x)))

-- ---- `is_listed`
pub place_small : (e : Edition) (own each layer : ℕ) → own ≡ per_layer e → each ≡ per_record e → Fits w64 (own * (layer % each))
place_small One own each layer q p = rw (q, p) (record { fits = omega arith })
place_small Two own each layer q p = rw (q, p) (record { fits = omega arith })

pub listed_is : (e : Edition) (directory : List (List ℕ)) (own each layer : ℕ) (ps record₁ : List ℕ) (t : Bool) → each ≡ per_record e → own ≡ per_layer e → record₁ ≡ get_or directory (layer / each) [] → t ≡ columns_are record₁ (own * (layer % each)) ps → t ≡ lists_packed e directory layer ps
unfolding lists_packed
listed_is e directory own each layer ps record₁ t q o p h = h ∙ rw (p, q, o)

-- by way of its bytes
module _ (e : Edition) (directory : List (List ℕ)) (layer : ℕ) (n : LayerNumbers) (p : PackedNumbers) where
  pub lists-packed : p.header ≡ packed_number n.header → p.total ≡ n.total → p.last ≡ packed_number n.last → lists_packed e directory layer (packed_of e p) ≡ lists_layer e directory layer (listed_of e n)
  unfolding lists_packed lists_layer packed_of listed_of
  lists-packed h t l = go e
    where
      go : (x : Edition) → columns_are (get_or directory (layer / per_record x) []) (per_layer x * (layer % per_record x)) (packed_of x p) ≡ numbers_are (get_or directory (layer / per_record x) []) (per_layer x * (layer % per_record x)) (listed_of x n)
      go One = rw (h, number-column (get_or directory (layer / 11) []) (1 * (layer % 11)) n.header)
      go Two = rw (h, t, l, number-column (get_or directory (layer / 3) []) (3 * (layer % 3)) n.header, number-column (get_or directory (layer / 3) []) (suc (3 * (layer % 3))) n.total, number-column (get_or directory (layer / 3) []) (suc (suc (3 * (layer % 3)))) n.last)

-- where there is no record, nothing is listed
no_columns : (k p : ℕ) → column_is [] k p ≡ false
unfolding column_is has_column
no_columns k p = ap (λ (t : Bool). (ltb k 11 && t) && (ltb p 72057594037927936 && same (column (2 + 7 * k) 7 []) (unpacked 7 p))) (lt-leb (2 + 7 * k + 7) 0 (omega arith)) ∙ ap (λ (t : Bool). t && (ltb p 72057594037927936 && same (column (2 + 7 * k) 7 []) (unpacked 7 p))) (and-false (ltb k 11))

nothing_is : (k n : ℕ) → number_is [] k n ≡ false
nothing_is k n = sym (number-column [] k n) ∙ no_columns k (packed_number n)

pub nothing-lists : (e : Edition) (layer : ℕ) (n : LayerNumbers) → lists_layer e [] layer (listed_of e n) ≡ false
unfolding lists_layer listed_of
nothing-lists One layer n = ap (λ (t : Bool). t && true) (nothing_is (1 * (layer % 11)) n.header)
nothing-lists Two layer n = ap (λ (t : Bool). t && numbers_are [] (suc (3 * (layer % 3))) (n.total ∷ n.last ∷ [])) (nothing_is (3 * (layer % 3)) n.header)

-- what is no record of 84 bytes is none of the directory's
nothing-packed : (e : Edition) (k : ℕ) (p : PackedNumbers) → columns_are [] k (packed_of e p) ≡ false
unfolding packed_of
nothing-packed One k p = ap (λ (t : Bool). t && true) (no_columns k p.header)
nothing-packed Two k p = ap (λ (t : Bool). t && columns_are [] (suc k) (packed_number p.total ∷ p.last ∷ [])) (no_columns k p.header)

pub no_record_lists : (e : Edition) (directory : List ℕ) (each layer : ℕ) (p : PackedNumbers) (record₁ : List ℕ) → each ≡ per_record e → record₁ ≡ get_or (records_of Plain directory) (layer / each) [] → (length record₁ ≡ 84 → ⊥) → false ≡ lists_packed e (records_of Plain directory) layer (packed_of e p)
unfolding lists_packed
no_record_lists e directory each layer p record₁ q r ne = sym (ap (λ (x : List ℕ). columns_are x (per_layer e * (layer % per_record e)) (packed_of e p)) (ap (λ (k : ℕ). get_or (records_of Plain directory) (layer / k) []) (sym q) ∙ sym none) ∙ nothing-packed e (per_layer e * (layer % per_record e)) p)
  where
    past : (t : Bool) → ltb (layer / each) (length (records_of Plain directory)) ≡ t → length (records_of Plain directory) ≤ layer / each
    past true l = absurd (ne (ap length r ∙ record_wide Plain directory (layer / each) (ltb-true (layer / each) (length (records_of Plain directory)) l)))
    past false l = ltb-false (layer / each) (length (records_of Plain directory)) l

    none : [] ≡ get_or (records_of Plain directory) (layer / each) []
    none = no_record Plain directory (length (records_of Plain directory)) (layer / each) refl (past (ltb (layer / each) (length (records_of Plain directory))) refl)
