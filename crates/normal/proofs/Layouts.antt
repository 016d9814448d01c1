-- The normal form of a record by the table of its layout: text, which is in no table, and blanks stay as they are. Assumes nothing.
use mathlib.Core.Path.{◌≡◌, refl, ap, sym, ◌∙◌}
use mathlib.Core.Bool.{Bool, true, false, cond, not, ◌&&◌, false≢true}
use mathlib.Core.List.{List, [], ◌∷◌}
use Prim.Native.Nat.{ℕ, ◌+◌, ◌^◌, ◌≤◌}
use native.Mathlib.Nat.{pow-le-pow_right}
use native.Mathlib.Omega.{arith}
use borrow.Author.Tests.{lt-ltb, leb-true}
use lib.Dec.{leb}
use lib.IntN.{pos}
use lib.ListN.{length}
use Rattle.format.specs.declared.Column.{Column}
use Rattle.format.specs.declared.Column.TheVariants.{Value, MinusZero, Malformed}
use Rattle.format.specs.Column.{column_of, integer, fits, written}
use Rattle.format.specs.Layout.{What, text, blank, integral, integral_or_spaces, Col, column, splice, bytes_of, spaces}
use Rattle.format.specs.Normal.{normal_bytes, normal_record}
use Rattle.format.proofs.Basics.{and-true}
use Rattle.format.proofs.Columns.{length-written, length-column, length-splice}
use Rattle.format.proofs.ColumnFits.{fits_plus}
use Rattle.format.proofs.NormalRecords.{splice-same}
use Rattle.columns.specs.InRecord.{column_at, Rewritten}
use Rattle.columns.proofs.Laws.{column-at-inside, value_fits, write_at_done}
use Rattle.columns.proofs.Spaces.{spaces-at-inside}
use Rattle.layouts.specs.Tables.{is_tabled, tabled, is_numeric, table_form, table_of}
use Rattle.layouts.specs.declared.TableColumn.{TableColumn}
use Rattle.normal.specs.Rewriting.{lies_at, lies, all_lie, rewritten_at, rewritten_as, rewritten_all}

-- ---- where a column lies, as a record of facts

record Lies (start width : ℕ) : Type 0 where
  some : 1 ≤ width
  most : width ≤ 18
  ends : start + width ≤ 84

lies_is : (start width : ℕ) → leb 1 width && (leb width 18 && leb (start + width) 84) ≡ true → Lies start width
lies_is start width e =
    let p = and-true (leb 1 width) (leb width 18 && leb (start + width) 84) e in
    let q = and-true (leb width 18) (leb (start + width) 84) p.1 in
    record { some = leb-true 1 width p.0; most = leb-true width 18 q.0; ends = leb-true (start + width) 84 q.1 }

-- ---- one column

module _ (l : List ℕ) (whole : length l ≡ 84) (start width : ℕ) (at : Lies start width) where
  zero_fits : fits width (pos 0) ≡ true
  zero_fits = fits_plus width 0 at.some (omega (arith, at.most)) ∙ lt-ltb 0 (10 ^ width) (omega (arith, pow-le-pow_right {n = 10} (omega arith) {i = 0} {j = width} (omega arith)))

  -- what was read can be written again, 0 where nothing was
  fits_again : (c : Column) → column_at l start width ≡ c → fits width (integer c) ≡ true
  fits_again (Value z) e = value_fits l start width z e
  fits_again MinusZero e = zero_fits
  fits_again Malformed e = zero_fits

  room : start + width ≤ length l
  room = rw whole at.ends

  written-column : rewritten_at l start width ≡ splice start width (written width (integer (column_of (column start width l)))) l
  written-column =
      ap (λ (x : Rewritten). x.bytes) (write_at_done l start width (integer (column_at l start width)) room at.some at.most (fits_again (column_at l start width) refl))
      ∙ ap (λ (c : Column). splice start width (written width (integer c)) l) (column-at-inside l start width room at.most)

  length-put : (new : List ℕ) → length new ≡ width → length (splice start width new l) ≡ 84
  length-put new e = length-splice start width new l e room ∙ whole

module _ (l : List ℕ) (whole : length l ≡ 84) (start width : ℕ) where
  -- by its form
  by_form : (k : What) → lies_at k start width ≡ true → rewritten_as l start width (table_form k) ≡ splice start width (normal_bytes k width (column start width l)) l
  by_form text h = sym (splice-same start width l)
  by_form blank h = sym (splice-same start width l)
  by_form (integral rule) h = written-column l whole start width (lies_is start width h)
  by_form integral_or_spaces h = rw (spaces-at-inside l start width (room l whole start width (lies_is start width h))) (go (spaces (column start width l)))
    where
      go : (t : Bool) → cond t l (rewritten_at l start width) ≡ splice start width (cond t (column start width l) (written width (integer (column_of (column start width l))))) l
      go true = sym (splice-same start width l)
      go false = written-column l whole start width (lies_is start width h)

  length_one : (k : What) → lies_at k start width ≡ true → length (splice start width (normal_bytes k width (column start width l)) l) ≡ 84
  length_one text h = rw (splice-same start width l) whole
  length_one blank h = rw (splice-same start width l) whole
  length_one (integral rule) h = length-put l whole start width (lies_is start width h) _ (length-written width (integer (column_of (column start width l))))
  length_one integral_or_spaces h = length-put l whole start width (lies_is start width h) _ (go (spaces (column start width l)))
    where
      go : (t : Bool) → length (cond t (column start width l) (written width (integer (column_of (column start width l))))) ≡ width
      go true = length-column start width l (room l whole start width (lies_is start width h))
      go false = length-written width (integer (column_of (column start width l)))

-- ---- the columns of a table

pub by_table : (t : List Col) (l : List ℕ) → length l ≡ 84 → all_lie t ≡ true → rewritten_all l (table_of t) ≡ normal_record t l
unfolding rewritten_all table_of normal_record
by_table [] l whole h = refl
by_table (c ∷ cs) l whole h =
    let p = and-true (lies c) (all_lie cs) h in
    ap (λ (x : List ℕ). rewritten_all x (table_of cs)) (by_form l whole c.start c.width c.what p.0)
    ∙ by_table cs (splice c.start c.width (normal_bytes c.what c.width (bytes_of c l)) l) (length_one l whole c.start c.width c.what p.0) p.1

-- ---- a layout

text_stays : (t : List Col) (l : List ℕ) → normal_record t l ≡ normal_record (tabled t) l
unfolding normal_record tabled
text_stays [] l = refl
text_stays (c ∷ cs) l = go c.what refl (text_stays cs)
  where
    go : (k : What) → c.what ≡ k → ((x : List ℕ) → normal_record cs x ≡ normal_record (tabled cs) x) → normal_record cs (splice c.start c.width (normal_bytes k c.width (bytes_of c l)) l) ≡ normal_record (cond (is_tabled k) (c ∷ tabled cs) (tabled cs)) l
    go text e ih = rw (splice-same c.start c.width l) (ih l)
    go blank e ih = rw e (ih _)
    go (integral rule) e ih = rw e (ih _)
    go integral_or_spaces e ih = rw e (ih _)

pub record-written : (layout : List Col) (l l' : List ℕ) (table : List TableColumn) → length l ≡ 84 → table ≡ table_of (tabled layout) → l' ≡ rewritten_all l table → all_lie (tabled layout) ≡ true → l' ≡ normal_record layout l
record-written layout l l' table whole t e lie = e ∙ rw t (by_table (tabled layout) l whole lie) ∙ sym (text_stays layout l)

-- a layout of text and blanks alone
abbrev pub no_numbers : List Col → Bool
no_numbers [] = true
no_numbers (c ∷ cs) = not (is_numeric c.what) && no_numbers cs

pub form_stays : (table : List Col) (l : List ℕ) → no_numbers table ≡ true → l ≡ normal_record table l
unfolding normal_record
form_stays [] l h = refl
form_stays (c ∷ cs) l h = let p = and-true (not (is_numeric c.what)) (no_numbers cs) h in form_stays cs l p.1 ∙ ap (normal_record cs) (go c.what p.0)
  where
    go : (k : What) → not (is_numeric k) ≡ true → l ≡ splice c.start c.width (normal_bytes k c.width (bytes_of c l)) l
    go text e = sym (splice-same c.start c.width l)
    go blank e = sym (splice-same c.start c.width l)
    go (integral rule) e = absurd (false≢true e)
    go integral_or_spaces e = absurd (false≢true e)
