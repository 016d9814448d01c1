-- What callers cite: a column of a layout says what its bytes say; a value that was read fits its width; a number that fits is
-- written, and reads as that number. Assumes nothing.
use mathlib.Core.Path.{◌≡◌, refl, ap, sym, ◌∙◌}
use mathlib.Core.Bool.{Bool, true, false, cond, ◌&&◌}
use mathlib.Core.List.{List}
use Prim.Native.Nat.{ℕ, ◌+◌, ◌^◌, ◌≤◌, ◌<◌}
use native.Mathlib.Nat.{pow-le-pow_right}
use native.Mathlib.Omega.{arith}
use borrow.Author.Tests.{le-leb, lt-ltb, leb-true}
use lib.Dec.{leb}
use lib.IntN.{ℤ, pos}
use lib.ListN.{length}
use mir.Syntax.{w64}
use mir.Val.{SFits, to_z, of_z}
use mir.ValLaws.{to_z-of_z}
use Rattle.format.specs.declared.Column.TheVariants.{Value, Malformed}
use Rattle.format.specs.Column.{column_of, fits, written}
use Rattle.format.specs.Layout.{column, splice}
use Rattle.format.proofs.Basics.{and-true}
use Rattle.format.proofs.Columns.{length-column, length-written, length-splice, column-own}
use Rattle.format.proofs.NormalReads.{read_fits}
use Rattle.format.proofs.ColumnFits.{fits_plus}
use Rattle.format.proofs.ColumnRoundTrip.{reads-back}
use Rattle.columns.specs.InRecord.{column_at, Rewritten, write_at}

-- ---- A COLUMN INSIDE A RECORD

module _ (l : List ℕ) (start width : ℕ) where
  -- a column of a layout, in a record that has room for it, says what its bytes say
  pub column-at-inside : start + width ≤ length l → width ≤ 18 → column_at l start width ≡ column_of (column start width l)
  unfolding column_at
  column-at-inside h k = simp (le-leb width 18 k, le-leb (start + width) (length l) h)

  module _ (z : ℤ) (e : column_at l start width ≡ Value z) where
    -- what has a value lies whole inside the record, and is at most 18 wide
    pub value_inside : (start + width ≤ length l) × (width ≤ 18)
    unfolding column_at
    value_inside = at_test (leb width 18 && leb (start + width) (length l)) refl e
      where
        at_test : (t : Bool) → leb width 18 && leb (start + width) (length l) ≡ t → cond t (column_of (column start width l)) Malformed ≡ Value z → (start + width ≤ length l) × (width ≤ 18)
        at_test true p e = let q = and-true (leb width 18) (leb (start + width) (length l)) p in (leb-true (start + width) (length l) q.1, leb-true width 18 q.0)
        at_test false p e = let x : ◌≡◌ {A = ℕ} 0 1 = cc in absurd (omega arith)

    value_read : column_of (column start width l) ≡ Value z
    value_read = sym (column-at-inside value_inside.0 value_inside.1) ∙ e

    value_width : length (column start width l) ≡ width
    value_width = length-column start width l value_inside.0

    -- so it can be written again in the same width
    pub value_fits : fits width z ≡ true
    value_fits = rw value_width at (read_fits (column start width l) z (rw value_width value_inside.1) value_read).1

  -- ---- a number written into a record

  module _ (z : ℤ) (room : start + width ≤ length l) (some : 1 ≤ width) (most : width ≤ 18) (fit : fits width z ≡ true) where
    pub write_at_done : write_at l start width z ≡ record { done = true; bytes = splice start width (written width z) l }
    unfolding write_at
    write_at_done = simp (le-leb 1 width some, le-leb width 18 most, fit, le-leb (start + width) (length l) room)

    -- the same of what `write_at` answered, r, and left, l'
    module _ (r : Bool) (l' : List ℕ) (e : record { done = r; bytes = l' } ≡ write_at l start width z) where
      pub write_at_true : r ≡ true
      write_at_true = ap (λ (x : Rewritten). x.done) (e ∙ write_at_done)

      pub write_at_bytes : l' ≡ splice start width (written width z) l
      write_at_bytes = ap (λ (x : Rewritten). x.bytes) (e ∙ write_at_done)

    length_spliced : length (splice start width (written width z) l) ≡ length l
    length_spliced = length-splice start width (written width z) l (length-written width z) room

    -- what was written reads as that number
    pub read_after_write : column_at (splice start width (written width z) l) start width ≡ Value z
    unfolding column_at
    read_after_write = simp (le-leb width 18 most, length_spliced, le-leb (start + width) (length l) room, column-own start width (written width z) l (length-written width z) room) (reads-back width some most z fit)

-- ---- A NUMBER OF AT LEAST 0, in a column of up to seven bytes

module _ (width n : ℕ) (most : width ≤ 7) (small : n < 10 ^ width) where
  pub number_fits : SFits w64 (pos n)
  number_fits = record { sfits = omega (arith, pow-le-pow_right {n = 10} (omega arith) {i = width} {j = 7} most) }

  pub number-written : (l l' : List ℕ) (start : ℕ) (done : Bool) → start + width ≤ length l → 1 ≤ width → record { done = done; bytes = l' } ≡ write_at l start width (to_z w64 (of_z w64 (pos n))) → l' ≡ splice start width (written width (pos n)) l
  number-written l l' start done room some e =
      write_at_bytes l start width (pos n) room some (omega arith) (fits_plus width n some (omega arith) ∙ lt-ltb n (10 ^ width) small) done l' (e ∙ ap (write_at l start width) (to_z-of_z w64 (pos n) number_fits))
