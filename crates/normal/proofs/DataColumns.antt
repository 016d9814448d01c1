-- Data records: their first columns in written form, as many as are used. Assumes nothing.
use mathlib.Core.Path.{◌≡◌, refl, ap, ◌∙◌}
use mathlib.Core.Bool.{true}
use mathlib.Core.List.{List, [], ◌∷◌}
use Prim.Native.Nat.{ℕ, zero, suc, ◌*◌, ◌≤◌}
use lib.ListN.{length, take}
use Rattle.format.specs.Layout.{Col, data_3d, data_2d, data_note, data_attribute, data_grid, data_net}
use Rattle.format.specs.Record.{used_in, data_columns}
use Rattle.format.specs.Normal.{normal_record}
use Rattle.format.proofs.Basics.{and-true, true_and}
use Rattle.layouts.specs.Tables.{table_column, table_of, tabled}
use Rattle.layouts.specs.declared.TableColumn.{TableColumn}
use Rattle.records.specs.declared.Held.{Held}
use Rattle.records.specs.declared.Held.TheVariants.{Nothing, Points3D, Points2D, Triangles, Heights, Notes, Attributes}
use Rattle.records.specs.Entry.{to_data, columns_used}
use Rattle.normal.specs.Rewriting.{lies, all_lie, rewritten_all, first_sevens}
use Rattle.normal.proofs.Layouts.{by_table, form_stays}

-- ---- the first columns of a data record: `rewrite_first`

table_first : (n : ℕ) (t : List Col) → table_of (take n t) ≡ take n (table_of t)
unfolding table_of
table_first zero t = refl
table_first (suc n) [] = refl
table_first (suc n) (c ∷ cs) = ap (λ (x : List TableColumn). table_column c ∷ x) (table_first n cs)

first_lie : (n : ℕ) (t : List Col) → all_lie t ≡ true → all_lie (take n t) ≡ true
first_lie zero t h = refl
first_lie (suc n) [] h = refl
first_lie (suc n) (c ∷ cs) h = let p = and-true (lies c) (all_lie cs) h in true_and _ _ p.0 (first_lie n cs p.1)

-- a layout whose columns lie like those of a grid
pub record LikeGrid (layout : List Col) : Type 0 where
  pub table_is : table_of layout ≡ table_of (tabled data_grid)
  pub lie : all_lie layout ≡ true

first-form : (layout : List Col) → LikeGrid layout → (n : ℕ) (l : List ℕ) → length l ≡ 84 → first_sevens n l ≡ normal_record (take n layout) l
unfolding first_sevens
first-form layout g n l whole = rw (← g.table_is, ← table_first n layout) (by_table (take n layout) l whole (first_lie n layout g.lie))

-- the table has twelve columns, so a first part of it is as long as asked
pub first_long : (n : ℕ) (table : List TableColumn) → n ≤ 12 → table ≡ table_of (tabled data_grid) → n ≤ length table
unfolding data_grid tabled table_of
first_long n table h e = rw e h

pub first-written : (l l' : List ℕ) (table : List TableColumn) (columns : ℕ) → table ≡ table_of (tabled data_grid) → l' ≡ rewritten_all l (take columns table) → l' ≡ first_sevens columns l
unfolding first_sevens
first-written l l' table columns t e = e ∙ rw t

like_3d : LikeGrid data_3d
unfolding data_3d data_grid tabled table_of
like_3d = record { table_is = refl; lie = refl }

like_2d : LikeGrid data_2d
unfolding data_2d data_grid tabled table_of
like_2d = record { table_is = refl; lie = refl }

like_net : LikeGrid data_net
unfolding data_net data_grid tabled table_of
like_net = record { table_is = refl; lie = refl }

like_grid : LikeGrid data_grid
unfolding data_grid tabled table_of
like_grid = record { table_is = refl; lie = refl }

-- ---- `data`

module _ (l l' : List ℕ) (held : Held) (behind : ℕ) where
  pub note-written : held ≡ Notes → l' ≡ normal_record data_note l → l' ≡ normal_record (data_columns (to_data held) behind) l
  unfolding data_columns
  note-written h e = e ∙ rw h

  pub columns_written : (columns : ℕ) → columns ≡ columns_used held behind → length l ≡ 84 → (held ≡ Notes → ⊥) → l' ≡ first_sevens columns l → l' ≡ normal_record (data_columns (to_data held) behind) l
  unfolding columns_used data_columns data_attribute normal_record
  columns_written columns u whole t e = e ∙ rw u (by_held held t)
    where
      by_held : (held : Held) → (held ≡ Notes → ⊥) → first_sevens (columns_used held behind) l ≡ normal_record (data_columns (to_data held) behind) l
      by_held Nothing t = first-form data_grid like_grid 0 l whole
      by_held (Points3D count) t = first-form data_3d like_3d (3 * used_in 4 count behind) l whole
      by_held (Points2D count) t = first-form data_2d like_2d (2 * used_in 6 count behind) l whole
      by_held (Triangles count) t = first-form data_net like_net (3 * used_in 4 (3 * count) behind) l whole
      by_held (Heights count) t = first-form data_grid like_grid (used_in 12 count behind) l whole
      by_held Notes t = absurd (t refl)
      by_held Attributes t = first-form data_grid like_grid 0 l whole ∙ form_stays data_attribute l refl
