-- The row of a column, and what it tells. Assumes nothing.
use Rattle.std.specs.Prelude.{Option, Some, None, Ok, Err}
use Rattle.std.specs.List.{slice_get}
use Rattle.std.specs.Option.{ok_or}
use mathlib.Core.Path.{◌≡◌, refl, ap, ◌∙◌}
use mathlib.Core.List.{List, [], ◌∷◌, map}
use Prim.Native.Nat.{ℕ, zero, suc}
use native.Mathlib.Omega.{arith}
use denote.Ref.{Bor}
use lib.IntN.{ℤ}
use lib.ListN.{length, get_or, drop}
use Rattle.format.specs.Basics.{Answer, given, refused, Outcome}
use Rattle.format.specs.Answers.{written_answer}
use Rattle.format.specs.Program.{line_to}
use Rattle.format.specs.Layout.{Col, layouts}
use Rattle.format.specs.declared.Reason.{Reason}
use Rattle.format.specs.declared.Refusal.{Refusal}
use Rattle.format_words.specs.Words.{from_zero, entry, column_in, layout_column, described_of, described_answer, name_to}
use Rattle.words.specs.declared.tables.Row.{Row}
use Rattle.words.specs.Rows.{Tells, Told, row_in, told, told_of, described}

-- ---- a row by its number tells what the column of that number is

rows_tell : (rows : List Row) (layout : List Col) → map (λ (row : Row). told (Some row)) rows ≡ map (λ (c : Col). told_of (given c)) layout → (k : ℕ) → told (slice_get rows k) ≡ told_of (from_zero k layout)
unfolding described_of
rows_tell [] [] e k = refl
rows_tell [] (c ∷ cs) e k = let z : 0 ≡ suc (length (map (λ (c : Col). told_of (given c)) cs)) = ap length e in absurd (omega arith)
rows_tell (r ∷ rs) [] e k = let z : suc (length (map (λ (row : Row). told (Some row)) rs)) ≡ 0 = ap length e in absurd (omega arith)
rows_tell (r ∷ rs) (c ∷ cs) e zero = ap (λ (l : List Told). get_or l 0 (told None)) e
rows_tell (r ∷ rs) (c ∷ cs) e (suc k) = rows_tell rs cs (ap (λ (l : List Told). drop 1 l) e) k

module _ (layout column : ℕ) where
  pub in-table : (table : Bor (List Row)) (row : Option Row) → Tells (Some table) (entry layout layouts) → row ≡ row_in table.now column → told row ≡ told_of (layout_column layout column)
  unfolding layout_column entry described_of
  in-table table row t e = ap told e ∙ go (entry layout layouts) t
    where
      by : (l : List Col) → Tells (Some table) (given l) → (k : ℕ) → told (row_in table.now k) ≡ told_of (entry k l)
      by l t zero = refl
      by l t (suc k) = rows_tell table.now l t k

      go : (a : Answer (List Col)) → Tells (Some table) a → told (row_in table.now column) ≡ told_of (column_in a column)
      go (given l) t = by l t column
      go (refused n r) t = absurd t

  pub no_table : Tells None (entry layout layouts) → told None ≡ told_of (layout_column layout column)
  unfolding layout_column described_of
  no_table t = go (entry layout layouts) t
    where
      go : (a : Answer (List Col)) → Tells None a → told None ≡ told_of (column_in a column)
      go (given l) t = absurd t
      go (refused n r) t = rw (t.0, t.1) refl

-- ---- what is answered of a row, and of no row

-- 16 at record 0
abbrev pub number_wrong : Refusal
number_wrong = record { reason = Reason.Number; at = 0 }

pub no-row : (o : Option Row) (refusal r : Refusal) → Err r ≡ ok_or o refusal → (o ≡ None) × (r ≡ refusal)
no-row (Some x) refusal r e = cc
no-row None refusal r e = (refl, cc)

module _ (a : Answer Col) where
  pub column-given : (row : Row) (least greatest : ℤ) → told (Some row) ≡ told_of a → least ≡ row.3 → greatest ≡ row.4 → described_answer (Ok (record { start = row.1; width = row.2; letter = row.0; least = least; greatest = greatest })) ≡ described_of a
  unfolding described_answer
  column-given row least greatest e y z = rw (y, z) (ap (λ (t : Told). t.facts) e)

  pub column-refused : (r : Refusal) → told None ≡ told_of a → r ≡ number_wrong → described_answer (Err r) ≡ described_of a
  unfolding described_answer
  column-refused r e f = rw f (ap (λ (t : Told). t.facts) e)

module _ (out : List ℕ) where
  pub name-given : (a : Answer Col) (row : Row) (name : List ℕ) (o : Outcome ℕ) → told (Some row) ≡ told_of a → name ≡ row.5.now → o ≡ line_to name out → o ≡ name_to a out
  unfolding described_of name_to
  name-given (given c) row name o e f h = h ∙ ap (λ (l : List ℕ). line_to l out) (f ∙ ap (λ (t : Told). t.name) e)
  name-given (refused n r) row name o e f h = let x : given (described row) ≡ refused n r = ap (λ (t : Told). t.facts) e in cc

  pub name-refused : (a : Answer Col) (r : Refusal) → told None ≡ told_of a → r ≡ number_wrong → record { answer = written_answer (Err r); bytes = out } ≡ name_to a out
  unfolding described_of name_to written_answer
  name-refused (given c) r e f = let x = ap (λ (t : Told). t.facts) e in cc
  name-refused (refused n k) r e f = let x = ap (λ (t : Told). t.facts) e in let p : 16 ≡ n = cc in let q : 0 ≡ k = cc in rw (f, ← p, ← q) refl
