-- The tables as the code has them, and what a row tells. Assumes nothing.
use Rattle.std.specs.Prelude.{◌≡◌, map, List, [], ℕ, zero, suc, Option, Some, None}
use Rattle.std.specs.List.{slice_get}
use denote.Ref.{Bor}
use Rattle.format.specs.Basics.{Answer, given, refused}
use Rattle.format.specs.Text.{bytes}
use Rattle.format.specs.Layout.{Col}
use Rattle.format_words.specs.Words.{described_of}
use Rattle.format_words.specs.declared.Described.{Described}
use Rattle.words.specs.declared.tables.Row.{Row}

-- the row of a column in a table, numbered from 1
abbrev pub row_in : List Row → (column : ℕ) → Option Row
row_in table zero = None
row_in table (suc k) = slice_get table k

-- what a row says of its column
abbrev pub described : Row → Described
described row = record { start = row.1; width = row.2; letter = row.0; least = row.3; greatest = row.4 }

-- all that a row tells, and what it must tell of a column
pub record Told : Type 0 where
  pub facts : Answer Described
  pub name : List ℕ

abbrev pub told : Option Row → Told
told (Some row) = record { facts = given (described row); name = row.5.now }
told None = record { facts = refused 16 0; name = [] }

abbrev pub name_bytes : Answer Col → List ℕ
name_bytes (given c) = bytes c.name
name_bytes (refused n r) = []

abbrev pub told_of : Answer Col → Told
told_of a = record { facts = described_of a; name = name_bytes a }

-- a table tells row by row what the columns of its layout are; no layout has no table
abbrev pub Tells : Option (Bor (List Row)) → Answer (List Col) → Type 0
Tells (Some table) (given layout) = map (λ (row : Row). told (Some row)) table.now ≡ map (λ (c : Col). told_of (given c)) layout
Tells (Some table) (refused n r) = ⊥
Tells None (given layout) = ⊥
Tells None (refused n r) = (n ≡ 16) × (r ≡ 0)
