-- A buffer as long as the header's number for it holds every text: no call is refused there for want of room. Assumes nothing.
use mathlib.Core.Path.{◌≡◌, refl, ap}
use mathlib.Core.Bool.{Bool, true, false, cond, ◌&&◌}
use mathlib.Core.List.{List, [], ◌∷◌}
use Prim.Native.Nat.{ℕ, zero, suc, ◌≤◌}
use Prim.Native.String.{String}
use native.Mathlib.Omega.{arith}
use borrow.Author.Tests.{le-leb, leb-true}
use lib.Dec.{leb, eqb}
use lib.ListN.{length}
use Rattle.format.specs.Basics.{Answer, given, refused}
use Rattle.format.specs.Text.{bytes}
use Rattle.format.specs.Layout.{Col, every, layouts, index_a, index_b, index_c, sheet_a, sheet_b, sheet_c, sheet_d, sheet_e, sheet_f, header, element, grid_header, net_header, data_3d, data_2d, data_note, data_attribute, data_grid, data_net}
use Rattle.format.specs.Program.{line_to, report_to}
use Rattle.format.proofs.Basics.{and-true}
use Rattle.report.proofs.Laws.{always_room}
use Rattle.format_words.specs.Words.{from_zero, entry, refusals, edition_words, refusal_words, text_to, refusal_to, column_in, layout_column, name_of, name_to}

-- a text that so many bytes hold, or a refusal of another kind
data Held (most : ℕ) : Answer String → Type 0 where
  held : {t : String} → length (bytes t) ≤ most → Held most (given t)
  other : Held most (refused 16 0)

abbrev number_as : Answer ℕ → ℕ
number_as (given n) = 0
number_as (refused n r) = n

text_held : {most : ℕ} {a : Answer String} → Held most a → (out : List ℕ) → most ≤ length out → (text_to a out).answer ≡ refused 15 0 → ⊥
unfolding line_to
text_held (held {t} h) out room e = let room' : length (bytes t) ≤ length out = omega arith in let z : ◌≡◌ {A = ℕ} 0 15 = ap number_as (rw (le-leb (length (bytes t)) (length out) room') at e) in omega arith
text_held other out room e = let z : ◌≡◌ {A = ℕ} 16 15 = ap number_as e in omega arith

-- ---- the words of the refusals
abbrev all_held : (most : ℕ) → List String → Bool
all_held most [] = true
all_held most (t ∷ ts) = leb (length (bytes t)) most && all_held most ts

text_at : (most : ℕ) (ts : List String) → all_held most ts ≡ true → (n : ℕ) → Held most (from_zero n ts)
text_at most [] e n = other
text_at most (t ∷ ts) e zero = held (leb-true (length (bytes t)) most (and-true (leb (length (bytes t)) most) (all_held most ts) e).0)
text_at most (t ∷ ts) e (suc n) = text_at most ts (and-true (leb (length (bytes t)) most) (all_held most ts) e).1 n

refusals_held : all_held 90 refusals ≡ true
unfolding refusals bytes
refusals_held = refl

listed_at : (number : ℕ) → Held 90 (entry number refusals)
unfolding entry
listed_at zero = other
listed_at (suc n) = text_at 90 refusals refusals_held n

edition_held : leb (length (bytes edition_words)) 90 ≡ true
unfolding edition_words bytes
edition_held = refl

refusal_at : (number : ℕ) → Held 90 (refusal_words number)
unfolding refusal_words
refusal_at number = go (eqb number 27)
  where
    go : (t : Bool) → Held 90 (cond t (given edition_words) (entry number refusals))
    go true = held (leb-true (length (bytes edition_words)) 90 edition_held)
    go false = listed_at number

pub refusal_has_room : (number : ℕ) (out : List ℕ) → 90 ≤ length out → (refusal_to number out).answer ≡ refused 15 0 → ⊥
unfolding refusal_to
refusal_has_room number out = text_held (refusal_at number) out

-- ---- the names of the columns
abbrev names_held : List Col → Bool
names_held [] = true
names_held (c ∷ cs) = leb (length (bytes c.name)) 18 && names_held cs

name-at : (cs : List Col) → names_held cs ≡ true → (n : ℕ) → Held 18 (name_of (from_zero n cs))
name-at [] e n = other
name-at (c ∷ cs) e zero = held (leb-true (length (bytes c.name)) 18 (and-true (leb (length (bytes c.name)) 18) (names_held cs) e).0)
name-at (c ∷ cs) e (suc n) = name-at cs (and-true (leb (length (bytes c.name)) 18) (names_held cs) e).1 n

name_of_lem : (cs : List Col) → names_held cs ≡ true → (column : ℕ) → Held 18 (name_of (entry column cs))
unfolding entry
name_of_lem cs e zero = other
name_of_lem cs e (suc n) = name-at cs e n

name_in : (ls : List (List Col)) → every names_held ls ≡ true → (n column : ℕ) → Held 18 (name_of (column_in (from_zero n ls) column))
name_in [] e n column = other
name_in (l ∷ ls) e zero column = name_of_lem l (and-true (names_held l) (every names_held ls) e).0 column
name_in (l ∷ ls) e (suc n) column = name_in ls (and-true (names_held l) (every names_held ls) e).1 n column

all_names_held : every names_held layouts ≡ true
unfolding layouts bytes index_a index_b index_c sheet_a sheet_b sheet_c sheet_d sheet_e sheet_f header element grid_header net_header data_3d data_2d data_note data_attribute data_grid data_net
all_names_held = refl

layout_name : (layout column : ℕ) → Held 18 (name_of (layout_column layout column))
unfolding layout_column entry
layout_name zero column = other
layout_name (suc n) column = name_in layouts all_names_held n column

pub name-has-room : (layout column : ℕ) (out : List ℕ) → 18 ≤ length out → (name_to (layout_column layout column) out).answer ≡ refused 15 0 → ⊥
unfolding name_to
name-has-room layout column out = text_held (layout_name layout column) out

-- ---- the program's line
pub line-has-room : (input out : List ℕ) → 65 ≤ length out → (report_to input out).answer ≡ refused 15 0 → ⊥
line-has-room input out room e = let z : ◌≡◌ {A = ℕ} 0 15 = ap number_as (rw (always_room input out room) at e) in omega arith
