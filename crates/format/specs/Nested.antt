-- Layers and groups as document 01 nests them, beside the flat walk of Judge; that the two are the same is claimed in proofs/ClaimsNested.antt. Assumes
-- nothing.
use Rattle.std.specs.Prelude.{◌≡◌, true, false, cond, List, [], ◌∷◌, ◌++◌, ℕ, zero, suc, ◌+◌, ◌≤◌, ◌<◌, eqb, length}
use Rattle.format.specs.Record.{View, is_head, count_index}
use Rattle.format.specs.Judge.{level_ok, open_after, due_after, headers_and_items}

-- "A layer or group is a header followed by its body, and a body may hold groups": what may follow a header of this level; level 0 is the sheet's own, which
-- holds the layers. "Empty layers, groups and sheets are allowed"
pub data Body : (level : ℕ) → List View → Type 0 where
  empty : {level : ℕ} → Body level []
  -- "An item is an element, grid or net with its data; its level is 2 to 9"
  with_item : {level : ℕ} {rest : List View} (r : View) (data_views : List View) → is_head r.kind ≡ false → r.level ≡ suc level → 2 ≤ r.level → r.level ≤ 9 → length data_views ≡ r.data_records → Body level rest → Body level (r ∷ data_views ++ rest)
  -- "A layer header has level 1, a group header 2 to 8"
  with_group : {level : ℕ} {inside rest : List View} (h : View) → is_head h.kind ≡ true → h.level ≡ suc level → h.level ≤ 8 → Body (suc level) inside → Body level rest → Body level (h ∷ inside ++ rest)

-- what stands directly in a body, of a kind: its items, and the headers of its groups
abbrev pub one_of_kind : (kind : ℕ) → View → ℕ
one_of_kind kind r = cond (eqb (count_index r.kind) kind) 1 0

abbrev pub directly : (kind : ℕ) → {level : ℕ} {records : List View} → Body level records → ℕ
directly kind empty = 0
directly kind (with_item r data_views is_item one_below low high whole rest) = one_of_kind kind r + directly kind rest
directly kind (with_group h is_header one_below high inside rest) = one_of_kind kind h + directly kind rest

-- the same records flat: no header or item breaks the level rule (7) at the open level where it stands, and no data record is missing (3)
abbrev pub InLevels : (opened due : ℕ) → List View → Type 0
InLevels opened due [] = due ≡ 0
InLevels opened zero (r ∷ rs) = (level_ok opened r ≡ true) × InLevels (open_after opened zero r) (due_after zero r) rs
InLevels opened (suc due) (r ∷ rs) = InLevels opened due rs

-- every header or item among these has a level above this one
abbrev pub AllDeeper : (level : ℕ) → List View → Type 0
AllDeeper level [] = Unit {0}
AllDeeper level (r ∷ rs) = (level < r.level) × AllDeeper level rs

-- there is no next header or item, or its level is at most this one
abbrev pub NextAtMost : (level : ℕ) → List View → Type 0
NextAtMost level [] = Unit {0}
NextAtMost level (r ∷ rs) = r.level ≤ level

-- the records behind a header of this level, up to the next header or item of its level or above, are its body
pub record BodyBehind (level : ℕ) (behind : List View) : Type 0 where
  pub inside : List View
  pub rest : List View
  pub whole : behind ≡ inside ++ rest
  pub body : Body level inside
  pub deeper : AllDeeper level (headers_and_items 0 inside)
  pub next : NextAtMost level rest
