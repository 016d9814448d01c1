-- Claims: the flat walk of Judge is document 01's nesting, "A layer or group is a header followed by its body, and a body may hold groups". Assumes nothing.
use mathlib.Core.Path.{◌≡◌}
use mathlib.Core.Bool.{true}
use mathlib.Core.Logic.{◌↔◌}
use mathlib.Core.List.{List, ◌∷◌, ◌++◌}
use Prim.Native.Nat.{ℕ, suc}
use Rattle.format.specs.Basics.{none}
use Rattle.format.specs.Record.{View, is_head, nothing}
use Rattle.format.specs.Judge.{File, walk, headers_and_items, count_under}
use Rattle.format.specs.Edit.{due_behind}
use Rattle.format.specs.Nested.{Body, directly, InLevels, BodyBehind}
use Rattle.format.proofs.Nested.{nested, flat, walk-body, behind-at, counted_at}

-- records keep the level rule from open level 0, all their data there, exactly when they are layers, each a header followed by its body
pub flat_is_nested : (records : List View) → InLevels 0 0 records ↔ Body 0 records
flat_is_nested records = (nested records, flat records)

-- so every body that passes stage two is so made
pub every_body : (f : File) → walk 0 0 nothing 0 (suc f.part_length) f.body ≡ none → Body 0 f.body
every_body = walk-body

-- there the records behind a header, up to the next header or item of its level or above, are its body
pub body_of_header : (f : File) → walk 0 0 nothing 0 (suc f.part_length) f.body ≡ none → (P Q : List View) (h : View) → f.body ≡ P ++ h ∷ Q → due_behind 0 P ≡ 0 → is_head h.kind ≡ true → BodyBehind h.level Q
body_of_header = behind-at

-- and "a header counts what stands one level below under it, by kind": what stands directly in its body
pub counts-directly : (f : File) → walk 0 0 nothing 0 (suc f.part_length) f.body ≡ none → (P Q : List View) (h : View) → f.body ≡ P ++ h ∷ Q → due_behind 0 P ≡ 0 → is_head h.kind ≡ true → (b : BodyBehind h.level Q) (kind : ℕ) → count_under h.level kind (headers_and_items 0 Q) ≡ directly kind b.body
counts-directly = counted_at
