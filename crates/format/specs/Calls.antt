-- The calls on the plain record list, which never judges: a case for each kind of call. Assumes nothing.
use Rattle.std.specs.Prelude.{List, map, ℕ, zero, suc, ◌*◌, length}
use Rattle.format.specs.Basics.{Answer, given, refused}
use Rattle.format.specs.Record.{view}
use Rattle.format.specs.Judge.{file_of}
use Rattle.format.specs.Edit.{RecordList, insert_fault, inserted, remove11, removed, block_of}

-- "It is fed each call's place and, for an insertion, its block, but never an answer"
pub data Edit : Type 0 where
  insert : (place : ℕ) → (block : List ℕ) → Edit
  remove : (place : ℕ) → Edit

pub record PlainStep : Type 0 where
  pub reply : Answer ℕ
  pub list : RecordList

-- "Where a refusal after judging applies .., it answers the first in order and changes nothing", at record 0;
-- else "It answers its records' length in bytes"
abbrev pub conclude : (fault : ℕ) → (old new : RecordList) → PlainStep
conclude zero old new = record { reply = given (84 * length new.records); list = new }
conclude (suc n) old new = record { reply = refused (suc n) 0; list = old }

unfoldable pub plain : Edit → RecordList → PlainStep
plain (insert place block) list =
    conclude (insert_fault (file_of list.records) place list.tail (map view (block_of block)) 200000) list (inserted list place (block_of block))
plain (remove place) list = conclude (remove11 (file_of list.records) place) list (removed list place)
