-- The outline of a header or an item: what a walk over a sheet that judging accepts asks of it, by the view of the record. Assumes nothing.
use Rattle.std.specs.Prelude.{Option, Some, None, cond, List, ℕ, eqb, length}
use Rattle.format.specs.Record.{is_head, count_index, View, view}
use Rattle.records.specs.declared.counted.Outline as Declared

pub record Outline : Type 0 where
  pub kind : ℕ
  pub level : ℕ
  pub data_records : ℕ

-- its kind by which a header counts it, of a header its level, and how many data records it states; no column is judged
unfoldable pub outline_in : View → Outline
outline_in v = record { kind = count_index v.kind; level = cond (is_head v.kind) v.level 0; data_records = v.data_records }

-- neither header nor item: no count of a header has this kind
abbrev pub no_outline : Outline
no_outline = record { kind = 10; level = 0; data_records = 0 }

-- the same as the code has it
abbrev pub outline_said : Option Declared.Outline → Outline
outline_said (Some o) = record { kind = o.kind; level = o.level; data_records = o.data_records }
outline_said None = no_outline

-- the same of bytes; what is no record of 84 bytes is neither
unfoldable pub outline_of : List ℕ → Outline
outline_of l = cond (eqb (length l) 84) (outline_in (view l)) no_outline
