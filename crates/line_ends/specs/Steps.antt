-- The steps of the code: the first record that does not end in its line end; a target with records in front. Assumes nothing.
use Rattle.std.specs.Prelude.{Option, None, Some, List, ◌++◌, map, ℕ, ◌*◌, length, drop}
use Rattle.format.specs.Basics.{Fault, none, fault, flat}
use Rattle.format_lines.specs.LineEnds.{with_end}
use Rattle.files.specs.declared.Stride.{Stride}
use Rattle.files.specs.declared.Stride.TheVariants.{Plain, Lines}
use Rattle.files.specs.Records.{stride_of}

-- none, or 18 at that record
abbrev pub end_fault_of : Option ℕ → Fault
end_fault_of None = none
end_fault_of (Some n) = fault 18 n

-- a record as it stands at a stride: with its line end, or without
abbrev pub as_written : Stride → List ℕ → List ℕ
as_written Plain r = r
as_written Lines r = with_end r

-- records as they stand at a stride at the front of a target; behind them it is as it was
abbrev pub written_first : Stride → List (List ℕ) → (target : List ℕ) → List ℕ
written_first stride records target = flat (map (as_written stride) records) ++ drop (stride_of stride * length records) target
