-- `write_rows` puts record after record behind the sheet. The loop's invariant is `RowsSoFar`. Assumes nothing.
use mathlib.Core.Path.{◌≡◌}
use Prim.Native.Nat.{◌+◌, ◌*◌, ◌≤◌}
use lib.ListN.{length}
use Rattle.format_directory.specs.Directory.{per_record}
use Rattle.directories.specs.Steps.{FirstKept}
use Rattle.directories.proofs.Appended.{RowsSoFar}
use Rattle.directories.proofs.writing.write_rows.Given as goal

abbrev pub invariant-loop-i : goal.invariant-loop-i
invariant-loop-i l = (l.each ≡ per_record l.edition) × FirstKept l.edition l.used l.listed.part l.listed.first_numbers l.initial.buffer × (l.used ≤ 84 * 200000) × (l.rows ≤ 200000) × (l.used + 84 * l.rows ≤ length l.initial.buffer) × RowsSoFar l.edition l.used l.listed.part l.rows l.initial.buffer l.buffer l.at l.i
