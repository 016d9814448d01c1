-- `row_from` writes layer after layer. The loop's invariant is `Filling`. Assumes nothing.
use Prim.Native.Nat.{◌*◌, ◌≤◌}
use lib.ListN.{length}
use Rattle.files.specs.declared.Stride.TheVariants.{Plain}
use Rattle.files.specs.Records.{records_of}
use Rattle.format_directory.specs.Directory.{per_record}
use Rattle.directories.specs.Steps.{Kept}
use Rattle.directories.proofs.Written.{Filling}
use Rattle.directories.proofs.writing.row_from.Given as goal

abbrev pub invariant-loop-i : goal.invariant-loop-i
invariant-loop-i l = (length (records_of Plain l.file) ≤ 200000) × (l.before ≤ 200000 * 11) × Kept l.file l.edition l.first l.before l.k × Filling l.file l.edition l.k (per_record l.edition) l.bytes l.at l.i
