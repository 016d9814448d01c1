-- `first_different` compares record after record. The loop's invariant is `Comparing`. Assumes nothing.
use Prim.Native.Nat.{◌≤◌}
use Rattle.files.specs.declared.Stride.TheVariants.{Plain}
use Rattle.files.specs.Records.{records_of}
use Rattle.directories.proofs.Different.{Comparing}
use Rattle.directories.proofs.comparing.first_different.Given as goal

abbrev pub invariant-loop-i : goal.invariant-loop-i
invariant-loop-i l = (l.rows ≤ 200000) × Comparing (records_of Plain l.directory) l.found.edition l.found.pointer l.found.layers l.fn.unlisted l.rows l.right l.i
