-- `walk` goes over the due records. The loop keeps that judging what is left comes to the same as judging from the start. Assumes nothing.
use mathlib.Core.Path.{◌≡◌}
use lib.ListN.{drop}
use Rattle.files.specs.Records.{records_of}
use Rattle.part_and_index.specs.Progress.{started, progress_said}
use Rattle.part_and_index.specs.Steps.{walked_from}
use Rattle.part_and_index.proofs.walk.Given as goal

abbrev pub invariant-loop-k : goal.invariant-loop-k
invariant-loop-k l = walked_from (progress_said l.progress) l.k-counter (drop l.k-counter (records_of l.stride l.file)) ≡ walked_from (started l.fn.first) 0 (records_of l.stride l.file)
