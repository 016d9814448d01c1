-- `write_records` writes the records one after the other. The loop's invariant: k of them are written, and behind them the target is as it was.
-- Assumes nothing.
use Rattle.files.specs.Records.{records_of}
use Rattle.line_ends.proofs.Writing.{WrittenSoFar}
use Rattle.line_ends.proofs.write_records.Given as goal

abbrev pub invariant-loop-k : goal.invariant-loop-k
invariant-loop-k l = WrittenSoFar l.to (records_of l.from l.file) l.k l.initial.target l.target
