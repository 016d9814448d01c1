-- `normal::rewriting::rewrite_columns`. The loop's invariant: what is left to write ends in what all columns end in. Assumes nothing.
use Rattle.std.proofs.Common.{◌≡◌, drop}
use Rattle.normal.specs.Rewriting.{rewritten_all}
use Rattle.normal.proofs.rewriting.rewrite_columns.Given as goal

abbrev pub invariant-loop-column : goal.invariant-loop-column
invariant-loop-column l = rewritten_all l.record (drop l.column-index l.table) ≡ rewritten_all l.initial.record l.table
