-- `spaces_from` looks at column after column. The loop's invariant is `Clear`, its measure the columns left. Assumes nothing.
use Rattle.directory_columns.proofs.BlankColumns.{Clear}
use Rattle.directory_columns.proofs.spaces_from.Given as goal

abbrev pub invariant-loop-i : goal.invariant-loop-i
invariant-loop-i l = Clear l.record l.k l.i
