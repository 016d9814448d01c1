-- `jump_either_edition`: judged, then one record of the directory. Assumes nothing.
use borrow.Author.Rules.{rules}
use Rattle.std.proofs.lemmas.Result.{err_from_is_err_and}
use Rattle.directories.proofs.Judging.{either-refused, either-entry}
use Rattle.directories.proofs.jump_either_edition.Goals as goal

pub returns-in_err-found : goal.returns-in_err-found
returns-in_err-found c = let p = err_from_is_err_and c.from_residual.result c.from_residual.ensures.1 in rw (p.1, p.2) (search (rules, either-refused))

pub returns : goal.returns
returns c = either-entry c.args.used c.args.buffer.now c.args.layer c.in_ok-found.found c.in_ok-found.ensures c.entry.result c.entry.ensures
