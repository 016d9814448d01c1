-- `jump`: judged, then one record of the directory. Assumes nothing.
use borrow.Author.Rules.{rules}
use Rattle.std.proofs.lemmas.Result.{err_from_is_err_and}
use Rattle.directories.proofs.Judging.{jump-refused, jump-outside, jump-entry}
use Rattle.directories.proofs.jump.Goals as goal

pub returns-in_err-found : goal.returns-in_err-found
returns-in_err-found c = let p = err_from_is_err_and c.from_residual.result c.from_residual.ensures.1 in rw (p.1, p.2) (search (rules, jump-refused))

pub returns-in_err-entry : goal.returns-in_err-entry
returns-in_err-entry c = let p = err_from_is_err_and c.from_residual-in_err-entry.result c.from_residual-in_err-entry.ensures.1 in rw (p.1, p.2) (jump-outside c.args.used c.args.buffer.now c.args.layer c.in_ok-found.found c.in_ok-found.ensures _ c.in_err-entry.ensures)

pub returns : goal.returns
returns c = jump-entry c.args.used c.args.buffer.now c.args.layer c.in_ok-found.found c.in_ok-found.ensures c.in_ok-entry.entry c.in_ok-entry.ensures
