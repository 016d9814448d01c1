-- `find_first`: the length, then the rest by the first edition. Assumes nothing.
use borrow.Author.Rules.{rules}
use Rattle.std.proofs.lemmas.Result.{err_from_is_err_and}
use Rattle.directories.proofs.Judging.{first_unused, first_found}
use Rattle.directories.proofs.find_first.Goals as goal

pub returns-in_err-last : goal.returns-in_err-last
returns-in_err-last c = let p = err_from_is_err_and c.from_residual.result c.from_residual.ensures.1 in rw (p.1, p.2) (search (rules, first_unused))

pub returns : goal.returns
returns c = first_found c.args.used c.args.buffer.now c.in_ok-last.last.now c.in_ok-last.ensures c.find_behind.result c.find_behind.ensures
