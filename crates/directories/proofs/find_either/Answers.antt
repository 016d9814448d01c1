-- `find_either`: the length, the edition that the last record names, then the rest. Assumes nothing.
use borrow.Author.Rules.{rules}
use Rattle.std.proofs.lemmas.Result.{err_from_is_err_and}
use Rattle.directories.proofs.Judging.{either_unused, either_other, either_found}
use Rattle.directories.proofs.find_either.Goals as goal

pub returns-in_err-last : goal.returns-in_err-last
returns-in_err-last c = let p = err_from_is_err_and c.from_residual.result c.from_residual.ensures.1 in rw (p.1, p.2) (search (rules, either_unused))

pub returns-in_err-edition : goal.returns-in_err-edition
returns-in_err-edition c = let p = err_from_is_err_and c.from_residual-in_err-edition.result c.from_residual-in_err-edition.ensures.1 in rw (p.1, p.2) (search (rules, either_other))

pub returns : goal.returns
returns c = either_found c.args.used c.args.buffer.now c.in_ok-last.last.now c.in_ok-last.ensures c.in_ok-edition.edition c.in_ok-edition.ensures c.find_behind.result c.find_behind.ensures
