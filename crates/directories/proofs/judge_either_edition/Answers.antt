-- `judge_either_edition`: what was found, as an answer. Assumes nothing.
use borrow.Author.Rules.{rules}
use Rattle.std.proofs.lemmas.Result.{err_from_is_err_and}
use Rattle.directories.proofs.Judging.{not-answered, pointer_some, answered}
use Rattle.directories.proofs.judge_either_edition.Goals as goal

pub returns-in_err-found : goal.returns-in_err-found
returns-in_err-found c = let p = err_from_is_err_and c.from_residual.result c.from_residual.ensures.1 in rw (p.1, p.2) (search (rules, not-answered))

pub counts-requires : goal.counts-requires
counts-requires c = search (rules, pointer_some)

pub returns : goal.returns
returns c = answered _ _ c.args.used c.args.buffer.now c.in_ok-found.found c.in_ok-found.ensures c.counts.result c.counts.ensures
