-- `judge_from`: the sheet before the pointer, then the records from there on. Assumes nothing.
use borrow.Author.Rules.{rules}
use Rattle.std.proofs.lemmas.Result.{err_from_is_err_and}
use Rattle.directories.proofs.Judging.{from-refused, layers-most, different_fits, from_different, from-same}
use Rattle.directories.proofs.judge_from.Goals as goal

pub returns-in_err-listed : goal.returns-in_err-listed
returns-in_err-listed c = let p = err_from_is_err_and c.from_residual.result c.from_residual.ensures.1 in rw (p.1, p.2) (search (rules, from-refused))

pub first_different-requires : goal.first_different-requires
first_different-requires c = layers-most c.args.edition c.args.pointer c.args.used c.args.buffer.now c.requires.0 c.requires.1 c.requires.2 c.in_ok-listed.listed c.in_ok-listed.ensures

pub overflow_add-pointer : goal.overflow_add-pointer
overflow_add-pointer c = different_fits c.args.edition c.args.pointer c.args.used c.args.buffer.now c.requires.0 c.requires.1 c.requires.2 c.in_ok-listed.listed c.in_ok-listed.ensures c.in-Some.i c.in-Some.ensures c.ranges.used

pub returns-in-Some : goal.returns-in-Some
returns-in-Some c = from_different c.args.edition c.args.pointer c.args.used c.args.buffer.now c.requires.0 c.requires.1 c.requires.2 c.in_ok-listed.listed c.in_ok-listed.ensures c.in-Some.i c.in-Some.ensures c.at.result c.at.ensures

pub returns-in-None : goal.returns-in-None
returns-in-None c = from-same c.args.edition c.args.pointer c.args.used c.args.buffer.now c.requires.0 c.requires.1 c.requires.2 c.in_ok-listed.listed c.in_ok-listed.ensures c.in-None.ensures
