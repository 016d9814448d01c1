-- `last_record`: the length, then the record. Assumes nothing.
use mathlib.Core.Path.{sym, ◌∙◌}
use borrow.Author.Rules.{rules}
use Rattle.directories.proofs.Judging.{last-there, used-inside, last_is}
use Rattle.directories.proofs.last_record.Goals as goal

pub record_at-requires : goal.record_at-requires
record_at-requires c = (used-inside c.args.used c.args.buffer.now (sym c.used_ok.ensures ∙ c.if-not-used_ok.false), last-there c.args.used c.args.buffer.now (sym c.used_ok.ensures ∙ c.if-not-used_ok.false))

pub returns : goal.returns
returns c = (search rules, search (rules, last_is))
