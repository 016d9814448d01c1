-- `next_due` goes on behind a whole record. Assumes nothing.
use Rattle.std.proofs.Common.{rules}
use Rattle.part_and_index.proofs.DueLaws.{after_record, no_record}
use Rattle.part_and_index.proofs.due.next_due.Goals as goal

pub returns-in_default : goal.returns-in_default
returns-in_default c = search (rules, no_record)

pub returns : goal.returns
returns c = search (rules, after_record)
