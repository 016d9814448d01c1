-- `check_entry` tests its level, then its data rule. Assumes nothing.
use Rattle.judge.proofs.EntryLaws.{entry-level_wrong, entry-rule_broken, entry-passes}
use Rattle.judge.proofs.body_records.check_entry.Goals as goal

pub returns-then-not-level_ok : goal.returns-then-not-level_ok
returns-then-not-level_ok c = search entry-level_wrong

pub returns-then-not-entry : goal.returns-then-not-entry
returns-then-not-entry c = search entry-rule_broken

pub returns : goal.returns
returns c = search entry-passes
