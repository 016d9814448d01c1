-- `entry_due` answers the record's own fault, then its level's or its data rule's. Assumes nothing.
use Rattle.judge.proofs.EntryLaws.{due-own}
use Rattle.judge.proofs.body_records.Walk.entry_due.Goals as goal

pub returns-in-Err : goal.returns-in-Err
returns-in-Err c = due-own _ _ _ _ c.in-Err.reason c.at.ensures c.in-Err.ensures
