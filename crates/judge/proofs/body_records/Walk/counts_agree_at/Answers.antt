-- `counts_agree_at` asks record k. Assumes nothing.
use Rattle.judge.proofs.body_records.Walk.counts_agree_at.Goals as goal

pub returns : goal.returns
returns c = rw (← c.record_at.ensures) c.counts_agree.ensures
