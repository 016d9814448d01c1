-- `check_data_at` judges record k. Assumes nothing.
use Rattle.records.proofs.DataFaults.{of_note, of_columns}
use Rattle.judge.proofs.body_records.Walk.check_data_at.Goals as goal
use Rattle.judge.proofs.body_records.Walk.check_data_at.Goals.{in-Notes, in_default}

pub returns-then-matches : goal.returns-then-matches
returns-then-matches c =
    rw (← c.record_at-record.ensures)
    (elim c.match-matches.branch [ in-Notes w ↦ search of_note | in_default w ↦ absurd (cc) ])

pub returns : goal.returns
returns c =
    rw (← c.record_at-record.ensures)
    (elim c.match-matches.branch [ in-Notes w ↦ absurd (cc) | in_default w ↦ search of_columns ])
