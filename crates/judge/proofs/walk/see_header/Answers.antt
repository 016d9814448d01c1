-- `see_header` keeps the number of record k where that stands before the place. Assumes nothing.
use Rattle.judge.proofs.walk.see_header.Goals as goal

pub returns : goal.returns
returns c = rw (c.last_before-2.ensures, c.last_before.ensures)
