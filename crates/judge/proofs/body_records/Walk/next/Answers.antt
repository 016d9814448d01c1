-- `next` reads ahead, and goes on by one. Assumes nothing.
use Rattle.judge.proofs.Steps.{from-fits, next_fits}
use Rattle.judge.proofs.body_records.Walk.next.Goals as goal

pub overflow_mul-from : goal.overflow_mul-from
overflow_mul-from c = search from-fits

pub overflow_add-from : goal.overflow_add-from
overflow_add-from c = search next_fits
