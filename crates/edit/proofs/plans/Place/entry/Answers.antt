-- `entry` reads the record at the place. Assumes nothing.
use Rattle.edit.proofs.OpenedAt.{used-there}
use Rattle.edit.proofs.plans.Place.entry.Goals as goal

pub slice_bounds-file-end : goal.slice_bounds-file-end
slice_bounds-file-end c = used-there _ _ _ _ c.args.self.now.opened
