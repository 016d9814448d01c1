-- `header_above` answers what the header states. Assumes nothing.
use Rattle.records.proofs.Counts.{count_read, count_small}
use Rattle.edit.proofs.OpenedAt.{used-there, header_wide, above_read}
use Rattle.edit.proofs.plans.Place.header_above.Goals as goal

pub slice_bounds-record_at-end : goal.slice_bounds-record_at-end
slice_bounds-record_at-end c = used-there _ _ _ _ c.args.self.now.opened

pub stated_total-requires : goal.stated_total-requires
stated_total-requires c = search header_wide

pub returns : goal.returns
returns c = search (above_read, header_wide, count_read, count_small)
