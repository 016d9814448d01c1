-- `normal::write_records` meets its contract, by the invariant. Assumes nothing.
use Rattle.std.proofs.Common.{refl, rules}
use Rattle.normal.proofs.Buffers.{record_long, nothing_written, kept_again, written_again, written_all}
use Rattle.normal.proofs.write_records.Goals as goal

pub loop-k-init : goal.loop-k-init
loop-k-init c = (search nothing_written, refl)

pub write_at-requires : goal.write_at-requires
write_at-requires c = (search record_long, search rules)

pub loop-k-preserved : goal.loop-k-preserved
loop-k-preserved c = (search written_again, search kept_again)

pub returns : goal.returns
returns c = search written_all
