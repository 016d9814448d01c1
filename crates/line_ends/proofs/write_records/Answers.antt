-- `write_records` writes the records one after the other. The loop's invariant: k of them are written, and behind them the target is as it was. Assumes nothing.
use Rattle.std.proofs.Common.{rules}
use Rattle.line_ends.proofs.Writing.{one_more, record_wide, written_again}
use Rattle.line_ends.proofs.write_records.Goals as goal

pub put_record-requires : goal.put_record-requires
put_record-requires c = (search (rules, record_wide), search (rules, one_more))

pub loop-k-preserved : goal.loop-k-preserved
loop-k-preserved c = search (rules, written_again)
