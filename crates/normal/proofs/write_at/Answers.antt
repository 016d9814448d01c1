-- `normal::write_at` meets its contract. Assumes nothing.
use Rattle.normal.proofs.Buffers.{length-here, put-here}
use borrow.Author.Rules.{rules}
use Rattle.normal.proofs.write_at.Goals as goal

pub write_record-requires : goal.write_record-requires
write_record-requires c = (search rules, search length-here)

pub returns : goal.returns
returns c = search put-here
