-- `normal::rewrite_entry` meets its contract: no other letter has a layout. Assumes nothing.
use Rattle.std.proofs.Common.{rules}
use Rattle.format.specs.Normal.{normal_record}
use Rattle.normal.proofs.rewrite_entry.Goals as goal

pub returns-in_default : goal.returns-in_default
unfolding normal_record
returns-in_default c = search rules
