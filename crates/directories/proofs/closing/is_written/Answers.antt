-- `is_written` reads the column and compares it. Assumes nothing.
use Rattle.directories.proofs.OneRecord.{not-formed, is_formed_lem}
use Rattle.directories.proofs.closing.is_written.Goals as goal

pub returns-in-Value : goal.returns-in-Value
returns-in-Value c = search is_formed_lem

pub returns-in-MinusZero : goal.returns-in-MinusZero
returns-in-MinusZero c = search not-formed
