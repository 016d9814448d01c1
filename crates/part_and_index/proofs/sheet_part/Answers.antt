-- `sheet_part` is the walk from record a of a sheet. Assumes nothing.
use Rattle.files.proofs.Records.{wide_records}
use Rattle.part_and_index.proofs.Parts.{sheet-answer}
use Rattle.part_and_index.proofs.sheet_part.Goals as goal

pub returns : goal.returns
returns c = search (sheet-answer, wide_records)
