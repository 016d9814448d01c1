-- `bytes` is the stride. Assumes nothing.
use Rattle.files.proofs.Records.{stride_plain, stride_lines}
use Rattle.files.proofs.bytes.Goals as goal

pub returns-in-Plain : goal.returns-in-Plain
returns-in-Plain c = search stride_plain

pub returns-in-Lines : goal.returns-in-Lines
returns-in-Lines c = search stride_lines
