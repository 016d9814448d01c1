-- For the answers of jumps, this paper's number and values for every case, one to one (`jumps_one_to_one`, `either_one_to_one` in proofs/Claims.antt). Assumes
-- nothing.
use Rattle.std.specs.Prelude.{ℕ, Result, Ok, Err}
use Rattle.format.specs.Basics.{Answer, given}
use Rattle.format.specs.Answers.{refused_by}
use Rattle.format.specs.declared.Refusal.{Refusal}
use Rattle.format_directory.specs.declared.LayerEntry as Declared
use Rattle.format_directory.specs.Directory.{LayerEntry}

-- a jump: the record number of a layer's header
unfoldable pub jumped_answer : Result ℕ Refusal → Answer ℕ
jumped_answer (Ok n) = given n
jumped_answer (Err r) = refused_by r

-- a jump in either edition: a layer's header, total and last record
unfoldable pub jumped_either_answer : Result Declared.LayerEntry Refusal → Answer LayerEntry
jumped_either_answer (Ok e) = given (record { header = e.header; total = e.total; last = e.last })
jumped_either_answer (Err r) = refused_by r
