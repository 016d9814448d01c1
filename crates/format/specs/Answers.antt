-- For each answer, this paper's number and values for every case, one to one (`ClaimsAnswers`: two answers of the code with the same answer on paper are the
-- same). The promises use these. Assumes nothing.
use Rattle.std.specs.Prelude.{List, ℕ, ℤ, Option, Some, None, Result, Ok, Err}
-- a column inside a record: the number, or 5 at record 0. Document 01 refuses "a minus before zeros only" like any malformed column; the enum tells the
-- two apart, so a promise that answers it names the case itself (`Column.column_of`), and this is the paper's number of each
pub use Rattle.format.specs.Column.{column_answer}
pub use Rattle.format.specs.Reasons.{refusal_number, fault_number, fault_said}
use Rattle.format.specs.Basics.{Answer, given, refused}
use Rattle.format.specs.Corner as Paper
use Rattle.format.specs.Edit as Edits
use Rattle.format.specs.Run.{Step}
use Rattle.format.specs.Judge as Judging
use Rattle.format.specs.Above.{Way, no_header, to_header}
use Rattle.format.specs.declared.Refusal.{Refusal}
use Rattle.format.specs.declared.Corner.{Corner}
use Rattle.format.specs.declared.Counts.{Counts}
use Rattle.format.specs.declared.BlockItem.{BlockItem}
use Rattle.format.specs.declared.HeaderAbove.{HeaderAbove}

-- "A refusal returns number and record only"
abbrev pub refused_by : {A : Type 0} → Refusal → Answer A
refused_by r = refused (refusal_number r.reason) r.at

-- a column read alone, a corner joined: the number
unfoldable pub number_answer : Result ℤ Refusal → Answer ℤ
number_answer (Ok z) = given z
number_answer (Err r) = refused_by r

-- a column written alone, a normal form: bytes written
unfoldable pub written_answer : Result ℕ Refusal → Answer ℕ
written_answer (Ok n) = given n
written_answer (Err r) = refused_by r

-- a millimetre number split: whole and fraction
unfoldable pub parts_answer : Result Corner Refusal → Answer Paper.Corner
parts_answer (Ok c) = given (record { whole = c.whole; fraction = c.fraction })
parts_answer (Err r) = refused_by r

-- a file judged: "record and item counts"
unfoldable pub judged_answer : Result Counts Refusal → Answer Judging.Counts
judged_answer (Ok c) = given (record { records = c.records; items = c.items })
judged_answer (Err r) = refused_by r

-- an edit: "the new used length"
unfoldable pub edited_answer : Result ℕ Refusal → Answer ℕ
edited_answer (Ok n) = given n
edited_answer (Err r) = refused_by r

-- an edit as one step of a run: its answer, all bytes of the lent buffer afterwards, and the used length that the next call gets, "the buffer and used
-- length that the last one returned or left": the new one of an accepted edit, the old one after a refusal
unfoldable pub step_for : Result ℕ Refusal → (used : ℕ) → (bytes : List ℕ) → Step
step_for (Ok n) used bytes = record { reply = edited_answer (Ok n); buffer = record { bytes = bytes; used = n } }
step_for (Err r) used bytes = record { reply = edited_answer (Err r); buffer = record { bytes = bytes; used = used } }

-- a block alone: the item that it is, or 12 at record 0
unfoldable pub block_answer : Option BlockItem → Answer Edits.BlockItem
block_answer (Some item) = given (record { count_index = item.kind; level = item.level })
block_answer None = refused 12 0

-- the way up: the header above, and how many headers were passed; "For a layer header: none, 0"
unfoldable pub way_up_answer : Result (Option HeaderAbove) Refusal → Answer Way
way_up_answer (Ok (Some above)) = given (to_header above.header above.passed)
way_up_answer (Ok None) = given no_header
way_up_answer (Err r) = refused_by r
