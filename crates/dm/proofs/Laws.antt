-- What the program's proofs share: that what was read, and the line, stand in their buffers. Assumes nothing.
use Rattle.std.specs.Prelude.{Result, Ok, Err}
use Rattle.std.specs.Result.{result_unwrap_or}
use mathlib.Core.Path.{◌≡◌, sym}
use mathlib.Core.Bool.{Bool, true, false}
use mathlib.Core.List.{List}
use Prim.Native.Nat.{ℕ, ◌≤◌}
use native.Mathlib.Omega.{arith}
use lib.ListN.{length, take}
use lib.Seq.{length-take-le}
use Rattle.io.specs.Counts.{IsPrefixLen}
use Rattle.format.specs.Answers.{written_answer}
use Rattle.format.specs.Program.{printed, unread, line_to, report_to, read_to}
use Rattle.format.specs.declared.Refusal.{Refusal}
use Rattle.report.proofs.Laws.{line-inside}

pub counts : (n : ℕ) (out : List ℕ) → n ≤ length out → IsPrefixLen n out
counts n out h = (h, sym (length-take-le n out h))

line-counts : (line out out' : List ℕ) (r : Result ℕ Refusal) → record { answer = written_answer r; bytes = out' } ≡ line_to line out → IsPrefixLen (result_unwrap_or r 0) out'
unfolding written_answer
line-counts line out out' (Ok n) e = counts n out' (line-inside line out out' n e)
line-counts line out out' (Err r) e = counts 0 out' (omega arith)

-- the line for what reading came to
pub read_counts : (buffer : List ℕ) (used : ℕ) (failed : Bool) (out out' : List ℕ) (r : Result ℕ Refusal) → record { answer = written_answer r; bytes = out' } ≡ read_to buffer used failed out → IsPrefixLen (result_unwrap_or r 0) out'
unfolding read_to report_to
read_counts buffer used true out out' r p = line-counts unread out out' r p
read_counts buffer used false out out' r p = line-counts (printed (take used buffer)) out out' r p
