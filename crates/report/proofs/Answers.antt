-- What judging answered, as a line. Assumes nothing.
use Rattle.std.specs.Prelude.{Option, Some, None, Result, Ok, Err, min}
use mathlib.Core.Path.{◌≡◌, refl, ◌∙◌}
use mathlib.Core.List.{List, [], ◌∷◌, ◌++◌, append_assoc}
use Prim.Native.Nat.{ℕ, ◌≤◌, ◌<◌}
use borrow.Author.Tests.{le-leb, lt-leb}
use lib.ListN.{length, take}
use Rattle.std.proofs.lemmas.List.{take_min}
use Rattle.format.specs.Text.{bytes}
use Rattle.format.specs.Basics.{Outcome}
use Rattle.format.specs.Answers.{judged_answer}
use Rattle.format.specs.Column.{digits}
use Rattle.format.specs.declared.Counts.{Counts}
use Rattle.format.specs.declared.Refusal.{Refusal}
use Rattle.format.specs.Reasons.{refusal_number}
use Rattle.format.specs.Program.{judge_input, line, printed}
use Rattle.format.specs.Program.{line_to, report_to, unread, read_to}
use Rattle.report.specs.Steps.{number_line, line_for, count_read, read_failed}

pub accepted-line : (c : Counts) (j : Result Counts Refusal) (out : List ℕ) (o : Outcome ℕ) → j ≡ Ok c → o ≡ line_to (number_line (bytes "accepted ") c.records (bytes " records ") c.items (bytes " items" ++ 10 ∷ [])) out → o ≡ line_to (line_for j) out
unfolding number_line line_for judged_answer
accepted-line c j out o e p = p ∙ rw (e, append_assoc (bytes "accepted " ++ digits c.records ++ bytes " records " ++ digits c.items) (bytes " items") (10 ∷ [])) refl

pub refused-line : (r : Refusal) (number : ℕ) (j : Result Counts Refusal) (out : List ℕ) (o : Outcome ℕ) → j ≡ Err r → number ≡ refusal_number r.reason → o ≡ line_to (number_line (bytes "refused ") number (bytes " at record ") r.at (10 ∷ [])) out → o ≡ line_to (line_for j) out
unfolding number_line line_for judged_answer
refused-line r number j out o e n p = p ∙ rw (e, n) refl

-- ---- the whole line: what judging the input answered, or `too long`

pub judged-line : (input out : List ℕ) (j : Result Counts Refusal) (o : Outcome ℕ) → length input ≤ 65520 → judged_answer j ≡ judge_input input → o ≡ line_to (line_for j) out → o ≡ report_to input out
unfolding report_to printed line line_for
judged-line input out j o h e p = p ∙ rw (e, le-leb (length input) 65520 h) refl

pub long-line : (input out : List ℕ) (o : Outcome ℕ) → 65520 < length input → o ≡ line_to (bytes "too long" ++ 10 ∷ []) out → o ≡ report_to input out
unfolding report_to printed line
long-line input out o h p = p ∙ rw (lt-leb (length input) 65520 h) refl

-- ---- The line for what reading came to
pub not-read : (buffer : List ℕ) (read : Option ℕ) (out : List ℕ) (o : Outcome ℕ) → read ≡ None → o ≡ line_to (bytes "not judged: read error" ++ 10 ∷ []) out → o ≡ read_to buffer (count_read read) (read_failed read) out
unfolding read_to unread
not-read buffer read out o e p = p ∙ rw e refl

pub part_read : (buffer : List ℕ) (read : Option ℕ) (used least : ℕ) (out : List ℕ) (o : Outcome ℕ) → read ≡ Some used → least ≡ min used (length buffer) → o ≡ report_to (take least buffer) out → o ≡ read_to buffer (count_read read) (read_failed read) out
unfolding read_to
part_read buffer read used least out o e m p = p ∙ rw (e, m, take_min used buffer) refl
