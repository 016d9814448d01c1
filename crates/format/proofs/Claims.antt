-- THE CLAIMS about the definitions, each in a line; the other files of this folder are their proofs. Assumes nothing.
use mathlib.Core.Path.{◌≡◌, ap, sym, ◌∙◌}
use mathlib.Core.Bool.{true}
use mathlib.Core.Logic.{◌⊎◌, ◌↔◌}
use mathlib.Core.List.{List, [], ◌∷◌, ◌++◌}
use Prim.Native.Nat.{ℕ, suc, ◌/◌, ◌≤◌, ◌<◌}
use lib.IntN.{ℤ}
use lib.ListN.{length, drop}
use borrow.Author.Tests.{lt-leb, le-leb}
use Rattle.format.specs.Text.{bytes}
use Rattle.format.specs.Basics.{given, refused, none, chunks}
use Rattle.format.specs.Record.{View, is_head, nothing}
use Rattle.format.specs.Program.{line_of, line, printed, line_to, report_to, unread}
use Rattle.format.specs.Column.{read_alone, write_alone}
use Rattle.format.specs.Corner.{Corner, join, split}
use Rattle.format.specs.Judge.{File, file_of, headers_and_items, count_under, walk, accepted, judge, judge_sheet, judge_index}
use Rattle.format.specs.Edit.{due_behind}
use Rattle.format.specs.Calls.{Edit}
use Rattle.format.specs.Run.{Buffer, Runs, Sound}
use Rattle.format.specs.Above.{count_with_above}
use Rattle.format.specs.Checks.{Starts}
use Rattle.format.proofs.JudgeWalks.{headers_and_items-append, walk-passes}
use Rattle.format.proofs.JudgeCounts.{Agree, counted_at}
use Rattle.format.proofs.Above.{data_records-head}
use Rattle.format.proofs.JudgeAccepted.{Ok, accepted_ok}
use Rattle.format.proofs.JudgeMeaning.{meaning}
use Rattle.format.proofs.ColumnRoundTrip.{round_trip}
use Rattle.format.proofs.Corners.{split_only, split-joins, split-answers, refused_unjoined, unjoined_refused}
use Rattle.format.proofs.Run.{sound, demand3}
use Rattle.format.proofs.AcceptedSheet as Accepted
use Rattle.format.proofs.AcceptedSheet.{accepted_by}
use Rattle.format.proofs.ChecksAlone.{input_index, input_sheet, unread-not-printed}

-- what was written reads as that number, for every width and number
pub written-reads : (column : List ℕ) (z : ℤ) (n : ℕ) → (write_alone column z).answer ≡ given n → read_alone (write_alone column z).bytes ≡ given z
written-reads = round_trip

-- splitting gives the one pair that joins to the number: all that joins, and nothing else
pub one_pair : (unit : ℕ) (z : ℤ) (c : Corner) → (join unit c.whole c.fraction ≡ given z → split unit z ≡ given c) × (split unit z ≡ given c → join unit c.whole c.fraction ≡ given z)
one_pair unit z c = (split_only unit c.whole c.fraction z, split-joins unit z c)

-- it refuses, by 16 at record 0, exactly the numbers that no pair joins to
pub no_pair : (unit : ℕ) (z : ℤ) → split unit z ≡ refused 16 0 ↔ ((c : Corner) → join unit c.whole c.fraction ≡ given z → ⊥)
no_pair unit z = (refused_unjoined unit z, unjoined_refused unit z)

-- and answers nothing but a pair or that refusal
pub pair_or_16 : (unit : ℕ) (z : ℤ) → ((c : Corner) × (split unit z ≡ given c)) ⊎ (split unit z ≡ refused 16 0)
pair_or_16 = split-answers

-- DEMAND 3: a whole list of calls, refused ones included, from any accepted sheet in any buffer
pub runs : (cs : List Edit) (b : Buffer) (n m : ℕ) → judge_sheet b.used b.bytes ≡ accepted n m → Runs cs b
runs cs b n m e = demand3 cs b (accepted_by e)

-- what it says of the sheet after the list holds of every accepted sheet: its counts are exact, the way up from any record after the sheet part
-- answers the header above with the number of headers met, and the next call keeps every byte but those of four columns
pub any_sheet : (b : Buffer) (n m : ℕ) → judge_sheet b.used b.bytes ≡ accepted n m → Sound b
any_sheet b n m e = sound b (accepted_by e)

-- the body of an accepted sheet is accepted by itself
pub body-judged : (b : Buffer) (n m : ℕ) → judge_sheet b.used b.bytes ≡ accepted n m → judge (file_of (chunks (b.used / 84) b.bytes)) ≡ accepted n m
body-judged b n m e = Accepted.body-judged (accepted_by e)

-- the counts in document 01's own words, of every body that passes stage two: what stands one level below under a header, of a kind, are the
-- headers and items of that kind whose header above it is. So the counts that 10 compares are these, accepted or refused
pub counts_mean : (f : File) → walk 0 0 nothing 0 (suc f.part_length) f.body ≡ none → (P Q : List View) (h : View) → f.body ≡ P ++ h ∷ Q → due_behind 0 P ≡ 0 → is_head h.kind ≡ true → (kind : ℕ) → count_under h.level kind (headers_and_items 0 Q) ≡ count_with_above (suc (length P)) kind [] 0 f.body
counts_mean f e P Q h is due hh kind = sym (meaning f.body P h Q kind (walk-passes 0 0 nothing 0 (suc f.part_length) f.body e).0 is due hh)

-- an accepted sheet's headers state them
pub counts-stated : (f : File) (n m : ℕ) → judge f ≡ accepted n m → (P Q : List View) (h : View) → f.body ≡ P ++ h ∷ Q → due_behind 0 P ≡ 0 → is_head h.kind ≡ true → (kind : ℕ) → kind < 10 → h.count kind ≡ count_with_above (suc (length P)) kind [] 0 f.body
counts-stated f n m e P Q h is due hh kind l = agree.each kind l ∙ sym (meaning f.body P h Q kind k.walks.0 is due hh)
  where
    k : Ok f
    k = accepted_ok f n m e

    entries : headers_and_items 0 f.body ≡ headers_and_items 0 P ++ h ∷ headers_and_items 0 Q
    entries = ap (headers_and_items 0) is ∙ headers_and_items-append 0 P (h ∷ Q) ∙ rw (due, data_records-head h hh)

    agree : Agree h (headers_and_items 0 Q)
    agree = counted_at (headers_and_items 0 P) h (headers_and_items 0 Q) hh (rw entries at k.counted)

-- "standard input up to 65,520 bytes; judged as an index if it starts "I ", else as a sheet"
pub printed-index : (input : List ℕ) → length input ≤ 65520 → Starts "I " input → printed input ≡ line_of (judge_index (length input) input) ++ 10 ∷ []
printed-index = input_index

pub printed-sheet : (input : List ℕ) → length input ≤ 65520 → (Starts "I " input → ⊥) → printed input ≡ line_of (judge_sheet (length input) input) ++ 10 ∷ []
printed-sheet = input_sheet

-- a longer input is not judged
pub too_long : (input : List ℕ) → 65520 < length input → printed input ≡ bytes "too long" ++ 10 ∷ []
unfolding printed line
too_long input h = rw (lt-leb (length input) 65520 h)

-- what is printed where reading failed is printed for no input: it cannot be taken for an answer
pub unread_no_answer : (input : List ℕ) → unread ≡ printed input → ⊥
unread_no_answer = unread-not-printed

-- the same in a lent buffer: 15 at record 0 where it is shorter than the line, and it is as it was; else the line, and the bytes behind it stay
pub report_15 : (input out : List ℕ) → length out < length (printed input) → report_to input out ≡ record { answer = refused 15 0; bytes = out }
unfolding report_to line_to
report_15 input out l = rw (lt-leb (length (printed input)) (length out) l)

pub report_written : (input out : List ℕ) → length (printed input) ≤ length out → report_to input out ≡ record { answer = given (length (printed input)); bytes = printed input ++ drop (length (printed input)) out }
unfolding report_to line_to
report_written input out l = rw (le-leb (length (printed input)) (length out) l)
