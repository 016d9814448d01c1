-- Order 1, files with line ends: judging that form, and writing to and from it. Assumes nothing.
use Rattle.std.specs.Prelude.{List, [], ◌∷◌, ◌++◌, map, Bool, ℕ, zero, suc, ◌/◌, leb, length, take, drop}
use Rattle.format.specs.Text.{same}
use Rattle.format.specs.Basics.{Answer, given, refused, Outcome, unless, Fault, none, fault, or_else, to_fault, chunks, flat, length_ok}
use Rattle.format.specs.Judge.{Counts, judge_sheet, judge_index}

-- "The field offices end each record with carriage return and line feed, 86 bytes in all": carriage return is 13, line feed 10
abbrev pub line_end : List ℕ
line_end = 13 ∷ 10 ∷ []

-- records of 86 bytes, lines: the first n of some bytes
abbrev pub lines : ℕ → List ℕ → List (List ℕ)
lines zero bs = []
lines (suc n) bs = take 86 bs ∷ lines n (drop 86 bs)

-- a record with its line end, and a line without it
unfoldable pub with_end : List ℕ → List ℕ
with_end r = r ++ line_end

unfoldable pub without_end : List ℕ → List ℕ
without_end line = take 84 line

-- "18, a record not ending in 13, 10, .. with the first such record": among the lines from the one with this number on
unfoldable pub end_ok : List ℕ → Bool
end_ok line = same (drop 84 line) line_end

abbrev pub end_fault : (number : ℕ) → List (List ℕ) → Fault
end_fault number [] = none
end_fault number (l ∷ ls) = or_else (to_fault (unless (end_ok l) 18) number) (end_fault (suc number) ls)

-- what is wrong with the form of a file, at record 0: 1 of a plain one. "1 reads multiples of 86 where this form is read; 18 .. directly after 1"
unfoldable pub plain_fault : (used : ℕ) → List ℕ → Fault
plain_fault used buffer = to_fault (unless (length_ok 84 used buffer) 1) 0

unfoldable pub line_fault : (used : ℕ) → List ℕ → Fault
line_fault used buffer = or_else (to_fault (unless (length_ok 86 used buffer) 1) 0) (end_fault 1 (lines (used / 86) buffer))

-- "the plain twin" of a file with line ends: its records without them; and the file with line ends of a plain one
unfoldable pub plain_twin : (used : ℕ) → List ℕ → List ℕ
plain_twin used buffer = flat (map without_end (lines (used / 86) buffer))

unfoldable pub line_twin : (used : ℕ) → List ℕ → List ℕ
line_twin used buffer = flat (map with_end (chunks (used / 84) buffer))

-- "The judge otherwise answers as for the plain twin", all of it
abbrev pub otherwise : Fault → Answer Counts → Answer Counts
otherwise none answer = answer
otherwise (fault number at) answer = refused number at

unfoldable pub judge_sheet_lines : (used : ℕ) → List ℕ → Answer Counts
judge_sheet_lines used buffer = otherwise (line_fault used buffer) (judge_sheet (length (plain_twin used buffer)) (plain_twin used buffer))

unfoldable pub judge_index_lines : (used : ℕ) → List ℕ → Answer Counts
judge_index_lines used buffer = otherwise (line_fault used buffer) (judge_index (length (plain_twin used buffer)) (plain_twin used buffer))

-- "a short target is 15, last"
abbrev pub target_fault : (result target : List ℕ) → Fault
target_fault result target = to_fault (unless (leb (length result) (length target)) 15) 0

-- "The writers .. answer the result's length, and leave the target past it as it stood": the answer, and the whole target afterwards
abbrev pub write_to : Fault → (result target : List ℕ) → Outcome ℕ
write_to none result target = record { answer = given (length result); bytes = result ++ drop (length result) target }
write_to (fault number at) result target = record { answer = refused number at; bytes = target }

-- "The writers refuse by 1, 18 and 15 only"
unfoldable pub to_lines : (used : ℕ) → (buffer target : List ℕ) → Outcome ℕ
to_lines used buffer target =
    write_to (or_else (plain_fault used buffer) (target_fault (line_twin used buffer) target)) (line_twin used buffer) target

unfoldable pub from_lines : (used : ℕ) → (buffer target : List ℕ) → Outcome ℕ
from_lines used buffer target =
    write_to (or_else (line_fault used buffer) (target_fault (plain_twin used buffer) target)) (plain_twin used buffer) target
