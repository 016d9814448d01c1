-- What the program prints. Assumes nothing.
use Rattle.std.specs.Prelude.{Bool, cond, List, [], ◌∷◌, ◌++◌, ℕ, leb, length, take, drop}
use Rattle.format.specs.Text.{bytes, begins}
use Rattle.format.specs.Basics.{Answer, given, refused, Outcome}
use Rattle.format.specs.Column.{digits}
use Rattle.format.specs.Judge.{Counts, judge_sheet, judge_index}

-- "accepted 9 records 1 items"; "refused 10 at record 6"
abbrev pub line_of : Answer Counts → List ℕ
line_of (given c) = bytes "accepted " ++ digits c.records ++ bytes " records " ++ digits c.items ++ bytes " items"
line_of (refused n r) = bytes "refused " ++ digits n ++ bytes " at record " ++ digits r

-- "judged as an index if it starts "I ", else as a sheet"
abbrev pub judge_input : List ℕ → Answer Counts
judge_input input = cond (begins "I " input) (judge_index (length input) input) (judge_sheet (length input) input)

-- "standard input up to 65,520 bytes .. Longer input prints `too long`"
unfoldable pub line : List ℕ → List ℕ
line input = cond (leb (length input) 65520) (line_of (judge_input input)) (bytes "too long")

-- the line, and its end
unfoldable pub printed : List ℕ → List ℕ
printed input = line input ++ (10 ∷ [])

-- the same in a lent buffer: the line at its start, the bytes behind it as before, and the line's length; "a buffer is too short for the result" is 15
-- at record 0
unfoldable pub line_to : (line out : List ℕ) → Outcome ℕ
line_to line out =
    cond (leb (length line) (length out))
    (record { answer = given (length line); bytes = line ++ drop (length line) out })
    (record { answer = refused 15 0; bytes = out })

unfoldable pub report_to : (input out : List ℕ) → Outcome ℕ
report_to input out = line_to (printed input) out

-- a read that fails is no end of the input: what was read is judged neither accepted nor refused, and the line says so
unfoldable pub unread : List ℕ
unread = bytes "not judged: read error" ++ (10 ∷ [])

-- the line for what reading came to: the first bytes of a buffer, and whether a read failed
unfoldable pub read_to : (buffer : List ℕ) → (used : ℕ) → (failed : Bool) → (out : List ℕ) → Outcome ℕ
read_to buffer used failed out = cond failed (line_to unread out) (report_to (take used buffer) out)
