-- How the code puts the line together: digits in a buffer, and the texts and numbers of a line. Assumes nothing.
use Rattle.std.specs.Prelude.{Option, Some, None, Result, Bool, true, false, List, [], ◌∷◌, ◌++◌, ℕ, zero, suc, ◌+◌, ◌/◌, ◌%◌, set}
use Rattle.format.specs.Column.{digits}
use Rattle.format.specs.declared.Counts.{Counts}
use Rattle.format.specs.declared.Refusal.{Refusal}
use Rattle.format.specs.Program.{line_of}
use Rattle.format.specs.Answers.{judged_answer}

-- the last `count` digits of a number
unfoldable pub last_digits : (count n : ℕ) → List ℕ
last_digits zero n = []
last_digits (suc count) n = last_digits count (n / 10) ++ (48 + n % 10) ∷ []

-- digits stored from the last to the first: the buffer after the last `count` digits of a number are stored, the leftmost at `at`
unfoldable pub stored_digits : List ℕ → (at count n : ℕ) → List ℕ
stored_digits out at zero n = out
stored_digits out at (suc count) n = stored_digits (set out (at + count) (48 + n % 10)) at count (n / 10)

-- a text, a number, a text, a number and a text
unfoldable pub number_line : (first : List ℕ) → (a : ℕ) → (second : List ℕ) → (b : ℕ) → (third : List ℕ) → List ℕ
number_line first a second b third = first ++ digits a ++ second ++ digits b ++ third

-- the line for what judging answered, with its end
unfoldable pub line_for : Result Counts Refusal → List ℕ
line_for judged = line_of (judged_answer judged) ++ 10 ∷ []

-- what reading came to: so many bytes; or a read that failed, and nothing is known of the bytes
abbrev pub count_read : Option ℕ → ℕ
count_read (Some used) = used
count_read None = 0

abbrev pub read_failed : Option ℕ → Bool
read_failed (Some used) = false
read_failed None = true
