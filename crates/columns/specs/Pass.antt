-- Order 3 of document 02: "read each integer column in one pass: what is kept after a byte, one 64-bit number and a small mark, follows from what
-- was kept before and that byte alone". That the pass ends in document 01's answer is claimed in proofs/Claims. Assumes nothing.
use Rattle.std.specs.Prelude.{ℕ, ◌+◌, ◌-◌, ◌*◌, ◌%◌, cond, List, [], ◌∷◌, eqb, pos, neg_ℤ}
use Rattle.format.specs.Column.{is_digit}
use Rattle.format.specs.declared.Column.{Column}
use Rattle.format.specs.declared.Column.TheVariants.{Value, MinusZero, Malformed}
use Rattle.columns.specs.declared.pass.Mark.{Mark}
use Rattle.columns.specs.declared.pass.Mark.TheVariants.{Spaces, Minus, Digits, MinusDigits, Other}
use Rattle.columns.specs.declared.pass.Kept.{Kept}

-- the mark behind a digit
abbrev pub digit_mark : Mark → Mark
digit_mark Spaces = Digits
digit_mark Minus = MinusDigits
digit_mark Digits = Digits
digit_mark MinusDigits = MinusDigits
digit_mark Other = Other

-- the mark behind a byte that is no digit: a space (32) or a minus (45) stands behind spaces alone
abbrev pub other_mark : Mark → ℕ → Mark
other_mark Spaces b = cond (eqb b 32) Spaces (cond (eqb b 45) Minus Other)
other_mark Minus b = Other
other_mark Digits b = Other
other_mark MinusDigits b = Other
other_mark Other b = Other

-- what is kept after one byte more. '0' is 48
unfoldable pub step_of : Kept → ℕ → Kept
step_of k b =
    cond (is_digit b)
    (record { number = k.number * 10 + (b - 48); mark = digit_mark k.mark })
    (record { number = k.number; mark = other_mark k.mark b })

-- before the first byte
abbrev pub start : Kept
start = record { number = 0; mark = Spaces }

-- after more bytes
unfoldable pub pass_from : Kept → List ℕ → Kept
pass_from k [] = k
pass_from k (b ∷ bs) = pass_from (step_of k b) bs

-- after all bytes of a column
abbrev pub pass : List ℕ → Kept
pass column = pass_from start column

-- what a column says whose bytes left this mark and this number
abbrev pub says : Mark → ℕ → Column
says Spaces n = Malformed
says Minus n = Malformed
says Digits n = Value (pos n)
says MinusDigits n = cond (eqb n 0) MinusZero (Value (neg_ℤ (pos n)))
says Other n = Malformed

abbrev pub says_of : Kept → Column
says_of k = says k.mark k.number

-- ---- the number alone, for a column that is known to have one of at least 0
-- one byte more: the lower half of a digit's byte is the digit, and that of a space is 0
abbrev pub number_step : ℕ → ℕ → ℕ
number_step n b = n * 10 + b % 16

-- after more bytes
unfoldable pub number_from : ℕ → List ℕ → ℕ
number_from n [] = n
number_from n (b ∷ bs) = number_from (number_step n b) bs
