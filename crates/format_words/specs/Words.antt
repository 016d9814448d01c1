-- What a program may show: the words of each refusal, and a column of a layout by two numbers. Assumes nothing.
use Rattle.std.specs.Prelude.{cond, List, [], ◌∷◌, ℕ, zero, suc, eqb, Result, Ok, Err}
use Prim.Native.String.{String}
use Rattle.format.specs.Basics.{Answer, given, refused, Outcome}
use Rattle.format.specs.Text.{bytes}
use Rattle.format.specs.Program.{line_to}
use Rattle.format.specs.Layout.{Rule, any_sign, at_least, range, within, one_of, What, text, blank, integral, integral_or_spaces, Col, layouts}
use Rattle.layouts.specs.Tables.{low_in, high_in}
use Rattle.format.specs.Answers.{refused_by}
use Rattle.format.specs.declared.Refusal.{Refusal}
use Rattle.format_words.specs.declared.Described.{Described}

-- entry n of a list, numbered from 1; a number that has none is not allowed, 16 at record 0
abbrev pub from_zero : {A : Type 0} → ℕ → List A → Answer A
from_zero n [] = refused 16 0
from_zero zero (x ∷ xs) = given x
from_zero (suc n) (x ∷ xs) = from_zero n xs

unfoldable pub entry : {A : Type 0} → ℕ → List A → Answer A
entry zero l = refused 16 0
entry (suc n) l = from_zero n l

-- the words of the refusals, from 1 to 19
unfoldable pub refusals : List String
refusals =
    "the length is 0, above the buffer, no multiple of 84 (lines: 86) or above 200,000 records" ∷
    "record 1 does not start with the type that was asked for" ∷
    "a record that is needed is missing" ∷
    "the record is not H, E1 to E8, G or T, where one of these is due" ∷
    "an integer column is malformed" ∷
    "an integer is outside its range, or does not go with another column" ∷
    "the level is not allowed here" ∷
    "the data kind, counts and records do not go together" ∷
    "a corner's fraction is too large or of opposite sign to its whole" ∷
    "a count differs from what the file holds" ∷
    "the place is no start of an item (for an insertion: nor of a header, nor one past the end)" ∷
    "the block is not exactly one sound item with a level from 2 to 9" ∷
    "the block's level does not go with the place" ∷
    "a header's total, its grid and net count or the file's records would pass their limit" ∷
    "the buffer is too short for the result" ∷
    "the number does not fit, the width or unit is not allowed, or the corner cannot be split" ∷
    "the record number is outside the file or in the sheet part, or there is no such layer" ∷
    "a record does not end in carriage return and line feed" ∷
    "the directory of layers is missing, or differs here from the right one" ∷ []

-- those of 27, of the second edition of a directory; no call is refused with 20 to 26
unfoldable pub edition_words : String
edition_words = "the edition column of the directory of layers is not 2 in written form"

-- the words of a number; one that is no refusal is 16
unfoldable pub refusal_words : (number : ℕ) → Answer String
refusal_words number = cond (eqb number 27) (given edition_words) (entry number refusals)

-- a text at the start of a lent buffer, without an end mark; the bytes behind it stay. "a buffer is too short for the result" is 15
abbrev pub text_to : Answer String → (out : List ℕ) → Outcome ℕ
text_to (given t) out = line_to (bytes t) out
text_to (refused n r) out = record { answer = refused n r; bytes = out }

unfoldable pub refusal_to : (number : ℕ) → (out : List ℕ) → Outcome ℕ
refusal_to number out = text_to (refusal_words number) out

-- a column of a layout: the layouts number from 1 in the order of document 01, the columns from 1 in that of the record
abbrev pub column_in : Answer (List Col) → (column : ℕ) → Answer Col
column_in (given l) column = entry column l
column_in (refused n r) column = refused n r

unfoldable pub layout_column : (layout column : ℕ) → Answer Col
layout_column layout column = column_in (entry layout layouts) column

-- its name; a blank has the empty one
abbrev pub name_of : Answer Col → Answer String
name_of (given c) = given c.name
name_of (refused n r) = refused n r

unfoldable pub name_to : Answer Col → (out : List ℕ) → Outcome ℕ
name_to a out = text_to (name_of a) out

-- the letter for what may stand in it: A text, X blank, I an integer, L an integer of a list, S an integer or spaces
abbrev pub rule_letter : Rule → ℕ
rule_letter any_sign = 73
rule_letter (at_least n) = 73
rule_letter (range n m) = 73
rule_letter (within n) = 73
rule_letter (one_of ns) = 76

abbrev pub letter_of : What → ℕ
letter_of text = 65
letter_of blank = 88
letter_of (integral rule) = rule_letter rule
letter_of integral_or_spaces = 83

-- start, width, letter, and the least and the greatest number that it may hold: of an integer what `Least` and `Greatest` of crate layouts say, 0 of
-- text and blanks
unfoldable pub described_of : Answer Col → Answer Described
described_of (given c) = given (record { start = c.start; width = c.width; letter = letter_of c.what; least = low_in c; greatest = high_in c })
described_of (refused n r) = refused n r

-- the answer of the code: its values, or the paper's number of the refusal
unfoldable pub described_answer : Result Described Refusal → Answer Described
described_answer (Ok d) = given d
described_answer (Err r) = refused_by r
