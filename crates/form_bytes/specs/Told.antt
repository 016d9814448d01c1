-- What is answered of one byte, and what such answers mean for a column. Assumes nothing.
use Rattle.std.specs.Prelude.{◌≡◌, Bool, true, false, not, ◌&&◌, ◌||◌, List, [], ◌∷◌, ℕ, ◌≤◌, eqb, leb, length, take}
use Rattle.format.specs.Layout.{Rule, any_sign, at_least, range, within, one_of, natural, What, text, blank, integral, integral_or_spaces, is_formed, is_inside}
use Rattle.form_bytes.specs.Doubt.{doubt}
use Rattle.form_bytes.specs.Letters.{letters_for, doubts_in}

-- a rule, and what is judged in a column, with 0 allowed where a number above 0 is due, and every number from 0 on where one of a list is
abbrev pub looser_rule : Rule → Rule
looser_rule any_sign = any_sign
looser_rule (at_least n) = natural
looser_rule (range n m) = range n m
looser_rule (within n) = within n
looser_rule (one_of ns) = natural

abbrev pub looser : What → What
looser text = text
looser blank = blank
looser (integral rule) = integral (looser_rule rule)
looser integral_or_spaces = integral_or_spaces

-- a 0 stands right after a minus, `before` before the first byte
unfoldable pub zero_after_minus : (before : ℕ) → List ℕ → Bool
zero_after_minus before [] = false
zero_after_minus before (byte ∷ bytes) = (eqb before 45 && eqb byte 48) || zero_after_minus byte bytes

-- none does in a column that holds a number
abbrev pub no_zero_after_minus : What → (before : ℕ) → List ℕ → Bool
no_zero_after_minus text before bytes = true
no_zero_after_minus blank before bytes = true
no_zero_after_minus (integral rule) before bytes = not (zero_after_minus before bytes)
no_zero_after_minus integral_or_spaces before bytes = not (zero_after_minus before bytes)

-- a column that can be told at once: it is well formed; its number is inside its rule, or at least inside the looser one; and no 0 stands right after a
-- minus
abbrev pub told_at_once : What → (before : ℕ) → List ℕ → Bool
told_at_once what before bytes = is_formed what bytes && (is_inside (looser what) bytes && no_zero_after_minus what before bytes)

-- a column that has letters of its own: of a range one digit, from 0 or from 1 to 9; of a size -9 to 9
abbrev pub has_letters : What → (width : ℕ) → Bool
has_letters text width = true
has_letters blank width = true
has_letters (integral any_sign) width = true
has_letters (integral (at_least n)) width = true
has_letters (integral (range n m)) width = eqb width 1 && ((eqb n 0 && leb m 9) || (eqb n 1 && eqb m 9))
has_letters (integral (within n)) width = eqb width 2 && eqb n 9
has_letters (integral (one_of ns)) width = true
has_letters integral_or_spaces width = leb 2 width

-- the answer is 0 for a byte that is surely right by its letter after the byte before it, else 1. And what that means: of a column that has letters of
-- its own no byte is in doubt exactly where it can be told at once
pub record Told (letter before byte answer : ℕ) : Type 0 where
  pub is : answer ≡ doubt letter before byte
  pub columns : (what : What) (width p : ℕ) (bytes : List ℕ) → has_letters what width ≡ true → 1 ≤ width → width ≤ length bytes → eqb (doubts_in (letters_for what width) p bytes) 0 ≡ told_at_once what p (take width bytes)
