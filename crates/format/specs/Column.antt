-- Integer columns: what their bytes mean, and the written form. Assumes nothing.
use Rattle.std.specs.Prelude.{Bool, true, false, cond, ◌&&◌, List, [], ◌∷◌, ◌++◌, ℕ, zero, suc, ◌+◌, ◌-◌, ◌*◌, ◌/◌, ◌%◌, ◌^◌, leb, ltb, eqb, ℤ, pos, negsuc, neg_ℤ, length, take, replicate}
use Rattle.format.specs.Basics.{Answer, given, refused, Outcome}
use Rattle.format.specs.declared.Column.{Column}
use Rattle.format.specs.declared.Column.TheVariants.{Value, MinusZero, Malformed}

-- "leading spaces": the bytes without them (a space is 32)
unfoldable pub strip : List ℕ → List ℕ
strip [] = []
strip (b ∷ bs) = cond (eqb b 32) (strip bs) (b ∷ bs)

-- '0' is 48, '9' is 57
unfoldable pub is_digit : ℕ → Bool
is_digit b = leb 48 b && leb b 57

unfoldable pub all_digits : List ℕ → Bool
all_digits [] = true
all_digits (b ∷ bs) = is_digit b && all_digits bs

-- the digits' number, "leading zeros are allowed": each digit counts ten times for each digit after it
unfoldable pub value_of : List ℕ → ℕ
value_of [] = 0
value_of (b ∷ bs) = (b - 48) * 10 ^ length bs + value_of bs

-- "one digit or more to the last column"
unfoldable pub is_number : List ℕ → Bool
is_number [] = false
is_number (b ∷ bs) = all_digits (b ∷ bs)

-- what stands after the minus: "a minus before zeros only" is told apart, and is refused like the rest
unfoldable pub negative : List ℕ → Column
negative bs = cond (is_number bs) (cond (eqb (value_of bs) 0) MinusZero (Value (neg_ℤ (pos (value_of bs))))) Malformed

unfoldable pub positive : List ℕ → Column
positive bs = cond (is_number bs) (Value (pos (value_of bs))) Malformed

-- "then at most one minus" ('-' is 45); no digit at all (all spaces), a plus sign or inner spaces are malformed
unfoldable pub signed : List ℕ → Column
signed [] = Malformed
signed (b ∷ bs) = cond (eqb b 45) (negative bs) (positive (b ∷ bs))

-- what a column says: "right-justified: leading spaces, then at most one minus, then one digit or more to the last column". Each answer for
-- exactly which bytes, in the words of Shape: proofs/ClaimsColumns
unfoldable pub column_of : List ℕ → Column
column_of l = signed (strip l)

-- document 01 refuses a minus before zeros like any malformed column
abbrev pub formed : Column → Bool
formed (Value z) = true
formed MinusZero = false
formed Malformed = false

-- the number of a column; 0 where it has none, which no accepted file has
abbrev pub integer : Column → ℤ
integer (Value z) = z
integer MinusZero = pos 0
integer Malformed = pos 0

-- the same of at least 0; a negative one, which is refused where it is used so, counts as 0
abbrev pub size : ℤ → ℕ
size (pos n) = n
size (negsuc n) = 0

abbrev pub number_of : Column → ℕ
number_of c = size (integer c)

-- "Written form: shortest digits, spaces in front"
-- the digits of n, of which there are at most f + 1: those of n / 10, and the last digit
unfoldable pub digits_in : ℕ → ℕ → List ℕ
digits_in zero n = (48 + n) ∷ []
digits_in (suc f) n = cond (ltb n 10) ((48 + n) ∷ []) (digits_in f (n / 10) ++ ((48 + n % 10) ∷ []))

-- twenty digits are enough: every 64-bit number is below 10 ^ 20, and no column is wider than 18
unfoldable pub digits : ℕ → List ℕ
digits n = digits_in 19 n

unfoldable pub text_of : ℤ → List ℕ
text_of (pos n) = digits n
text_of (negsuc n) = 45 ∷ digits (suc n)

-- a number fits a width
unfoldable pub fits : ℕ → ℤ → Bool
fits width z = leb (length (text_of z)) width

-- the number in a column of this width. A column has exactly so many bytes, whatever the number; one that does not fit is never
-- written, since `fits` is asked first
unfoldable pub written : ℕ → ℤ → List ℕ
written width z = take width (replicate (width - length (text_of z)) 32 ++ text_of z)

-- "A column read or written alone has width 1 to 18, else 16; a malformed one is 5; record 0 in both"
abbrev pub width_ok : ℕ → Bool
width_ok width = leb 1 width && leb width 18

-- this paper's answer for each case of the enum: the number, or 5 at record 0
abbrev pub column_answer : Column → Answer ℤ
column_answer (Value z) = given z
column_answer MinusZero = refused 5 0
column_answer Malformed = refused 5 0

unfoldable pub read_alone : List ℕ → Answer ℤ
read_alone column = cond (width_ok (length column)) (column_answer (column_of column)) (refused 16 0)

-- "number does not fit the width, width .. not allowed": 16. The column is the lent buffer, so its length is the width; the answer
-- is the number of bytes written
unfoldable pub write_alone : List ℕ → ℤ → Outcome ℕ
write_alone column z =
    cond (width_ok (length column) && fits (length column) z)
    (record { answer = given (length column); bytes = written (length column) z })
    (record { answer = refused 16 0; bytes = column })
