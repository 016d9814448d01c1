-- THE CLAIMS about integer columns: what a column says for exactly which bytes, in the words of specs/Shape, for columns of any width.
-- Assumes nothing.
use mathlib.Core.Path.{◌≡◌}
use mathlib.Core.Logic.{◌⊎◌, inl, ◌↔◌}
use mathlib.Core.List.{List, ◌∷◌, ◌++◌}
use Prim.Native.Nat.{ℕ, ◌+◌, ◌^◌, ◌≤◌, ◌<◌}
use native.Mathlib.Omega.{arith}
use Prim.Native.String.{String}
use lib.IntN.{ℤ, pos}
use lib.ListN.{length, replicate}
use Rattle.format.specs.declared.Column.TheVariants.{Value, MinusZero, Malformed}
use Rattle.format.specs.Basics.{given, refused}
use Rattle.format.specs.Column.{column_of, read_alone, write_alone}
use Rattle.format.specs.Layout.{Col, find, bytes_of}
use Rattle.format.specs.Record.{rewrite}
use Rattle.format.specs.Shape.{Says, MinusZeros, Shapeless, NoDigit, RightWidth, WrongWidth, TooLarge, WrittenAlone, InWrittenForm}
use Rattle.format.proofs.ColumnMeaning.{value_exactly, minus_zero_exactly, malformed_exactly, only_digits_behind, no_other_byte, spaces-malformed}
use Rattle.format.proofs.ColumnAlone.{read_16, read_5, read_given, write_16, write_refused_kept, write_gives, rewritten}

-- ---- What a column says
-- a number: exactly spaces, then digits of that number; or, for one below 0, a minus between them
pub value : (l : List ℕ) (z : ℤ) → column_of l ≡ Value z ↔ Says l z
value = value_exactly

-- a minus zero: exactly spaces, a minus, one zero or more
pub minus_zero : (l : List ℕ) → column_of l ≡ MinusZero ↔ MinusZeros l
minus_zero = minus_zero_exactly

-- malformed: exactly what is neither
pub malformed : (l : List ℕ) → column_of l ≡ Malformed ↔ Shapeless l
malformed = malformed_exactly

-- ---- "All spaces, a plus sign, inner spaces .. are refused"
-- spaces alone, and no byte at all
pub all-spaces : (k : ℕ) → column_of (replicate k 32) ≡ Malformed
all-spaces = spaces-malformed

-- a plus sign (43) anywhere, as any byte but a space, a minus and a digit
pub no_plus : (before behind : List ℕ) → column_of (before ++ 43 ∷ behind) ≡ Malformed
no_plus before behind = no_other_byte before behind 43 (λ e. omega arith) (λ e. omega arith) (inl (omega arith))

pub no_other : (before behind : List ℕ) (byte : ℕ) → (byte ≡ 32 → ⊥) → (byte ≡ 45 → ⊥) → NoDigit byte → column_of (before ++ byte ∷ behind) ≡ Malformed
no_other = no_other_byte

-- a space anywhere behind a digit, a minus, or any byte that is no space
pub no_inner_space : (before between behind : List ℕ) (byte : ℕ) → (byte ≡ 32 → ⊥) → column_of (before ++ byte ∷ between ++ 32 ∷ behind) ≡ Malformed
no_inner_space before between behind byte e = only_digits_behind before between behind byte 32 e (inl (omega arith))

-- and a minus there: "at most one minus", before the digits
pub no_second_minus : (before between behind : List ℕ) (byte : ℕ) → (byte ≡ 32 → ⊥) → column_of (before ++ byte ∷ between ++ 45 ∷ behind) ≡ Malformed
no_second_minus before between behind byte e = only_digits_behind before between behind byte 45 e (inl (omega arith))

-- ---- "A column read or written alone has width 1 to 18, else 16; a malformed one is 5; record 0 in both"
pub read_width : (column : List ℕ) → read_alone column ≡ refused 16 0 ↔ WrongWidth (length column)
read_width = read_16

pub read_refused : (column : List ℕ) → RightWidth (length column) → read_alone column ≡ refused 5 0 ↔ MinusZeros column ⊎ Shapeless column
read_refused = read_5

pub read_number : (column : List ℕ) (z : ℤ) → RightWidth (length column) → read_alone column ≡ given z ↔ Says column z
read_number = read_given

-- written: 16 exactly where the width is wrong or the number too large for it, the column as it was whatever the refusal
pub write_refused : (column : List ℕ) (z : ℤ) → (write_alone column z).answer ≡ refused 16 0 ↔ WrongWidth (length column) ⊎ TooLarge (length column) z
write_refused = write_16

pub write_kept : (column : List ℕ) (z : ℤ) (number at : ℕ) → (write_alone column z).answer ≡ refused number at → (write_alone column z).bytes ≡ column
write_kept = write_refused_kept

-- else it answers as many bytes as the column has, and they say the number in its shortest digits
pub write_form : (column : List ℕ) (z : ℤ) → RightWidth (length column) → (TooLarge (length column) z → ⊥) → WrittenAlone column z (write_alone column z)
write_form = write_gives

-- "in written form": so is every column of a record that an edit writes anew, of a number that fits
pub rewrites_in_form : (layout : List Col) (name : String) (number : ℕ) (r : List ℕ) → RightWidth (find name layout).width → (find name layout).start + (find name layout).width ≤ length r → number < 10 ^ (find name layout).width → InWrittenForm (bytes_of (find name layout) (rewrite layout name number r)) (pos number)
rewrites_in_form = rewritten
