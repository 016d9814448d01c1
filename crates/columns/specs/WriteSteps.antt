-- The writing of a column from its last byte to its first, as the code does it. Private functions cite it; that it ends in the
-- written form is `filled-written` of proofs/Writing. Assumes nothing.
use Rattle.std.specs.Prelude.{ℕ, zero, suc, ◌+◌, ◌/◌, ◌%◌, cond, ◌&&◌, Option, List, [], ◌∷◌, ◌++◌, ltb, ℤ, pos, nat_abs}
use Rattle.std.specs.Bool.{then_some}
use Rattle.std.specs.Int.Signed.{lt_z}
use Rattle.format.specs.Column.{fits, width_ok}
use Rattle.columns.specs.declared.Rest.{Rest}
use Rattle.columns.specs.declared.Rest.TheVariants.{Digits, Minus, Spaces}

-- the last byte of what is left, and what is left before it
unfoldable pub byte_of : Rest → ℕ
byte_of (Digits m n) = 48 + n % 10
byte_of Minus = 45
byte_of Spaces = 32

unfoldable pub before_of : Rest → Rest
before_of (Digits m n) = cond (ltb n 10) (cond m Minus Spaces) (Digits m (n / 10))
before_of Minus = Spaces
before_of Spaces = Spaces

-- the last w bytes of what is left
unfoldable pub filled : ℕ → Rest → List ℕ
filled zero s = []
filled (suc w) s = filled w (before_of s) ++ (byte_of s ∷ [])

-- what is written to a column of this width, where width and number allow it
unfoldable pub choice_of : ℕ → ℤ → Option Rest
choice_of width z = then_some (width_ok width && fits width z) (Digits (lt_z z (pos 0)) (nat_abs z))
