-- One byte of a record against the byte before it, as the code compares them. Assumes nothing.
--
-- A letter says what may stand at a byte: '.' (46) anything; 'd' (100) a digit, 'r' (114) one from 1 to 9, '0' to '8' (48 to 56) one up to
-- that; 'S' (83) and 'M' (77) a column's first byte, a digit or a space, for 'M' also a minus; 's' (115) and 'm' (109) the same behind it, a space or a
-- minus only after a space; 'Z' (90) a first byte that adds nothing to the number: 0, a space or a minus.
use Rattle.std.specs.Prelude.{Bool, cond, not, ◌&&◌, ◌||◌, ℕ, eqb, leb, ltb}

-- the digits of a letter, from the least to the greatest
unfoldable pub least_at : ℕ → ℕ
least_at letter = cond (eqb letter 114) 49 48

unfoldable pub most_at : ℕ → ℕ
most_at letter = cond (eqb letter 90) 48 (cond (ltb letter 57) letter 57)

-- a column's first byte; where a space may stand; where a minus may stand
abbrev pub is_first : ℕ → Bool
is_first letter = (eqb letter 83 || eqb letter 77) || eqb letter 90

abbrev pub is_spaced : ℕ → Bool
is_spaced letter = (is_first letter || eqb letter 115) || eqb letter 109

abbrev pub is_signed : ℕ → Bool
is_signed letter = (eqb letter 77 || eqb letter 109) || eqb letter 90

-- a byte that is surely right by its letter: a digit of it; or a space or a minus, where one may stand, at a column's first byte or after a
-- space. But no 0 right after a minus, which may be "a minus before zeros only"
unfoldable pub surely_right : ℕ → ℕ → ℕ → Bool
surely_right letter before byte =
    eqb letter 46 ||
    (((leb (least_at letter) byte && leb byte (most_at letter)) || (((eqb byte 32 && is_spaced letter) || (eqb byte 45 && is_signed letter)) && (eqb before 32 || is_first letter))) && not (eqb before 45 && eqb byte 48))

-- 1 for a byte that is not, so that the doubts of many bytes are a sum
unfoldable pub doubt : ℕ → ℕ → ℕ → ℕ
doubt letter before byte = cond (surely_right letter before byte) 0 1
