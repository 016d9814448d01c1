-- The letters of a column's bytes, by what is judged in it, and the doubts of many bytes by their letters. Assumes nothing.
use Rattle.std.specs.Prelude.{cond, ◌&&◌, List, [], ◌∷◌, ℕ, zero, suc, ◌+◌, eqb, leb, replicate}
use Rattle.format.specs.Layout.{Rule, any_sign, at_least, range, within, one_of, What, text, blank, integral, integral_or_spaces}
use Rattle.form_bytes.specs.Doubt.{doubt}

-- n letters between, and the last
unfoldable pub behind : (between last : ℕ) → (n : ℕ) → List ℕ
behind between last zero = last ∷ []
behind between last (suc n) = between ∷ behind between last n

-- a column of this width: its first letter, those between, its last; a column of one byte has the last alone
unfoldable pub letters_in : (first between last : ℕ) → (width : ℕ) → List ℕ
letters_in first between last zero = []
letters_in first between last (suc zero) = last ∷ []
letters_in first between last (suc (suc n)) = first ∷ behind between last n

-- the letters of an integer by its rule: of any sign ('M', 'm', 'd'); of at least 0, or one of a list, of which the list is not asked ('S', 's', 'd'); one
-- digit from 0, or from 1 to 9 ('r'); two bytes from -9 to 9 ('Z', 'd'). By the letters of another rule every byte is in doubt ('!', 33)
unfoldable pub ruled : Rule → ℕ → List ℕ
ruled any_sign width = letters_in 77 109 100 width
ruled (at_least n) width = letters_in 83 115 100 width
ruled (range n m) width =
    cond (eqb width 1 && (eqb n 0 && leb m 9)) ((48 + m) ∷ [])
    (cond (eqb width 1 && (eqb n 1 && eqb m 9)) (114 ∷ [])
    (replicate width 33))
ruled (within n) width = cond (eqb width 2 && eqb n 9) (90 ∷ 100 ∷ []) (replicate width 33)
ruled (one_of ns) width = letters_in 83 115 100 width

-- where anything may stand ('.'); and a column that may hold spaces alone, whose last byte is as one behind the first ('M', 'm', 's')
unfoldable pub letters_for : What → ℕ → List ℕ
letters_for text width = replicate width 46
letters_for blank width = replicate width 46
letters_for (integral rule) width = ruled rule width
letters_for integral_or_spaces width = letters_in 77 109 115 width

-- the doubts of bytes by their letters, `before` before the first
unfoldable pub doubts_in : List ℕ → (before : ℕ) → List ℕ → ℕ
doubts_in [] before bytes = 0
doubts_in (letter ∷ letters) before [] = 0
doubts_in (letter ∷ letters) before (byte ∷ bytes) = doubt letter before byte + doubts_in letters byte bytes
