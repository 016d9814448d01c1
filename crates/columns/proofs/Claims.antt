-- THE CLAIMS of order 3 about the pass over an integer column, in the words of document 02, for columns of any width where nothing else is said.
-- Assumes nothing.
use mathlib.Core.Path.{◌≡◌, refl, ap, ap₂, sym, ◌∙◌}
use mathlib.Core.List.{List, [], ◌∷◌, ◌++◌}
use Prim.Native.Nat.{ℕ, zero, suc, ◌^◌, ◌≤◌, ◌<◌}
use native.Mathlib.Omega.{arith}
use lib.IntN.{pos}
use lib.ListN.{length}
use denote.Enum.Declared.{tag_of}
use Rattle.format.specs.declared.Column.TheVariants.{Value}
use Rattle.format.specs.Column.{column_of, column_answer, read_alone}
use Rattle.format.specs.Shape.{RightWidth}
use Rattle.columns.specs.declared.pass.Mark.{Mark}
use Rattle.columns.specs.declared.pass.Mark.TheVariants.{Spaces, Minus, Digits, MinusDigits, Other}
use Rattle.columns.specs.declared.pass.Kept.{Kept}
use Rattle.columns.specs.Pass.{step_of, start, pass_from, pass, says_of, number_step, number_from}
use Rattle.columns.specs.contracts.pass.Mark.{the_type}
use Rattle.columns.proofs.Reading.{means, pass-append, pass_one, inside_64}
use Rattle.columns.proofs.NumberAlone.{number_on_the_way, number-alone}
use Rattle.columns.proofs.Alone.{read_right}

-- ---- "what is kept after a byte .. follows from what was kept before and that byte alone"
pub one_byte : (before : List ℕ) (byte : ℕ) → pass (before ++ byte ∷ []) ≡ step_of (pass before) byte
one_byte = pass_one

-- "one 64-bit number and a small mark": whatever bytes came before, where number and mark are the same, the same is kept after any bytes behind them
pub kept_decides : (before other behind : List ℕ) → (pass before).number ≡ (pass other).number → (pass before).mark ≡ (pass other).mark → pass (before ++ behind) ≡ pass (other ++ behind)
kept_decides before other behind n m =
    let e : pass before ≡ pass other = ap₂ (λ (x : ℕ) (y : Mark). record { number = x; mark = y }) n m in
    pass-append before behind start ∙ ap (λ (k : Kept). pass_from k behind) e ∙ sym (pass-append other behind start)

-- the mark is small: one of five, and nothing beside that
pub five_marks : (m : Mark) → tag_of the_type m < 5
five_marks Spaces = omega arith
five_marks Minus = omega arith
five_marks Digits = omega arith
five_marks MinusDigits = omega arith
five_marks Other = omega arith

pub mark_alone : (m m' : Mark) → tag_of the_type m ≡ tag_of the_type m' → m ≡ m'
mark_alone m m' e = sym (by_tag m) ∙ ap mark_at e ∙ by_tag m'
  where
    mark_at : ℕ → Mark
    mark_at zero = Spaces
    mark_at (suc zero) = Minus
    mark_at (suc (suc zero)) = Digits
    mark_at (suc (suc (suc zero))) = MinusDigits
    mark_at (suc (suc (suc (suc n)))) = Other

    by_tag : (x : Mark) → mark_at (tag_of the_type x) ≡ x
    by_tag Spaces = refl
    by_tag Minus = refl
    by_tag Digits = refl
    by_tag MinusDigits = refl
    by_tag Other = refl

-- ---- "the pass ends in document 01's answer": what the column says, whatever its width
pub pass_ends : (column : List ℕ) → says_of (pass column) ≡ column_of column
pass_ends = means

-- "for widths 1 to 18": the answer to a column read alone
pub pass-answers : (column : List ℕ) → RightWidth (length column) → column_answer (says_of (pass column)) ≡ read_alone column
pass-answers column w = ap column_answer (means column) ∙ read_right column w.0 w.1

-- up to a width of 18 the number is one of 64 bits after each byte, and so is its negative
pub stays_inside : (bytes : List ℕ) → length bytes ≤ 18 → (pass bytes).number < 2 ^ 63
stays_inside = inside_64

-- ---- where a column is known to have a number of at least 0, the number is kept alone
-- after each of its bytes it is that of the pass
pub number-after : (before behind : List ℕ) (byte n : ℕ) → column_of ((before ++ byte ∷ []) ++ behind) ≡ Value (pos n) → (pass (before ++ byte ∷ [])).number ≡ number_step (pass before).number byte
number-after = number_on_the_way

-- and at the end the column's
pub number_ends : (column : List ℕ) (n : ℕ) → column_of column ≡ Value (pos n) → number_from 0 column ≡ n
number_ends = number-alone
