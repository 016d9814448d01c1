-- The mark that is kept behind a byte, and what a column without digits says, in the code's own words. Assumes nothing.
use mathlib.Core.Path.{◌≡◌, refl, ap, ◌∙◌}
use mathlib.Core.List.{List}
use Prim.Native.Nat.{ℕ}
use lib.IntN.{ℤ, pos}
use Rattle.format.specs.declared.Column.{Column}
use Rattle.format.specs.declared.Column.TheVariants.{Value, MinusZero, Malformed}
use Rattle.format.specs.Column.{integer}
use Rattle.columns.specs.declared.pass.Mark.{Mark}
use Rattle.columns.specs.declared.pass.Mark.TheVariants.{Spaces, Digits, MinusDigits, Other}
use Rattle.columns.specs.declared.pass.Kept.{Kept}
use Rattle.columns.specs.Pass.{digit_mark, other_mark, says, says_of}
use Rattle.columns.specs.InRecord.{column_at}

-- ---- behind a digit: digits and what no column has stay what they are

pub digits_stay : (m : Mark) → (m ≡ Spaces → ⊥) → (m ≡ Mark.Minus → ⊥) → m ≡ digit_mark m
digits_stay Spaces h k = absurd (h refl)
digits_stay Mark.Minus h k = absurd (k refl)
digits_stay Digits h k = refl
digits_stay MinusDigits h k = refl
digits_stay Other h k = refl

-- ---- behind another byte, where not only spaces were read

pub nothing-behind : (m : Mark) (b : ℕ) → (m ≡ Spaces → ⊥) → Other ≡ other_mark m b
nothing-behind Spaces b h = absurd (h refl)
nothing-behind Mark.Minus b h = refl
nothing-behind Digits b h = refl
nothing-behind MinusDigits b h = refl
nothing-behind Other b h = refl

-- ---- a column without digits says nothing

no_digits : (m : Mark) (n : ℕ) → (m ≡ Digits → ⊥) → (m ≡ MinusDigits → ⊥) → Malformed ≡ says m n
no_digits Spaces n h k = refl
no_digits Mark.Minus n h k = refl
no_digits Digits n h k = absurd (h refl)
no_digits MinusDigits n h k = absurd (k refl)
no_digits Other n h k = refl

pub says_nothing : (k : Kept) (m : Mark) → m ≡ k.mark → (m ≡ Digits → ⊥) → (m ≡ MinusDigits → ⊥) → Malformed ≡ says_of k
says_nothing k m e f g = no_digits m k.number f g ∙ ap (λ (x : Mark). says x k.number) e

-- ---- a column inside a record that says no number counts as 0

other_tag : (r : Column) → ((z : ℤ) → r ≡ Value z → ⊥) → pos 0 ≡ integer r
other_tag (Value z) h = absurd (h z refl)
other_tag MinusZero h = refl
other_tag Malformed h = refl

integer_of : (r r' : Column) → r ≡ r' → integer r ≡ integer r'
integer_of r r' e = rw e

module _ (l : List ℕ) (start width : ℕ) where
  pub no_integer : (r : Column) → r ≡ column_at l start width → ((z : ℤ) → r ≡ Value z → ⊥) → pos 0 ≡ integer (column_at l start width)
  no_integer r e h = other_tag r h ∙ integer_of r (column_at l start width) e
