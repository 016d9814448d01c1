-- What an integer column may look like, in document 01's words and for any width, apart from how Column reads it: "leading spaces, then at
-- most one minus, then one digit or more to the last column". Assumes nothing.
use Rattle.std.specs.Prelude.{◌≡◌, ◌⊎◌, List, [], ◌∷◌, ◌++◌, ℕ, suc, ◌+◌, ◌-◌, ◌*◌, ◌^◌, ◌≤◌, ◌<◌, ℤ, pos, negsuc, length, replicate}
use Rattle.format.specs.Basics.{given, Outcome}

-- "one digit or more" ('0' is 48) and their number, read from the left: a digit d behind digits of the number n makes n x 10 + d
pub data Digits : List ℕ → ℕ → Type 0 where
  digit : (d : ℕ) → d < 10 → Digits ((48 + d) ∷ []) d
  more : {ds : List ℕ} {n : ℕ} → Digits ds n → (d : ℕ) → d < 10 → Digits (ds ++ (48 + d) ∷ []) (n * 10 + d)

-- spaces (32), none or more, then digits
pub record Plain (l : List ℕ) (n : ℕ) : Type 0 where
  pub spaces : ℕ
  pub digits : List ℕ
  pub bytes : l ≡ replicate spaces 32 ++ digits
  pub number : Digits digits n

-- the same with a minus (45) before the digits
pub record Minus (l : List ℕ) (n : ℕ) : Type 0 where
  pub spaces : ℕ
  pub digits : List ℕ
  pub bytes : l ≡ replicate spaces 32 ++ 45 ∷ digits
  pub number : Digits digits n

-- "a minus before zeros only": one zero or more
pub record MinusZeros (l : List ℕ) : Type 0 where
  pub spaces : ℕ
  pub others : ℕ
  pub bytes : l ≡ replicate spaces 32 ++ 45 ∷ replicate (suc others) 48

-- a column that says a number
abbrev pub Says : List ℕ → ℤ → Type 0
Says l (pos n) = Plain l n
Says l (negsuc n) = Minus l (suc n)

-- none of these
abbrev pub Shapeless : List ℕ → Type 0
Shapeless l = ((z : ℤ) → Says l z → ⊥) × (MinusZeros l → ⊥)

-- a byte that is no digit: '0' is 48, '9' is 57
abbrev pub NoDigit : ℕ → Type 0
NoDigit b = (b < 48) ⊎ (57 < b)

-- "Written form: shortest digits, spaces in front": no digits of that number are fewer
abbrev pub Shortest : List ℕ → ℕ → Type 0
Shortest digits n = (others : List ℕ) → Digits others n → length digits ≤ length others

abbrev pub InWrittenForm : List ℕ → ℤ → Type 0
InWrittenForm l (pos n) = (p : Plain l n) × Shortest p.digits n
InWrittenForm l (negsuc n) = (p : Minus l (suc n)) × Shortest p.digits (suc n)

-- "width 1 to 18, else 16"
abbrev pub RightWidth : ℕ → Type 0
RightWidth width = (1 ≤ width) × (width ≤ 18)

abbrev pub WrongWidth : ℕ → Type 0
WrongWidth width = (width < 1) ⊎ (18 < width)

-- "number does not fit the width": a number of at least 0 fits below 10 ^ width; below 0 the minus takes one column of the width
abbrev pub TooLarge : (width : ℕ) → ℤ → Type 0
TooLarge width (pos n) = 10 ^ width ≤ n
TooLarge width (negsuc n) = 10 ^ (width - 1) ≤ suc n

-- what comes of writing a number alone where nothing is refused
pub record WrittenAlone (column : List ℕ) (z : ℤ) (o : Outcome ℕ) : Type 0 where
  pub answers : o.answer ≡ given (length column)
  pub wide : length o.bytes ≡ length column
  pub form : InWrittenForm o.bytes z
