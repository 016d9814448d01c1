-- Joining and splitting, "with cases around zero and both ends": the ends of the columns, and those of a signed 64-bit number. Assumes nothing.
use Rattle.std.specs.Prelude.{◌≡◌, refl, List, [], ◌∷◌, map, ℕ, ℤ, pos}
use Rattle.format.specs.Basics.{Answer, given, refused, minus}
use Rattle.format.specs.Column.{fits, text_of, digits, digits_in}
use Rattle.format.specs.Corner.{Corner, fraction_ok, millimetres, join, split}

-- unit, whole and fraction, and what joining answers; unit and millimetres, and what splitting answers
pub data Joining : Type 0 where
  joining : (unit : ℕ) (whole fraction : ℤ) → Answer ℤ → Joining

pub data Splitting : Type 0 where
  splitting : (unit : ℕ) (z : ℤ) → Answer Corner → Splitting

abbrev corner : ℤ → ℤ → Answer Corner
corner w f = given (record { whole = w; fraction = f })

abbrev pub joins : List Joining
joins =
    -- zero has no sign
    joining 1 (pos 0) (pos 0) (given (pos 0)) ∷
    joining 1 (pos 0) (minus 1) (given (minus 1)) ∷
    joining 10 (minus 1) (pos 0) (given (minus 1000)) ∷
    joining 999 (minus 1) (minus 99) (given (minus 1990)) ∷
    joining 10 (minus 1) (pos 1) (refused 9 0) ∷
    -- the least whole and fraction; one further does not fit
    joining 1 (minus 999999) (minus 999) (given (minus 999999999)) ∷
    joining 1 (minus 1000000) (pos 0) (refused 16 0) ∷
    joining 1 (pos 10000000) (pos 0) (refused 16 0) ∷
    -- 1,000 fits its column and is too large; -1,000 does not fit
    joining 1 (pos 0) (pos 1000) (refused 9 0) ∷
    joining 1 (pos 0) (minus 1000) (refused 16 0) ∷
    joining 10 (pos 0) (pos 100) (refused 9 0) ∷
    -- 16 comes before 9
    joining 2 (pos 12) (minus 3) (refused 16 0) ∷
    joining 1 (pos 10000000) (minus 3) (refused 16 0) ∷
    joining 1 (pos 9223372036854775807) (minus 9223372036854775808) (refused 16 0) ∷ []

abbrev pub splits : List Splitting
splits =
    splitting 1 (pos 0) (corner (pos 0) (pos 0)) ∷
    splitting 1 (minus 1) (corner (pos 0) (minus 1)) ∷
    splitting 10 (minus 50) (corner (pos 0) (minus 5)) ∷
    splitting 10 (minus 1050) (corner (minus 1) (minus 5)) ∷
    splitting 1 (minus 1000) (corner (minus 1) (pos 0)) ∷
    -- centimetres: a multiple of ten
    splitting 10 (minus 5) (refused 16 0) ∷
    splitting 999 (pos 1234567) (refused 16 0) ∷
    splitting 2 (pos 0) (refused 16 0) ∷
    -- the last that two columns hold, and one further
    splitting 1 (pos 9999999999) (corner (pos 9999999) (pos 999)) ∷
    splitting 1 (pos 10000000000) (refused 16 0) ∷
    splitting 1 (minus 999999999) (corner (minus 999999) (minus 999)) ∷
    splitting 1 (minus 1000000000) (refused 16 0) ∷
    -- the last of 64 bits
    splitting 1 (pos 9223372036854775807) (refused 16 0) ∷
    splitting 1 (minus 9223372036854775808) (refused 16 0) ∷ []

abbrev join_of : Joining → Answer ℤ
join_of (joining unit whole fraction a) = join unit whole fraction

abbrev join_answer : Joining → Answer ℤ
join_answer (joining unit whole fraction a) = a

abbrev split_of : Splitting → Answer Corner
split_of (splitting unit z a) = split unit z

abbrev split_answer : Splitting → Answer Corner
split_answer (splitting unit z a) = a

-- each answer is the stated one
pub cases : (map join_of joins ≡ map join_answer joins) × (map split_of splits ≡ map split_answer splits)
unfolding join split fits text_of digits digits_in fraction_ok millimetres
cases = (refl, refl)
