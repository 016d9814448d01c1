-- Order 1 once more, byte by byte and in the order of checks: by none of the definitions that the calls use. That the calls answer so is
-- proofs/Claims.antt. Assumes nothing.
use Rattle.std.specs.Prelude.{◌≡◌, List, [], ◌∷◌, ℕ, suc, ◌+◌, ◌*◌, ◌/◌, ◌≤◌, ◌<◌, length, get_or}
use Rattle.format.specs.Checks.{Check, LengthFails}

-- record k of a file with line ends, counted from 0, ends in 13, 10
abbrev pub Ended : (buffer : List ℕ) → (k : ℕ) → Type 0
Ended buffer k = (get_or buffer (86 * k + 84) 0 ≡ 13) × (get_or buffer (86 * k + 85) 0 ≡ 10)

-- "with the first such record": it has this number, counted from 1, and is one of the first n
pub record FirstUnended (n : ℕ) (buffer : List ℕ) (number : ℕ) : Type 0 where
  pub before : ℕ
  pub number_is : number ≡ suc before
  pub inside : before < n
  pub unended : Ended buffer before → ⊥
  pub first : (k : ℕ) → k < before → Ended buffer k

-- the refusals of a file that is read in this form, in their order: 1, then 18, then those of another kind
pub data LineRefusal (used : ℕ) (buffer : List ℕ) (Then : ℕ → ℕ → Type 0) (number at : ℕ) : Type 0 where
  wrong_length : LengthFails 86 used buffer → number ≡ 1 → at ≡ 0 → LineRefusal used buffer Then number at
  wrong_end : (LengthFails 86 used buffer → ⊥) → number ≡ 18 → FirstUnended (used / 86) buffer at → LineRefusal used buffer Then number at
  after_these : (LengthFails 86 used buffer → ⊥) → ((k : ℕ) → k < used / 86 → Ended buffer k) → Then number at → LineRefusal used buffer Then number at

-- "a short target is 15, last"
abbrev pub ShortTarget : (result : ℕ) → (target : List ℕ) → (number at : ℕ) → Type 0
ShortTarget result target number at = (length target < result) × (number ≡ 15) × (at ≡ 0)

-- the writer to this form: 1, then 15
abbrev pub over_checks : (used : ℕ) → (buffer target : List ℕ) → List Check
over_checks used buffer target =
    record { number = 1; applies = LengthFails 84 used buffer } ∷
    record { number = 15; applies = length target < 86 * (used / 84) } ∷ []

-- what stands in the target after a file was written over: byte by byte each record with its line end; behind them, what stood there
pub record WrittenOver (used : ℕ) (buffer target after : List ℕ) : Type 0 where
  pub same_length : length after ≡ length target
  pub byte : (k i : ℕ) → k < used / 84 → i < 84 → get_or after (86 * k + i) 0 ≡ get_or buffer (84 * k + i) 0
  pub ended : (k : ℕ) → k < used / 84 → Ended after k
  pub behind : (i : ℕ) → 86 * (used / 84) ≤ i → get_or after i 0 ≡ get_or target i 0

-- and after one was written back
pub record WrittenBack (used : ℕ) (buffer target after : List ℕ) : Type 0 where
  pub same_length : length after ≡ length target
  pub byte : (k i : ℕ) → k < used / 86 → i < 84 → get_or after (84 * k + i) 0 ≡ get_or buffer (86 * k + i) 0
  pub behind : (i : ℕ) → 84 * (used / 86) ≤ i → get_or after i 0 ≡ get_or target i 0
