-- What each move makes of the bytes of a buffer. Private functions alone cite these. Assumes nothing.
use Rattle.std.specs.Prelude.{List, ◌++◌, ℕ, ◌+◌, ◌-◌, length, take, drop, replicate}
use Rattle.std.proofs.Math.Seq.{slice}

-- those from `at` to `used` moved up by n places; the n from `at` on stay as they were
abbrev pub moved_up : (bytes : List ℕ) → (used at n : ℕ) → List ℕ
moved_up bytes used at n = take (at + n) bytes ++ (slice at used bytes ++ drop (used + n) bytes)

-- those from `at` + n to `used` moved down by n places; the n before `used` stay as they were
abbrev pub moved_down : (bytes : List ℕ) → (used at n : ℕ) → List ℕ
moved_down bytes used at n = take at bytes ++ (slice (at + n) used bytes ++ drop (used - n) bytes)

-- a block put in: what follows within the used length moves up
abbrev pub put_in : (bytes : List ℕ) → (used at : ℕ) → (block : List ℕ) → List ℕ
put_in bytes used at block = take at bytes ++ (block ++ (slice at used bytes ++ drop (used + length block) bytes))

-- n bytes taken out: what follows within the used length moves down, and the freed end is filled with spaces
abbrev pub taken_out : (bytes : List ℕ) → (used at n : ℕ) → List ℕ
taken_out bytes used at n = take at bytes ++ (slice (at + n) used bytes ++ (replicate n 32 ++ drop used bytes))
