-- The records of a file, by how far one starts behind the one before it; stage one. Assumes nothing.
use Rattle.std.specs.Prelude.{Bool, List, [], ◌∷◌, ℕ, zero, suc, ◌/◌, length, take, drop}
use Rattle.format.specs.Basics as Basics
use Rattle.files.specs.declared.Stride.{Stride}
use Rattle.files.specs.declared.Stride.TheVariants.{Plain, Lines}

-- "records of 84 bytes, no line ends"; a line end has two bytes
unfoldable pub stride_of : Stride → ℕ
stride_of Plain = 84
stride_of Lines = 86

-- n records of 84 bytes, each starting so many bytes behind the one before it
abbrev pub spaced : (stride n : ℕ) → List ℕ → List (List ℕ)
spaced stride zero bs = []
spaced stride (suc n) bs = take 84 bs ∷ spaced stride n (drop stride bs)

-- those of a file; for `Plain` format's `chunks`, by `plain-records` of proofs/Records
unfoldable pub records_of : Stride → List ℕ → List (List ℕ)
records_of stride file = spaced (stride_of stride) (length file / stride_of stride) file

-- "used length 0, above the buffer, not a multiple of 84, or above 200,000 records" is 1; for `Plain` format's `stage_one_ok`
unfoldable pub length_ok : Stride → (used : ℕ) → List ℕ → Bool
length_ok stride used buffer = Basics.length_ok (stride_of stride) used buffer
