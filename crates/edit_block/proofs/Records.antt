-- The records of a block. Assumes nothing.
use mathlib.Core.Path.{◌≡◌, refl, ap, sym, ◌∙◌}
use mathlib.Core.List.{List, []}
use Prim.Native.Nat.{ℕ, ◌/◌, ◌<◌}
use lib.ListN.{length, get_or}
use Rattle.files.specs.declared.Stride.TheVariants.{Plain}
use Rattle.files.specs.Records.{records_of}
use Rattle.files.proofs.Records.{count-plain, record_wide}

pub block_long : (block : List ℕ) → length (records_of Plain block) ≡ length block / 84
block_long block = sym (count-plain Plain block refl)

pub block_wide : (block r : List ℕ) (i : ℕ) → r ≡ get_or (records_of Plain block) i [] → i < length block / 84 → length r ≡ 84
block_wide block r i read h = ap length read ∙ record_wide Plain block i (rw (block_long block) h)
