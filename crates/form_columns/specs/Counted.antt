-- A doubt that counts, as the code counts it. Assumes nothing.
use Rattle.std.specs.Prelude.{Bool, cond, ℕ}

-- a doubt in a used column counts, another does not
unfoldable pub counted_if : Bool → ℕ → ℕ
counted_if used doubt = cond used doubt 0
