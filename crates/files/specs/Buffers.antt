-- Bytes put into a lent buffer. Assumes nothing.
use Rattle.std.specs.Prelude.{cond, List, ℕ, ◌+◌, leb, length}
use Rattle.format.specs.Layout.{splice}

-- bytes put into a buffer, from `at` on: what stands before and behind them stays. All stays where they have no room there
unfoldable pub put_at : (buffer : List ℕ) → (at : ℕ) → (bytes : List ℕ) → List ℕ
put_at buffer at bytes = cond (leb (at + length bytes) (length buffer)) (splice at (length bytes) bytes buffer) buffer
