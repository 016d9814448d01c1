-- Columns of seven bytes laid end to end, as the data records have them: "3D and net, four points of three I7; 2D, six points of two I7;
-- grid, twelve I7 (all any sign)". Assumes nothing.
use Rattle.std.specs.Prelude.{◌≡◌, Bool, true, ◌&&◌, List, ℕ, zero, suc, ◌+◌, ◌*◌, ◌≤◌, ◌<◌, leb, length, take, drop}
use Rattle.format.specs.Column.{column_of, formed}
use Rattle.format.specs.Layout.{column}

-- the bytes begin with so many columns of seven bytes, each of them well formed: "right-justified: leading spaces, then at most one minus,
-- then one digit or more to the last column"
unfoldable pub each_formed : ℕ → List ℕ → Bool
each_formed zero bytes = true
each_formed (suc count) bytes = formed (column_of (take 7 bytes)) && each_formed count (drop 7 bytes)

-- so many columns of seven bytes from `start` on lie whole in the bytes, and each is well formed
unfoldable pub columns_formed : List ℕ → ℕ → ℕ → Bool
columns_formed bytes start count = leb (start + count * 7) (length bytes) && each_formed count (drop start bytes)

-- the n-th of them, counted from 0, is well formed
abbrev pub IsFormedAt : List ℕ → (start n : ℕ) → Type 0
IsFormedAt bytes start n = formed (column_of (column (start + n * 7) 7 bytes)) ≡ true

-- what is answered of some columns; and the same column by column: true exactly where all lie whole in the bytes and every one is well formed
pub record Told (bytes : List ℕ) (start count : ℕ) (answer : Bool) : Type 0 where
  pub is : answer ≡ columns_formed bytes start count
  pub room : answer ≡ true → start + count * 7 ≤ length bytes
  pub each : answer ≡ true → (n : ℕ) → n < count → IsFormedAt bytes start n
  pub only : start + count * 7 ≤ length bytes → ((n : ℕ) → n < count → IsFormedAt bytes start n) → answer ≡ true
