-- Records that can be told at once. Assumes nothing.
use Rattle.std.specs.Prelude.{Bool, true, ◌&&◌, List, [], ◌∷◌, ℕ, eqb, length, get_or}
use Rattle.format.specs.Layout.{Col, bytes_of}
use Rattle.form_bytes.specs.Told.{told_at_once}

-- every column of a layout can be told at once: it is well formed; its number is inside its rule, but for a 0 where a number above 0 is due and for a list,
-- of which only a number of at least 0 is asked; and no 0 of it stands right after a minus. A space counts as the byte before a record
unfoldable pub all_told : List Col → List ℕ → Bool
all_told [] r = true
all_told (c ∷ cs) r = told_at_once c.what (get_or (32 ∷ r) c.start 0) (bytes_of c r) && all_told cs r

-- "records of 84 bytes"; others cannot be told
unfoldable pub sure : List Col → List ℕ → Bool
sure layout r = eqb (length r) 84 && all_told layout r
