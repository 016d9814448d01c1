-- What the programs of stored calls read and print: a number in a head, a digest of bytes, and many bytes read. Assumes nothing.
use Rattle.std.specs.Prelude.{ℕ, ◌+◌, ◌*◌, ◌%◌, ◌≡◌, ◌<◌, List, length, min, take, drop, ⊤, None, Some}
use Rattle.std.specs.declared.option.Option.{Option}
use Rattle.std.specs.Io.KnownBytes.{Consumes}

-- one digit more, of a number of at most ten digits
abbrev pub with_digit : ℕ → ℕ → ℕ
with_digit n digit = n % 1000000000 * 10 + digit % 16

-- one byte more: each counts 31 times for each byte behind it, modulo a prime
abbrev pub with_byte : ℕ → ℕ → ℕ
with_byte h byte = (h % 4294967291 * 31 + byte) % 4294967291

-- n bytes read from a reader whose bytes are known: as many as the buffer has room for, or all where they are fewer. They stand at its start in order,
-- and the reader keeps the rest. Of another reader it says nothing
abbrev pub ReadFull : (before after : Option (List ℕ)) (buffer : List ℕ) (n : ℕ) → Type 0
ReadFull None after buffer n = ⊤
ReadFull (Some bytes) after buffer n = (n ≡ min (length buffer) (length bytes)) × (take n buffer ≡ take n bytes) × (after ≡ Some (drop n bytes))

-- fewer bytes read than the buffer has room for: they stand at its start in order, and the reader keeps the rest. Of a reader whose bytes are not known:
-- the buffer has room
abbrev pub ReadPart : (before after : Option (List ℕ)) (buffer : List ℕ) → Type 0
ReadPart before after buffer = (n : ℕ) × (n < length buffer) × Consumes before after (take n buffer)
