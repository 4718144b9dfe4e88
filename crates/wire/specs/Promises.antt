-- The promises on numbers as bytes. Each is proved in proofs/Promises, under the same name in small letters.
use Rattle.std.specs.Prelude.{ℕ, ◌*◌, ◌≡◌, List, length, drop}
use Rattle.rows.specs.Buffers.{written}
use Rattle.wire.specs.Wire.{numbers, bytes_of, Bytes}

-- what is read is what was written
abbrev pub ReadsBack : Type 0
ReadsBack = (v : List ℕ) → numbers (bytes_of v) ≡ v

-- writing what was read changes no byte
abbrev pub WritesBack : Type 0
WritesBack = (b : List ℕ) → Bytes b → written b 0 (bytes_of (numbers b)) ≡ b

-- bytes over all of whose numbers others are written hold these, and an odd last byte stays
abbrev pub OddByteIsKept : Type 0
OddByteIsKept = (b v : List ℕ) → length v ≡ length (numbers b)
    → (numbers (written b 0 (bytes_of v)) ≡ v) × (drop (2 * length v) (written b 0 (bytes_of v)) ≡ drop (2 * length v) b)
