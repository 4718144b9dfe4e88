-- Numbers as lent bytes: two bytes each, the low one first.
use Rattle.std.specs.Prelude.{ℕ, ◌+◌, ◌*◌, ◌/◌, ◌%◌, ◌<◌, List, [], ◌∷◌, get_or, set}
unfoldable pub use Rattle.rows.specs.Bytes.{numbers}

-- the bytes of numbers
unfoldable pub bytes_of : List ℕ → List ℕ
bytes_of [] = []
bytes_of (v ∷ vs) = (v % 256) ∷ ((v / 256) ∷ bytes_of vs)

-- the bytes with number i set to v
unfoldable pub with_number : List ℕ → ℕ → ℕ → List ℕ
with_number bs i v = set (set bs (2 * i) (v % 256)) (2 * i + 1) (v / 256)

-- what lent bytes are: no byte is over 255
abbrev pub Bytes : List ℕ → Type 0
Bytes bs = (i : ℕ) → get_or bs i 0 < 256
