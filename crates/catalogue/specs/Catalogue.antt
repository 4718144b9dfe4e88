-- Catalogues, and the file of each. A number of two bytes has the low byte first (`bytes_of`).
use Rattle.std.specs.Prelude.{ℕ, suc, ◌+◌, ◌*◌, ◌/◌, ◌%◌, ◌<◌, ◌≤◌, ◌≡◌, List, [], ◌∷◌, ◌++◌, map, length, get_or, Ok}
use Rattle.rows.specs.Limits.{row_most, programmes_most, file_most}
use Rattle.rows.specs.Programme.{alphabet_of}
use Rattle.rows.specs.Row.{reading}
use Rattle.rows.specs.Refusals.{alphabet}
use Rattle.rows.specs.declared.Leaves.TheVariants.{Symbols}
use Rattle.wire.specs.Wire.{bytes_of}
use Rattle.catalogue.specs.declared.Entry.{Entry}

-- a programme of a catalogue: its number and its row
pub record Numbered : Type 0 where
  pub number : ℕ
  pub row : List ℕ

-- an alphabet, and programmes over it
pub record Catalogue : Type 0 where
  pub arities : List ℕ
  pub programmes : List Numbered

abbrev pub number_of : Numbered → ℕ
number_of p = p.number

abbrev pub row_of : Numbered → List ℕ
row_of p = p.row

-- a number of four bytes is two of two bytes, the low one first
unfoldable pub halves : ℕ → List ℕ
halves v = (v % 65536) ∷ ((v / 65536) ∷ [])

-- the contents, six numbers of two bytes an entry
unfoldable pub contents : List Entry → List ℕ
contents [] = []
contents (e ∷ es) = halves e.programme ++ (halves e.start ++ (halves e.length ++ contents es))

-- the entries of programmes whose rows start at byte `at`, one behind the other
unfoldable pub entries : ℕ → List Numbered → List Entry
entries at [] = []
entries at (p ∷ ps) =
    (record { programme = p.number; start = at; length = length p.row }) ∷ entries (at + 2 * length p.row) ps

-- the rows, one behind the other
unfoldable pub rows : List Numbered → List ℕ
rows [] = []
rows (p ∷ ps) = p.row ++ rows ps

-- the byte where the first row starts, behind head, contents and arities, for n programmes and s symbols
unfoldable pub first_row : ℕ → ℕ → ℕ
first_row n s = 4 + 12 * n + s

-- head and contents, as numbers of two bytes
unfoldable pub opening : Catalogue → List ℕ
opening c =
    length c.programmes
    ∷ (length c.arities
    ∷ contents (entries (first_row (length c.programmes) (length c.arities)) c.programmes))

-- the file: head and contents, the arities, a byte each, and the rows
unfoldable pub file_of : Catalogue → List ℕ
file_of c = bytes_of (opening c) ++ (c.arities ++ bytes_of (rows c.programmes))

-- the numbers rise strictly: each is below the next one
abbrev pub Rising : List ℕ → Type 0
Rising ns = (k : ℕ) → suc k < length ns → get_or ns k 0 < get_or ns (suc k) 0

-- a catalogue that is accepted: its alphabet is; it has at most 256 programmes, by strictly rising number, each with a row that is;
-- and its file is at most 65,536 bytes long
pub record Accepted (c : Catalogue) : Type 0 where
  pub alphabet : alphabet (alphabet_of c.arities) ≡ Ok tt
  pub few : length c.programmes ≤ programmes_most
  pub rising : Rising (map number_of c.programmes)
  pub rows : (k : ℕ) → k < length c.programmes → reading c.arities Symbols row_most (get_or (map row_of c.programmes) k []) ≡ Ok tt
  pub size : length (file_of c) ≤ file_most
