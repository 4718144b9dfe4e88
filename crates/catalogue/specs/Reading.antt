-- What a file holds, read from its bytes.
use Rattle.std.specs.Prelude.{ℕ, zero, suc, ◌+◌, ◌*◌, List, [], ◌∷◌, map, get_or, take, drop}
use Rattle.wire.specs.Wire.{numbers}
use Rattle.catalogue.specs.Catalogue.{Numbered, Catalogue, first_row}
use Rattle.catalogue.specs.declared.Entry.{Entry}

-- the number of four bytes whose halves stand at places i and i + 1
unfoldable pub wide : List ℕ → ℕ → ℕ
wide w i = get_or w i 0 + 65536 * get_or w (i + 1) 0

-- the entry whose six halves begin at place i
unfoldable pub entry_at : List ℕ → ℕ → Entry
entry_at w i = record { programme = wide w i; start = wide w (i + 2); length = wide w (i + 4) }

-- n entries, one behind the other
unfoldable pub entries_of : ℕ → List ℕ → List Entry
entries_of zero w = []
entries_of (suc n) w = entry_at w 0 ∷ entries_of n (drop 6 w)

-- how many programmes and symbols the head says
unfoldable pub programmes_in : List ℕ → ℕ
programmes_in f = get_or (numbers f) 0 0

unfoldable pub symbols_in : List ℕ → ℕ
symbols_in f = get_or (numbers f) 1 0

-- the contents, and the arities behind them
unfoldable pub entries_in : List ℕ → List Entry
entries_in f = entries_of (programmes_in f) (drop 2 (numbers f))

unfoldable pub arities_in : List ℕ → List ℕ
arities_in f = take (symbols_in f) (drop (4 + 12 * programmes_in f) f)

-- the byte where the first row starts
unfoldable pub first_row_in : List ℕ → ℕ
first_row_in f = first_row (programmes_in f) (symbols_in f)

-- the row that an entry tells of
unfoldable pub row_in : List ℕ → Entry → List ℕ
row_in f e = numbers (take (2 * e.length) (drop e.start f))

unfoldable pub programme_in : List ℕ → Entry → Numbered
programme_in f e = record { number = e.programme; row = row_in f e }

-- the catalogue
unfoldable pub catalogue_in : List ℕ → Catalogue
catalogue_in f = record { arities = arities_in f; programmes = map (programme_in f) (entries_in f) }
