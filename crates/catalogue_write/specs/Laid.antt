-- Inside: no public contract cites what stands in this file, and no reader has to believe it.
-- The contents that the writer works out, and what may be laid out as a file.
use Rattle.std.specs.Prelude.{ℕ, ◌+◌, ◌*◌, ◌≤◌, ◌<◌, ◌≡◌, List, [], ◌∷◌, ◌++◌, length, get_or}
use Rattle.rows.specs.Limits.{alphabet_most, programmes_most, file_most}
use Rattle.wire.specs.Wire.{bytes_of}
use Rattle.catalogue.specs.Catalogue.{contents, first_row}
use Rattle.catalogue.specs.Refusals.{total, size_of}
use Rattle.catalogue.specs.declared.Entry.{Entry}

-- the entries of rows that start at byte `at`, one behind the other, by their numbers and lengths
unfoldable pub laid : ℕ → List ℕ → List ℕ → List Entry
laid at [] ls = []
laid at (n ∷ ns) [] = []
laid at (n ∷ ns) (l ∷ ls) = (record { programme = n; start = at; length = l }) ∷ laid (at + 2 * l) ns ls

-- the bytes of a file before its rows
unfoldable pub front_of : List ℕ → List ℕ → List ℕ → List ℕ
front_of A ns ls = bytes_of (length ns ∷ (length A ∷ contents (laid (first_row (length ns) (length A)) ns ls))) ++ A

-- as many lengths as numbers, of at most 256 programmes, which add up to the m symbols of the rows
pub record Given (ns ls : List ℕ) (m : ℕ) : Type 0 where
  pub few : length ns ≤ programmes_most
  pub many : length ls ≡ length ns
  pub sum : total ls ≡ m

-- an alphabet of at most 1,024 small arities, and a file that is not too long and has room for what stands before its rows
pub record Layable (A ns ls f : List ℕ) : Type 0 where
  pub few : length ns ≤ programmes_most
  pub many : length ls ≡ length ns
  pub symbols : length A ≤ alphabet_most
  pub small : (k : ℕ) → get_or A k 0 < 256
  pub size : size_of A ns (total ls) ≤ file_most
  pub fits : first_row (length ns) (length A) ≤ length f
