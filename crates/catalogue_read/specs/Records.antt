-- Inside: no public contract cites what stands in this file, and no reader has to believe it.
-- The records that a caller lends, with a file's entries written to the front of them.
use Rattle.std.specs.Prelude.{ℕ, zero, suc, ◌+◌, ◌*◌, List, set}
use Rattle.catalogue.specs.Reading.{entry_at}
use Rattle.catalogue.specs.declared.Entry.{Entry}

-- the first n entries, of a file with these numbers, one after the other
unfoldable pub stored : List ℕ → ℕ → List Entry → List Entry
stored w zero es = es
stored w (suc n) es = set (stored w n es) n (entry_at w (2 + 6 * n))
