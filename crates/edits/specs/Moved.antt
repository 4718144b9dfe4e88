-- Inside: no public contract cites what stands in this file, and no reader has to believe it.
-- The ends in a table once a subtree that ended at `e` ends at `to`.
use Rattle.std.specs.Prelude.{ℕ, List, ◌++◌, map, ltb, take, drop}
use Rattle.rows.specs.Row.{pick}
use Rattle.buffers.specs.Shift.{shifted}

-- an end before the old subtree's end stays, any other keeps its distance from it
abbrev pub moved : ℕ → ℕ → ℕ → ℕ
moved e to x = pick (ltb x e) x (shifted e to x)

-- the table w with the entries from p to e, a subtree's, replaced by `new`, which are those of a subtree that ends at `to`
unfoldable pub spliced_ends : List ℕ → ℕ → ℕ → ℕ → List ℕ → List ℕ
spliced_ends w p e to new = map (moved e to) (take p w) ++ (new ++ map (shifted e to) (drop e w))
