-- Inside: no public contract cites what stands in this file, and no reader has to believe it.
-- What a replacement asks for, and what it leaves.
use Rattle.std.specs.Prelude.{ℕ, ◌≤◌, ◌<◌, ◌≡◌, List, length, take}
use Rattle.rows.specs.Limits.{row_most, freed_symbol, freed_entry, freed_class}
use Rattle.rows.specs.Programme.{Programme}
use Rattle.rows.specs.Tree.{size, prefix, ends}
use Rattle.rows.specs.Classes.{classes_of}
use Rattle.rows.specs.Reading.{Accepted}
use Rattle.tables.specs.Given.{Right}
use Rattle.buffers.specs.Renewed.{renewed}
use Rattle.edits.specs.Put.{changed}

-- an accepted row, the first n places of its buffer, with its table; an accepted replacement; a position of the row; and room
-- for the new row: what the refusals leave
pub record Replaceable (A row table : List ℕ) (n : ℕ) (v : List ℕ) (p : ℕ) : Type 0 where
  pub within : n ≤ length row
  pub right : Right A (take n row) table
  pub accepted : Accepted A v
  pub position : p < n
  pub most : size (changed A (take n row) p v) ≤ row_most
  pub row_room : size (changed A (take n row) p v) ≤ length row
  pub table-room : size (changed A (take n row) p v) ≤ length table

-- the new length m, and what the row's buffer and the table hold: the row and the table of the changed tree, blanks in the
-- places that are freed, and what stood behind them before
pub record Replacing (A row table : List ℕ) (n : ℕ) (v : List ℕ) (p : ℕ) (row' table' : List ℕ) (m : ℕ) : Type 0 where
  pub length_now : m ≡ size (changed A (take n row) p v)
  pub row_now : row' ≡ renewed row n freed_symbol (prefix (changed A (take n row) p v))
  pub table_now : table' ≡ renewed table n freed_entry (ends 0 (changed A (take n row) p v))

-- room in the list of classes, of which n places are in use, for those of the changed tree
pub record ClassRoom (A row classes : List ℕ) (n : ℕ) (v : List ℕ) (p : ℕ) : Type 0 where
  pub old : n ≤ length classes
  pub new : size (changed A (take n row) p v) ≤ length classes

-- the list holds the classes of the changed tree, zeros in the places that are freed, and what stood behind them before
pub record Reclassing (A row classes : List ℕ) (n : ℕ) (v : List ℕ) (p : ℕ) (classes' : List ℕ) : Type 0 where
  pub classes_now : classes' ≡ renewed classes n freed_class (classes_of (changed A (take n row) p v))

-- what a replacement in a row, its table and its classes asks for
abbrev pub Changeable : List ℕ → Programme → ℕ → List ℕ → ℕ → Type 0
Changeable A P n v p = Replaceable A P.row P.table n v p × ClassRoom A P.row P.classes n v p

-- what it leaves of them, P', and the new length m
abbrev pub Changing : List ℕ → Programme → ℕ → List ℕ → ℕ → Programme → ℕ → Type 0
Changing A P n v p P' m = Replacing A P.row P.table n v p P'.row P'.table m × Reclassing A P.row P.classes n v p P'.classes
