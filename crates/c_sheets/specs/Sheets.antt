-- Inside: no public contract cites what stands in this file, and no reader has to believe it.
-- What the functions of this crate promise to each other.
use Rattle.std.specs.Prelude.{ℕ, ◌+◌, ◌*◌, ◌≤◌, ◌≡◌, List, length}
use Rattle.rows.specs.Programme.{Alphabet}
use Rattle.rows.specs.Sheet.{laid}
use Rattle.rows.specs.Buffers.{written}
use Rattle.sheets.specs.Sheets.{positions_of, results_of}
use Rattle.wire.specs.Wire.{numbers, bytes_of}

-- the bytes y are then y': those of the list ps at their front, if they have room for it
pub record HoldsBytes (ps y y' : List ℕ) : Type 0 where
  pub long : length y' ≡ length y
  pub front : length ps ≤ length (numbers y) → y' ≡ written y 0 (bytes_of ps)

-- the bytes y are then y': those of the list l behind n numbers, if they have room for it
pub record PutBehind (l : List ℕ) (n : ℕ) (y y' : List ℕ) : Type 0 where
  pub long : length y' ≡ length y
  pub behind : n + length l ≤ length (numbers y) → y' ≡ written y (2 * n) (bytes_of l)

-- n patterns of a sheet have r positions, the bytes y hold them, and their results are written to the list z
pub record AnsweredBytes (a : Alphabet) (w qs ls : List ℕ) (n : ℕ) (y z : List ℕ) (r : ℕ) (y' z' : List ℕ) : Type 0 where
  pub count : r ≡ length (laid (positions_of a w qs ls) n)
  pub positions : HoldsBytes (laid (positions_of a w qs ls) n) y y'
  pub results : z' ≡ written z 0 (laid (results_of a w qs ls) n)
