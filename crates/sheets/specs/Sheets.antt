-- Inside: no public contract cites what stands in this file, and no reader has to believe it.
-- What the functions of this crate ask for, and what they promise to the public call.
use Rattle.std.specs.Prelude.{ℕ, ◌*◌, ◌≤◌, ◌<◌, ◌≡◌, List, [], length, Result, Ok, Err}
use Rattle.rows.specs.Limits.{sheet_most, result_places}
use Rattle.rows.specs.Programme.{Alphabet, Programme}
use Rattle.rows.specs.Sheet.{begin_of, pattern_at, laid}
use Rattle.rows.specs.Buffers.{written, after}
use Rattle.rows.specs.Refusals.{given, pattern}
use Rattle.patterns.specs.Walk.{list_of}
use Rattle.sheets.specs.Result.{result_of}

-- the positions of a pattern: its matches; none where it is refused
unfoldable pub alone : Alphabet → List ℕ → List ℕ → List ℕ
alone a w q = after (pattern a.arities q) (list_of a w q) []

unfoldable pub result : Alphabet → List ℕ → List ℕ → List ℕ
result a w q = result_of (pattern a.arities q) (length (alone a w q))

-- those of pattern i of a sheet
abbrev pub positions_of : Alphabet → List ℕ → List ℕ → List ℕ → ℕ → List ℕ
positions_of a w qs ls i = alone a w (pattern_at qs ls i)

abbrev pub results_of : Alphabet → List ℕ → List ℕ → List ℕ → ℕ → List ℕ
results_of a w qs ls i = result a w (pattern_at qs ls i)

-- the buffer y then holds y': the list ps at its front, if it has room for it
pub record Holds (ps y y' : List ℕ) : Type 0 where
  pub long : length y' ≡ length y
  pub front : length ps ≤ length y → y' ≡ written y 0 ps

-- pattern q has r positions, the buffer y holds them, and its result, as that of pattern i, is written to the list z
pub record Answered (a : Alphabet) (w q y : List ℕ) (i : ℕ) (z : List ℕ) (r : ℕ) (y' z' : List ℕ) : Type 0 where
  pub count : r ≡ length (alone a w q)
  pub positions : Holds (alone a w q) y y'
  pub result : z' ≡ written z (result_places * i) (result a w q)

-- n patterns of a sheet have r positions, the buffer y holds them, and their results are written to the list z
pub record AnsweredTo (a : Alphabet) (w qs ls : List ℕ) (n : ℕ) (y z : List ℕ) (r : ℕ) (y' z' : List ℕ) : Type 0 where
  pub count : r ≡ length (laid (positions_of a w qs ls) n)
  pub positions : Holds (laid (positions_of a w qs ls) n) y y'
  pub results : z' ≡ written z 0 (laid (results_of a w qs ls) n)

-- what refusals 1 to 10, 62, 63, 64 and 19 leave: the list z has room for the results of the patterns qs of lengths ls
pub record Answerable (a : Alphabet) (P : Programme) (qs ls z : List ℕ) : Type 0 where
  pub given : given a P (length P.row) ≡ Ok tt
  pub few : length ls ≤ sheet_most
  pub sum : begin_of ls (length ls) ≡ length qs
  pub room : result_places * length ls ≤ length z

-- what is told of the positions ps and the results rs, for two outputs: all are written at their fronts; or nothing is, since the first
-- needs more places
abbrev pub SheetTold : (ps rs y z : List ℕ) → Result ℕ ℕ → (y' z' : List ℕ) → Type 0
SheetTold ps rs y z (Ok n) y' z' = (n ≡ length ps) × (n ≤ length y) × (y' ≡ written y 0 ps) × (z' ≡ written z 0 rs)
SheetTold ps rs y z (Err n) y' z' = (n ≡ length ps) × (length y < n) × (y' ≡ y) × (z' ≡ z)

-- that is told of a whole sheet
abbrev pub SheetListed : Alphabet → List ℕ → (qs ls y z : List ℕ) → Result ℕ ℕ → (y' z' : List ℕ) → Type 0
SheetListed a w qs ls y z r y' z' = SheetTold (laid (positions_of a w qs ls) (length ls)) (laid (results_of a w qs ls) (length ls)) y z r y' z'
