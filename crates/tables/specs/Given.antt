-- Inside: no public contract cites what stands in this file, and no reader has to believe it.
-- What the checks leave to go on with, and what filling a table asks for.
use Rattle.std.specs.Prelude.{ℕ, ◌+◌, ◌≤◌, ◌≡◌, List, ltb, length, take, Ok, Err, Option, Some, None}
use Rattle.rows.specs.Limits.{row_most}
use Rattle.rows.specs.Row.{pick}
use Rattle.rows.specs.Reading.{Accepted}
use Rattle.rows.specs.Parse.{table}
use Rattle.rows.specs.Classes.{classes}
use Rattle.rows.specs.Programme.{Alphabet, Programme}
use Rattle.rows.specs.Refusals.{fresh}
use Rattle.rows.specs.declared.Kept.{Kept}
use Rattle.rows.specs.declared.Kept.TheVariants.{Stale}
use Rattle.rows.specs.declared.Refusal.{Refusal}

-- a row of at most so many symbols is tiny, short, fair, and of middle length: the ends of its trees are kept in less room
abbrev pub tiny : ℕ
tiny = 64

abbrev pub short : ℕ
short = 512

abbrev pub fair : ℕ
fair = 1024

abbrev pub middle : ℕ
middle = 4096

-- a row within the sizes, and a table with room for it
pub record Sized (w t : List ℕ) : Type 0 where
  pub most : length w ≤ row_most
  pub fits : length w ≤ length t

-- an accepted row with its table
pub record Right (A w t : List ℕ) : Type 0 where
  pub accepted : Accepted A w
  pub sized : Sized w t
  pub right : take (length w) t ≡ table A w

-- the list c begins with the classes of the row w
pub record Classed (A w c : List ℕ) : Type 0 where
  pub fits : length w ≤ length c
  pub right : take (length w) c ≡ classes A w

-- a programme in order: an accepted row with its table and its classes, which is what refusals 1 to 10 and 62 leave
pub record InOrder (a : Alphabet) (P : Programme) : Type 0 where
  pub row : Right a.arities P.row P.table
  pub classed : Classed a.arities P.row P.classes

-- an accepted row, and a table with room for its ends from place `at` on
pub record Fillable (A w t : List ℕ) (at : ℕ) : Type 0 where
  pub accepted : Accepted A w
  pub most : at + length w ≤ row_most
  pub fits : at + length w ≤ length t

-- what the pass over a row and a table sees: the row is no tree's; or it is one's, and the first entry that is not the row's
-- stands at k, none where k is past the row
abbrev pub Sees : List ℕ → List ℕ → List ℕ → Option ℕ → Type 0
Sees A w t None = Accepted A w → ⊥
Sees A w t (Some k) = Accepted A w × ((whose : Kept → Refusal) → fresh whose A w t ≡ pick (ltb k (length w)) (Err (whose (Stale k))) (Ok tt))
