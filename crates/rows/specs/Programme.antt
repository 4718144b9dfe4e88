-- What the calls are lent: what a symbol means, and a row with what is kept beside it. Each is one value. A statement that does not
-- speak of one of its lists does not name it, and only the contract of a function says which lent lists make up the value.
use Rattle.std.specs.Prelude.{ℕ, min, List, length, take}
use Rattle.rows.specs.declared.Programme.{Programme as Lent}

-- symbol k has the arity at place k
pub record Alphabet : Type 0 where
  pub arities : List ℕ

abbrev pub alphabet_of : List ℕ → Alphabet
alphabet_of A = record { arities = A }

-- a row, or the buffer that begins with it, its table and its classes
pub record Programme : Type 0 where
  pub row : List ℕ
  pub table : List ℕ
  pub classes : List ℕ

abbrev pub programme : List ℕ → List ℕ → List ℕ → Programme
programme w t c = record { row = w; table = t; classes = c }

-- how many places the shortest of its lists has
abbrev pub room : Programme → ℕ
room P = min (length P.row) (min (length P.table) (length P.classes))

-- the programme whose row is the first n symbols
abbrev pub front : ℕ → Programme → Programme
front n P = record { row = take n P.row; table = P.table; classes = P.classes }

-- the first n places of each of its lists
abbrev pub cut : ℕ → Programme → Programme
cut n P = record { row = take n P.row; table = take n P.table; classes = take n P.classes }

-- the lists of a programme that is lent
abbrev pub programme_of : Lent → Programme
programme_of p = programme p.row.now p.table.now p.classes.now
