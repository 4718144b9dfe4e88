-- The bytes that a caller lends for a row and for what is kept beside it. They are one value, as the numbers that they hold are
-- (`Programme`): only the contract of a function says which lent bytes make it up.
use Rattle.std.specs.Prelude.{List, ℕ}
use Rattle.rows.specs.Programme.{Programme, programme}
use Rattle.rows.specs.Buffers.{written}
use Rattle.wire.specs.Wire.{numbers, bytes_of, Bytes}
use Rattle.c_lent.specs.declared.Lent.{Lent as Lists}

pub record Lent : Type 0 where
  pub row : List ℕ
  pub table : List ℕ
  pub classes : List ℕ

abbrev pub lent : List ℕ → List ℕ → List ℕ → Lent
lent row table classes = record { row = row; table = table; classes = classes }

-- the bytes of lists that are lent
abbrev pub lent_of : Lists → Lent
lent_of l = lent l.row.now l.table.now l.classes.now

-- what lent bytes are: no byte is over 255
pub record AreBytes (b : Lent) : Type 0 where
  pub row : Bytes b.row
  pub table : Bytes b.table
  pub classes : Bytes b.classes

-- the numbers that they hold
abbrev pub numbers_of : Lent → Programme
numbers_of b = programme (numbers b.row) (numbers b.table) (numbers b.classes)

-- the bytes with the numbers of `P` written over those beside the row; the row's stay, and so does an odd last byte
abbrev pub beside : Lent → Programme → Lent
beside b P =
    record {
      row = b.row;
      table = written b.table 0 (bytes_of P.table);
      classes = written b.classes 0 (bytes_of P.classes);
    }

-- and over the row's too
abbrev pub rewritten : Lent → Programme → Lent
rewritten b P = record { row = written b.row 0 (bytes_of P.row); table = (beside b P).table; classes = (beside b P).classes }
