-- What build answers, and what it leaves beside the row.
use Rattle.std.specs.Prelude.{◌≡◌, Result, ⊤}
use Rattle.rows.specs.Programme.{Alphabet, Programme}
use Rattle.rows.specs.Parse.{table as table_of}
use Rattle.rows.specs.Classes.{classes as classesOfRow}
use Rattle.rows.specs.Buffers.{written, after}
use Rattle.checks.specs.Checks.{build_check}
use Rattle.rows.specs.declared.Refusal.{Refusal}

-- the row with its own table and its own classes at the front of the lent lists; later places stay
abbrev pub built : Alphabet → Programme → Programme
built a P =
    record {
      row = P.row;
      table = written P.table 0 (table_of a.arities P.row);
      classes = written P.classes 0 (classesOfRow a.arities P.row);
    }

-- `r` answers a build, and `P'` is what the lists hold afterwards
pub record Built (a : Alphabet) (P : Programme) (r : Result ⊤ Refusal) (P' : Programme) : Type 0 where
  pub answer : r ≡ build_check a P
  pub lists : P' ≡ after (build_check a P) (built a P) P
