-- Inside: no public contract cites what stands in this file, and no reader has to believe it.
-- Copies of lent numbers.
use Rattle.std.specs.Prelude.{ℕ, ◌+◌, ◌≤◌, min, max, ◌≡◌, List, length, take, Result, Ok, ⊤}
use Rattle.rows.specs.Limits.{row_most}
use Rattle.rows.specs.Programme.{Programme, alphabet_of, programme}
use Rattle.rows.specs.Refusals.{given}
use Rattle.classes.specs.Lasts.{few_heads}
use Rattle.rows.specs.declared.Refusal.{Refusal}

-- `w`, `t` and `c` begin with the first n numbers of the row, of its table and of its classes
pub record Copied (P : Programme) (n : ℕ) (w t c : List ℕ) : Type 0 where
  pub row : take n w ≡ take n P.row
  pub table : take n t ≡ take n P.table
  pub classes : take n c ≡ take n P.classes

-- the check of an alphabet A and of a programme says `r`; and where it refuses nothing, the copies begin with these, as far as the row goes,
-- and are not refused either
pub record Read (A : List ℕ) (P : Programme) (r : Result ⊤ Refusal) (a w t c : List ℕ) : Type 0 where
  pub answer : r ≡ given (alphabet_of A) P (length P.row)
  pub alphabet : r ≡ Ok tt → take (length A) a ≡ A
  pub copied : r ≡ Ok tt → Copied P (length P.row) w t c
  pub again : r ≡ Ok tt → given (alphabet_of A) (programme P.row (take (length P.row) t) (take (length P.row) c)) (length P.row) ≡ Ok tt

-- rooms for a row of n numbers in and beside which one of m numbers is put: for the row, its table and its classes once it stands there, for
-- the m numbers themselves, and one room for the ends of either and then for the heads of the classes
pub record Rooms (n m : ℕ) (w t c v room : List ℕ) : Type 0 where
  pub row : min row_most (n + m) ≤ length w
  pub table : min row_most (n + m) ≤ length t
  pub classes : min row_most (n + m) ≤ length c
  pub replacement : min row_most m ≤ length v
  pub ends : min row_most (max n m) ≤ length room
  pub heads : few_heads ≤ length room
