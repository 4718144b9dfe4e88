-- What the calls on bar notation answer, and what they leave in the lent buffers.
use Rattle.std.specs.Prelude.{ℕ, ◌≡◌, List, length, Result, Ok, Err, ⊤}
use Rattle.rows.specs.Buffers.{written, after}
use Rattle.bars.specs.Bars.{bars_of, unbarred, read_check, write_check}
use Rattle.rows.specs.declared.Refusal.{Refusal}

-- how many symbols are read, how many numbers are written; or the refusal
abbrev pub bars_read : Result ⊤ Refusal → ℕ → Result ℕ Refusal
bars_read (Ok _) n = Ok n
bars_read (Err r) n = Err r

abbrev pub bars_written : Result ⊤ Refusal → ℕ → Result ℕ Refusal
bars_written (Ok _) n = Ok n
bars_written (Err r) n = Err r

-- `r` answers a reading of the bars v under the arities A, and `w'` is the buffer w afterwards: the row that the bars spell at its
-- front, and its later places; a refusal leaves it
pub record ReadsBars (A v w : List ℕ) (r : Result ℕ Refusal) (w' : List ℕ) : Type 0 where
  pub answer : r ≡ bars_read (read_check A v (length w)) (length (unbarred v))
  pub row : w' ≡ after (read_check A v (length w)) (written w 0 (unbarred v)) w

-- `r` answers a writing of the row w under the arities A, and `b'` is the buffer b afterwards: the row's bar form at its front, and
-- its later places; a refusal leaves it
pub record WritesBars (A w b : List ℕ) (r : Result ℕ Refusal) (b' : List ℕ) : Type 0 where
  pub answer : r ≡ bars_written (write_check A w (length b)) (length (bars_of A w))
  pub bars : b' ≡ after (write_check A w (length b)) (written b 0 (bars_of A w)) b
