-- What writing a catalogue answers, and what it leaves in the file's buffer.
use Rattle.std.specs.Prelude.{ℕ, ◌≡◌, List, length, Result, Ok, Err, ⊤}
use Rattle.rows.specs.Buffers.{written, after}
use Rattle.catalogue.specs.Catalogue.{file_of}
use Rattle.catalogue.specs.Refusals.{catalogue_of, write_check}
use Rattle.rows.specs.declared.Refusal.{Refusal}

-- the file's size, or the refusal
abbrev pub filed : Result ⊤ Refusal → ℕ → Result ℕ Refusal
filed (Ok _) n = Ok n
filed (Err r) n = Err r

-- `r` answers a writing of the programmes with the numbers ns, the lengths ls and the rows w laid end to end, under the arities A, and
-- `b'` is the buffer afterwards: the catalogue's file at its front, and its later bytes
pub record Writes (A ns ls w b : List ℕ) (r : Result ℕ Refusal) (b' : List ℕ) : Type 0 where
  pub answer : r ≡ filed (write_check A ns ls w (length b)) (length (file_of (catalogue_of A ns ls w)))
  pub file : b' ≡ after (write_check A ns ls w (length b)) (written b 0 (file_of (catalogue_of A ns ls w))) b
