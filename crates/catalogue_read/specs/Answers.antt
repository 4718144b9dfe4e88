-- What reading a catalogue file answers, and what it leaves in the lent lists.
use Rattle.std.specs.Prelude.{ℕ, ◌≡◌, List, ◌++◌, length, drop, Result, Ok, Err, ⊤}
use Rattle.rows.specs.Buffers.{written, after}
use Rattle.catalogue.specs.Reading.{programmes_in, symbols_in, entries_in}
use Rattle.catalogue.specs.Refusals.{read_check}
use Rattle.catalogue.specs.declared.Entry.{Entry}
use Rattle.catalogue_read.specs.declared.Opened.{Opened}
use Rattle.rows.specs.declared.Refusal.{Refusal}

-- a file that holds n programmes and s symbols
abbrev pub holding : ℕ → ℕ → Opened
holding n s = record { programmes = n; symbols = s }

-- how many programmes and symbols the file's head says, or the refusal
abbrev pub opened : Result ⊤ Refusal → List ℕ → Result Opened Refusal
opened (Ok _) f = Ok (holding (programmes_in f) (symbols_in f))
opened (Err r) f = Err r

-- `r` answers a reading of the file `f`, and `es'` are the records afterwards: the entries of its contents, and the later of the old
pub record Reads (f : List ℕ) (es : List Entry) (r : Result Opened Refusal) (es' : List Entry) : Type 0 where
  pub answer : r ≡ opened (read_check f (length es)) f
  pub records : es' ≡ after (read_check f (length es)) (entries_in f ++ drop (length (entries_in f)) es) es

-- how many numbers are taken from a file, or the refusal
abbrev pub taken : Result ⊤ Refusal → ℕ → Result ℕ Refusal
taken (Ok _) n = Ok n
taken (Err r) n = Err r

-- `r` answers where `v` is to be taken, `b'` is the list afterwards: `v` at its front, and its later places
pub record Takes (check : Result ⊤ Refusal) (v b : List ℕ) (r : Result ℕ Refusal) (b' : List ℕ) : Type 0 where
  pub answer : r ≡ taken check (length v)
  pub list : b' ≡ after check (written b 0 v) b
