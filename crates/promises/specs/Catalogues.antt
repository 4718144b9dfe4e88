-- The promises on catalogue files, each proved in proofs/Catalogues under the same name in small letters. The contracts are `Reads` and
-- `Takes` (crates/catalogue_read/specs) and `Writes` (crates/catalogue_write/specs); this file says what they come to.
-- f are the bytes of a file, es the records that are lent, n and s the numbers of its programmes and symbols; A are arities, ns numbers,
-- ls lengths, w the rows laid end to end, b is a lent list, r an answer. ' marks what a list holds afterwards.
use Rattle.std.specs.Prelude.{ℕ, ◌<◌, ◌≤◌, ◌≡◌, List, [], map, ◌↔◌, length, get_or, take, drop, Result, Ok, Err, ⊤}
use Rattle.rows.specs.Buffers.{written, One}
use Rattle.rows.specs.declared.Refusal.{Refusal}
use Rattle.wire.specs.Wire.{Bytes as AreBytes}
use Rattle.catalogue.specs.Catalogue.{Catalogue, row_of, entries, first_row, file_of, Accepted}
use Rattle.catalogue.specs.Reading.{arities_in, row_in, catalogue_in}
use Rattle.catalogue.specs.Refusals.{read_check, alphabet_check, row_check, write_check, catalogue_of}
use Rattle.catalogue.specs.Table.{Table}
use Rattle.catalogue.specs.Promises.{ReadsWritten, WritesRead, OneCatalogue, OneFile, AcceptsExactly}
use Rattle.catalogue.specs.declared.Entry.{Entry}
use Rattle.catalogue_read.specs.Answers.{holding, Reads, Takes}
use Rattle.catalogue_read.specs.declared.Opened.{Opened}
use Rattle.catalogue_write.specs.Answers.{Writes}

-- Every byte string gets an answer, and so does every catalogue that is to be written: there is one outcome that the contract admits, and
-- no other. An outcome is the answer and what the lent list holds afterwards.
abbrev pub ReadOne : Type 0
ReadOne = (f : List ℕ) (es : List Entry) → One {X = Result Opened Refusal × List Entry} (λ x. Reads f es x.0 x.1)

abbrev pub TakeOne : Type 0
TakeOne = (check : Result ⊤ Refusal) (v b : List ℕ) → One {X = (Result ℕ Refusal) × List ℕ} (λ x. Takes check v b x.0 x.1)

abbrev pub WriteOne : Type 0
WriteOne = (A ns ls w b : List ℕ) → One {X = (Result ℕ Refusal) × List ℕ} (λ x. Writes A ns ls w b x.0 x.1)

-- A call refuses exactly if its check does, with the refusal of that: the first in its order. The table says when each check refuses.
abbrev pub ReadOrder : Type 0
ReadOrder = (f : List ℕ) (es : List Entry) (r : Result Opened Refusal) (es' : List Entry) (x : Refusal) → Reads f es r es'
    → (r ≡ Err x) ↔ (read_check f (length es) ≡ Err x)

abbrev pub TakeOrder : Type 0
TakeOrder = (check : Result ⊤ Refusal) (v b : List ℕ) (r : Result ℕ Refusal) (b' : List ℕ) (x : Refusal) → Takes check v b r b' → (r ≡ Err x) ↔ (check ≡ Err x)

abbrev pub WriteOrder : Type 0
WriteOrder = (A ns ls w b : List ℕ) (r : Result ℕ Refusal) (b' : List ℕ) (x : Refusal) → Writes A ns ls w b r b'
    → (r ≡ Err x) ↔ (write_check A ns ls w (length b) ≡ Err x)

-- A refusal writes nothing.
abbrev pub ReadRefused : Type 0
ReadRefused = (f : List ℕ) (es : List Entry) (x : Refusal) (es' : List Entry) → Reads f es (Err x) es' → es' ≡ es

abbrev pub TakeRefused : Type 0
TakeRefused = (check : Result ⊤ Refusal) (v b : List ℕ) (x : Refusal) (b' : List ℕ) → Takes check v b (Err x) b' → b' ≡ b

abbrev pub WriteRefused : Type 0
WriteRefused = (A ns ls w b : List ℕ) (x : Refusal) (b' : List ℕ) → Writes A ns ls w b (Err x) b' → b' ≡ b

-- A file that is read is the file of the catalogue that was read. The first records are its entries, and later ones stay.
pub record ReadFile (f : List ℕ) (es : List Entry) (n s : ℕ) (es' : List Entry) : Type 0 where
  pub is_file : file_of (catalogue_in f) ≡ f
  pub accepted : Accepted (catalogue_in f)
  pub programmes : length (catalogue_in f).programmes ≡ n
  pub symbols : length (catalogue_in f).arities ≡ s
  pub records : take n es' ≡ entries (first_row n s) (catalogue_in f).programmes
  pub later : drop n es' ≡ drop n es

abbrev pub ReadAnswers : Type 0
ReadAnswers = (f : List ℕ) (es : List Entry) (n s : ℕ) (es' : List Entry) → AreBytes f → Reads f es (Ok (holding n s)) es' → ReadFile f es n s es'

-- And the file of each catalogue that is accepted is read, if the records have room.
abbrev pub ReadAccepts : Type 0
ReadAccepts = (c : Catalogue) (es : List Entry) (r : Result Opened Refusal) (es' : List Entry) → Accepted c → length c.programmes ≤ length es
    → Reads (file_of c) es r es' → r ≡ Ok (holding (length c.programmes) (length c.arities))

-- The row of record k of a file that was read is programme k's, and its alphabet the catalogue's: neither is refused where the list has room.
abbrev pub record_at : List Entry → ℕ → Entry
record_at es k = get_or es k (record { programme = 0; start = 0; length = 0 })

abbrev pub row_at : List ℕ → ℕ → List ℕ
row_at f k = get_or (map row_of (catalogue_in f).programmes) k []

abbrev pub RowOfRecord : Type 0
RowOfRecord = (f : List ℕ) (es : List Entry) (n s : ℕ) (es' : List Entry) (k : ℕ) → Reads f es (Ok (holding n s)) es' → k < n
    → (b : List ℕ) (r : Result ℕ Refusal) (b' : List ℕ) → length (row_at f k) ≤ length b
    → Takes (row_check f (record_at es' k) (length b)) (row_in f (record_at es' k)) b r b'
    → (r ≡ Ok (length (row_at f k))) × (b' ≡ written b 0 (row_at f k))

abbrev pub AlphabetOfFile : Type 0
AlphabetOfFile = (f : List ℕ) (es : List Entry) (n s : ℕ) (es' : List Entry) → Reads f es (Ok (holding n s)) es'
    → (b : List ℕ) (r : Result ℕ Refusal) (b' : List ℕ) → s ≤ length b → Takes (alphabet_check f (length b)) (arities_in f) b r b'
    → (r ≡ Ok s) × (b' ≡ written b 0 (catalogue_in f).arities)

-- What is written is the catalogue's file, and later bytes stay.
pub record WrittenFile (A ns ls w b : List ℕ) (n : ℕ) (b' : List ℕ) : Type 0 where
  pub accepted : Accepted (catalogue_of A ns ls w)
  pub file : take n b' ≡ file_of (catalogue_of A ns ls w)
  pub later : drop n b' ≡ drop n b

abbrev pub WriteAnswers : Type 0
WriteAnswers = (A ns ls w b : List ℕ) (n : ℕ) (b' : List ℕ) → Writes A ns ls w b (Ok n) b' → WrittenFile A ns ls w b n b'

-- Reading what was written gives the same catalogue.
abbrev pub ReadsBack : Type 0
ReadsBack = (A ns ls w b : List ℕ) (n : ℕ) (b' : List ℕ) → Writes A ns ls w b (Ok n) b'
    → (es : List Entry) (r : Result Opened Refusal) (es' : List Entry) → length ns ≤ length es → Reads (take n b') es r es'
    → (r ≡ Ok (holding (length ns) (length A))) × (catalogue_in (take n b') ≡ catalogue_of A ns ls w)

-- Writing what was read gives the same file.
abbrev pub WritesBack : Type 0
WritesBack = (f : List ℕ) (es : List Entry) (m s : ℕ) (es' : List Entry) → AreBytes f → Reads f es (Ok (holding m s)) es'
    → (A ns ls w b : List ℕ) (n : ℕ) (b' : List ℕ) → catalogue_of A ns ls w ≡ catalogue_in f → Writes A ns ls w b (Ok n) b' → take n b' ≡ f

-- All of them, with those on the file alone: it holds its catalogue, a catalogue has one file, bytes are accepted exactly if they are the
-- file of a catalogue that is, and the table of refusals.
pub record Catalogues : Type 0 where
  pub reads_written : ReadsWritten
  pub writes_read : WritesRead
  pub one_catalogue : OneCatalogue
  pub one_file : OneFile
  pub accepts_exactly : AcceptsExactly
  pub table : Table
  pub read_one : ReadOne
  pub take_one : TakeOne
  pub write_one : WriteOne
  pub read_order : ReadOrder
  pub take_order : TakeOrder
  pub write_order : WriteOrder
  pub read_refused : ReadRefused
  pub take_refused : TakeRefused
  pub write_refused : WriteRefused
  pub read_answers : ReadAnswers
  pub read_accepts : ReadAccepts
  pub row_of_record : RowOfRecord
  pub alphabet_of_file : AlphabetOfFile
  pub write_answers : WriteAnswers
  pub reads_back : ReadsBack
  pub writes_back : WritesBack
