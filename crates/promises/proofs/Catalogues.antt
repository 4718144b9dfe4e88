-- The promises on catalogue files, as specs/Catalogues states them, each with its proof.
-- Assumes nothing.
use Rattle.std.specs.Prelude.{Result, Ok, Err, ⊤}
use Prim.Native.Nat.{ℕ, zero, suc, ◌+◌, ◌*◌, ◌<◌, ◌≤◌}
use mathlib.Core.Path.{◌≡◌, refl, sym, ap, ap₂, ◌∙◌, subst}
use mathlib.Core.List.{List, [], ◌∷◌, ◌++◌, map}
use mathlib.Core.Logic.{◌↔◌}
use native.Mathlib.Omega.{arith}
use borrow.Author.Tests.{le-ltb}
use lib.ListN.{length, get_or, take, drop}
use lib.Seq.{take_at, drop_at}
use Rattle.rows.specs.Buffers.{written, after}
use Rattle.rows.specs.Programme.{alphabet_of}
use Rattle.rows.specs.Refusals.{alphabet, output}
use Rattle.rows.specs.declared.Refusal.{Refusal}
use Rattle.rows.proofs.Buffers.{written-front, written_behind}
use Rattle.rows.proofs.Passing.{clash, both_fine}
use Rattle.wire.specs.Wire.{numbers, Bytes as AreBytes}
use Rattle.catalogue.specs.Catalogue.{Catalogue, row_of, entries, first_row, file_of}
use Rattle.catalogue.specs.Reading.{programmes_in, symbols_in, entries_in, arities_in, first_row_in, row_in, programme_in, catalogue_in}
use Rattle.catalogue.specs.Refusals.{placed, head_fits, contents_fit, file_check, read_check, alphabet_check, row_check, write_check, catalogue_of, numbered}
use Rattle.catalogue.specs.declared.Entry.{Entry}
use Rattle.catalogue.proofs.Checks.{placed_first}
use Rattle.catalogue.proofs.Written.{programmes_in_lem, symbols_in_lem, entries_in_lem}
use Rattle.catalogue.proofs.Read.{entries_of-length, contents_right, many}
use Rattle.catalogue.proofs.Accepting.{accepts_file, given_fits_lem, numbered-length, holds_accepted}
use Rattle.catalogue.proofs.Promises.{reads_written, writes_read, one_catalogue, one_file, accepts_exactly, accepts_written}
use Rattle.catalogue.proofs.Table.{table}
use Rattle.catalogue_read.specs.Answers.{holding, opened, Reads, taken, Takes}
use Rattle.catalogue_read.specs.declared.Opened.{Opened}
use Rattle.catalogue_read.proofs.Taking.{alphabet_room, arities-count, row_room, row_count}
use Rattle.catalogue_write.specs.Answers.{filed, Writes}
use Rattle.catalogue_write.proofs.Granting.{given_of}
use Rattle.promises.specs.Catalogues.{ReadOne, TakeOne, WriteOne, ReadOrder, TakeOrder, WriteOrder, ReadRefused, TakeRefused, WriteRefused, ReadFile, ReadAnswers, ReadAccepts, record_at, row_at, RowOfRecord, AlphabetOfFile, WrittenFile, WriteAnswers, ReadsBack, WritesBack, Catalogues}
use Rattle.promises.proofs.Demand1.{pair}

-- ---- one outcome

unfoldable pub read_one : ReadOne
read_one f es =
    let c : (Result ⊤ Refusal) = read_check f (length es) in
    let some : Result Opened Refusal × List Entry = (opened c f, after c (entries_in f ++ drop (length (entries_in f)) es) es) in
    let here : Reads f es some.0 some.1 = record { answer = refl; records = refl } in
    record { some = some; holds = here; only = λ x h. pair x some (h.answer, h.records) }

unfoldable pub take_one : TakeOne
take_one check v b =
    let some : (Result ℕ Refusal) × List ℕ = (taken check (length v), after check (written b 0 v) b) in
    let here : Takes check v b some.0 some.1 = record { answer = refl; list = refl } in
    record { some = some; holds = here; only = λ x h. pair x some (h.answer, h.list) }

unfoldable pub write_one : WriteOne
write_one A ns ls w b =
    let c : (Result ⊤ Refusal) = write_check A ns ls w (length b) in
    let f : List ℕ = file_of (catalogue_of A ns ls w) in
    let some : (Result ℕ Refusal) × List ℕ = (filed c (length f), after c (written b 0 f) b) in
    let here : Writes A ns ls w b some.0 some.1 = record { answer = refl; file = refl } in
    record { some = some; holds = here; only = λ x h. pair x some (h.answer, h.file) }

-- ---- the first refusal in the order, which writes nothing

-- an answer that is made of a check is a refusal exactly if the check is
opened_refused : (c : Result ⊤ Refusal) (f : List ℕ) (x : Refusal) → (opened c f ≡ Err x) ↔ (c ≡ Err x)
opened_refused (Ok _) f x = (λ e. (let z : ◌≡◌ {A = ℕ} 0 1 = cc in absurd (omega arith)), λ e. absurd (clash (Ok tt) x refl e))
opened_refused (Err r) f x = (λ e. (let z : r ≡ x = cc in ap Err z), λ e. (let z : r ≡ x = cc in ap Err z))

taken_refused : (c : Result ⊤ Refusal) (n : ℕ) (x : Refusal) → (taken c n ≡ Err x) ↔ (c ≡ Err x)
taken_refused (Ok _) n x = (λ e. (let z : ◌≡◌ {A = ℕ} 0 1 = cc in absurd (omega arith)), λ e. absurd (clash (Ok tt) x refl e))
taken_refused (Err r) n x = (λ e. (let z : r ≡ x = cc in ap Err z), λ e. (let z : r ≡ x = cc in ap Err z))

filed_refused : (c : Result ⊤ Refusal) (n : ℕ) (x : Refusal) → (filed c n ≡ Err x) ↔ (c ≡ Err x)
filed_refused (Ok _) n x = (λ e. (let z : ◌≡◌ {A = ℕ} 0 1 = cc in absurd (omega arith)), λ e. absurd (clash (Ok tt) x refl e))
filed_refused (Err r) n x = (λ e. (let z : r ≡ x = cc in ap Err z), λ e. (let z : r ≡ x = cc in ap Err z))

pub read_order : ReadOrder
read_order f es r es' x h = (λ e. (opened_refused _ f x).0 (sym h.answer ∙ e), λ e. h.answer ∙ (opened_refused _ f x).1 e)

pub take_order : TakeOrder
take_order check v b r b' x h = (λ e. (taken_refused check (length v) x).0 (sym h.answer ∙ e), λ e. h.answer ∙ (taken_refused check (length v) x).1 e)

pub write_order : WriteOrder
write_order A ns ls w b r b' x h = (λ e. (filed_refused _ _ x).0 (sym h.answer ∙ e), λ e. h.answer ∙ (filed_refused _ _ x).1 e)

pub read_refused : ReadRefused
read_refused f es x es' h =
    h.records ∙ ap (λ (c : Result ⊤ Refusal). after c (entries_in f ++ drop (length (entries_in f)) es) es) ((read_order f es (Err x) es' x h).0 refl)

pub take_refused : TakeRefused
take_refused check v b x b' h = h.list ∙ ap (λ (c : Result ⊤ Refusal). after c (written b 0 v) b) ((take_order check v b (Err x) b' x h).0 refl)

pub write_refused : WriteRefused
write_refused A ns ls w b x b' h =
    h.file ∙ ap (λ (c : Result ⊤ Refusal). after c (written b 0 (file_of (catalogue_of A ns ls w))) b) ((write_order A ns ls w b (Err x) b' x h).0 refl)

-- ---- a file that is read

-- what an answer that is no refusal tells of the check and of the head
record Held (c : Result ⊤ Refusal) (f : List ℕ) (n s : ℕ) : Type 0 where
  fine : c ≡ Ok tt
  programmes : programmes_in f ≡ n
  symbols : symbols_in f ≡ s

-- an output that is long enough is not refused
output_fits : (n m : ℕ) → n ≤ m → output n m ≡ Ok tt
unfolding output
output_fits n m h = simp (le-ltb m n h)

-- the two numbers of an answer
abbrev programmes_told : Result Opened Refusal → ℕ
programmes_told (Ok o) = o.programmes
programmes_told (Err r) = 0

abbrev symbols_told : Result Opened Refusal → ℕ
symbols_told (Ok o) = o.symbols
symbols_told (Err r) = 0

held : (c : Result ⊤ Refusal) (f : List ℕ) (n s : ℕ) → Ok (holding n s) ≡ opened c f → Held c f n s
held (Ok _) f n s e = record { fine = refl; programmes = sym (ap programmes_told e); symbols = sym (ap symbols_told e) }
held (Err r) f n s e = let z : ◌≡◌ {A = ℕ} 0 1 = cc in absurd (omega arith)

-- entry k of contents that are placed right ends within the file
placed_within : (size at next : ℕ) (es : List Entry) (k : ℕ) → placed size at next es ≡ Ok tt → k < length es
    → (record_at es k).start + 2 * (record_at es k).length ≤ size
placed_within size at next [] k h i = absurd (omega arith)
placed_within size at next (e ∷ es) zero h i = let p = placed_first size at next e es h in omega (arith, p.begins, p.within)
placed_within size at next (e ∷ es) (suc k) h i =
    placed_within size (at + 12) (next + 2 * e.length) es k (placed_first size at next e es h).rest (omega arith)

-- the row that entry k tells of
row_told : (f : List ℕ) (es : List Entry) (k : ℕ) → k < length es → row_in f (record_at es k) ≡ get_or (map row_of (map (programme_in f) es)) k []
unfolding programme_in
row_told f [] k h = absurd (omega arith)
row_told f (e ∷ es) zero h = refl
row_told f (e ∷ es) (suc k) h = row_told f es k (omega arith)

record_front : (es ds : List Entry) (k : ℕ) → k < length es → record_at (es ++ ds) k ≡ record_at es k
record_front [] ds k h = absurd (omega arith)
record_front (e ∷ es) ds zero h = refl
record_front (e ∷ es) ds (suc k) h = record_front es ds k (omega arith)

-- what is taken where the check finds nothing
takes_told : (check : Result ⊤ Refusal) (v u b : List ℕ) (r : Result ℕ Refusal) (b' : List ℕ) → check ≡ Ok tt → v ≡ u → Takes check v b r b'
    → (r ≡ Ok (length u)) × (b' ≡ written b 0 u)
takes_told check v u b r b' e same t = (
  t.answer ∙ ap (λ (c : Result ⊤ Refusal). taken c (length v)) e ∙ ap (λ (x : List ℕ). Ok (length x)) same,
  t.list ∙ ap (λ (c : Result ⊤ Refusal). after c (written b 0 v) b) e ∙ ap (written b 0) same,
)

module _ (f : List ℕ) (es : List Entry) (n s : ℕ) (es' : List Entry) (h : Reads f es (Ok (holding n s)) es') where
  told : Held (read_check f (length es)) f n s
  told = held (read_check f (length es)) f n s h.answer

  file_fine : file_check f ≡ Ok tt
  unfolding read_check
  file_fine = (both_fine (file_check f) _ told.fine).0

  head_fine : head_fits f ≡ Ok tt
  unfolding file_check
  head_fine = (both_fine (head_fits f) _ file_fine).0

  contents_fine : contents_fit f ≡ Ok tt
  unfolding file_check
  contents_fine =
      (both_fine (contents_fit f) _ (both_fine (alphabet (alphabet_of (arities_in f))) _ (both_fine (head_fits f) _ file_fine).1).1).0

  left : es' ≡ entries_in f ++ drop (length (entries_in f)) es
  left = h.records ∙ ap (λ (c : Result ⊤ Refusal). after c (entries_in f ++ drop (length (entries_in f)) es) es) told.fine

  count : length (entries_in f) ≡ n
  unfolding entries_in
  count = entries_of-length (programmes_in f) (drop 2 (numbers f)) ∙ told.programmes

  read_file : AreBytes f → ReadFile f es n s es'
  unfolding catalogue_in
  read_file small =
      let c : Catalogue = catalogue_in f in
      let same : file_of c ≡ f = writes_read f small file_fine in
      let programmes : length c.programmes ≡ n = many f ∙ told.programmes in
      let symbols : length c.arities ≡ s = arities-count f head_fine s s (sym told.symbols) in
      let own : entries_in f ≡ entries (first_row n s) c.programmes =
      ap entries_in (sym same) ∙ entries_in_lem c ∙ ap₂ (λ (i k : ℕ). entries (first_row i k) c.programmes) programmes symbols in
      let later : List Entry = drop (length (entries_in f)) es in
      record {
        is_file = same;
        accepted = holds_accepted f small file_fine;
        programmes = programmes;
        symbols = symbols;
        records = ap (take n) left ∙ take_at (entries_in f) later n count ∙ own;
        later = ap (drop n) left ∙ drop_at (entries_in f) later n count ∙ ap (λ (i : ℕ). drop i es) count;
      }

  -- record k is entry k of the contents, which ends within the file and tells of row k
  module _ (k : ℕ) (i : k < n) where
    inside : k < length (entries_in f)
    inside = omega (arith, count)

    record_is : record_at es' k ≡ record_at (entries_in f) k
    record_is = ap (λ (v : List Entry). record_at v k) left ∙ record_front (entries_in f) (drop (length (entries_in f)) es) k inside

    record_within : (record_at es' k).start + 2 * (record_at es' k).length ≤ length f
    record_within =
        subst (λ (e : Entry). e.start + 2 * e.length ≤ length f) (sym record_is)
        (placed_within (length f) 4 (first_row_in f) (entries_in f) k (contents_right f contents_fine) inside)

    record_row : row_in f (record_at es' k) ≡ row_at f k
    unfolding catalogue_in
    record_row = ap (row_in f) record_is ∙ row_told f (entries_in f) k inside

    row_taken : (b : List ℕ) (r : Result ℕ Refusal) (b' : List ℕ) → length (row_at f k) ≤ length b
        → Takes (row_check f (record_at es' k) (length b)) (row_in f (record_at es' k)) b r b'
        → (r ≡ Ok (length (row_at f k))) × (b' ≡ written b 0 (row_at f k))
    row_taken b r b' room t =
        let e : Entry = record_at es' k in
        let long : length (row_at f k) ≡ e.length = ap length (sym record_row) ∙ row_count f e record_within in
        let fine : row_check f e (length b) ≡ (Ok tt) = row_room f e (length b) record_within ∙ output_fits e.length (length b) (omega arith) in
        takes_told (row_check f e (length b)) (row_in f e) (row_at f k) b r b' fine record_row t

  alphabet_taken : (b : List ℕ) (r : Result ℕ Refusal) (b' : List ℕ) → s ≤ length b → Takes (alphabet_check f (length b)) (arities_in f) b r b'
      → (r ≡ Ok s) × (b' ≡ written b 0 (catalogue_in f).arities)
  unfolding catalogue_in
  alphabet_taken b r b' room t =
      let fine : alphabet_check f (length b) ≡ (Ok tt) = alphabet_room f head_fine s (length b) (sym told.symbols) ∙ output_fits s (length b) room in
      let x = takes_told (alphabet_check f (length b)) (arities_in f) (arities_in f) b r b' fine refl t in
      (x.0 ∙ ap Ok (arities-count f head_fine s s (sym told.symbols)), x.1)

pub read_answers : ReadAnswers
read_answers f es n s es' small h = read_file f es n s es' h small

pub read_accepts : ReadAccepts
unfolding read_check output
read_accepts c es r es' ok room h =
    let f : List ℕ = file_of c in
    let fits = le-ltb (length es) (programmes_in f) (omega (arith, programmes_in_lem c)) in
    let fine : read_check f (length es) ≡ (Ok tt) = simp (accepts_file c ok, fits) in
    h.answer ∙ ap (λ (k : Result ⊤ Refusal). opened k f) fine ∙ ap₂ (λ (n s : ℕ). Ok (holding n s)) (programmes_in_lem c) (symbols_in_lem c)

pub row_of_record : RowOfRecord
row_of_record f es n s es' k h i b r b' room t = row_taken f es n s es' h k i b r b' room t

pub alphabet_of_file : AlphabetOfFile
alphabet_of_file f es n s es' h b r b' room t = alphabet_taken f es n s es' h b r b' room t

-- ---- a file that is written

filed_fine : (c : Result ⊤ Refusal) (n m : ℕ) → Ok n ≡ filed c m → (c ≡ Ok tt) × (n ≡ m)
filed_fine (Ok _) n m e = (refl, cc)
filed_fine (Err r) n m e = let z : ◌≡◌ {A = ℕ} 0 1 = cc in absurd (omega arith)

module _ (A ns ls w b : List ℕ) (n : ℕ) (b' : List ℕ) (h : Writes A ns ls w b (Ok n) b') where
  abbrev c : Catalogue
  c = catalogue_of A ns ls w

  granted : (write_check A ns ls w (length b) ≡ Ok tt) × (n ≡ length (file_of c))
  granted = filed_fine (write_check A ns ls w (length b)) n (length (file_of c)) h.answer

  filled : b' ≡ written b 0 (file_of c)
  filled = h.file ∙ ap (λ (k : Result ⊤ Refusal). after k (written b 0 (file_of c)) b) granted.0

  written_file : WrittenFile A ns ls w b n b'
  written_file =
      record {
        accepted = accepts_written A ns ls w (length b) granted.0;
        file = ap₂ take granted.1 filled ∙ written-front b (file_of c);
        later = ap₂ drop granted.1 filled ∙ written_behind b (file_of c) ∙ ap (λ (i : ℕ). drop i b) (sym granted.1);
      }

  -- as many programmes as numbers
  as_many : length (numbered ns ls w) ≡ length ns
  as_many = numbered-length ns ls w (given_fits_lem A ns ls (length w) (given_of A ns ls w (length b) granted.0)).many

pub write_answers : WriteAnswers
write_answers A ns ls w b n b' h = written_file A ns ls w b n b' h

pub reads_back : ReadsBack
reads_back A ns ls w b n b' h es r es' room x =
    let c : Catalogue = catalogue_of A ns ls w in
    let g = written_file A ns ls w b n b' h in
    let count = as_many A ns ls w b n b' h in
    let y : Reads (file_of c) es r es' = subst (λ (f : List ℕ). Reads f es r es') g.file x in
    (read_accepts c es r es' g.accepted (omega arith) y ∙ ap (λ (i : ℕ). Ok (holding i (length A))) count, ap catalogue_in g.file ∙ reads_written c)

pub writes_back : WritesBack
writes_back f es m s es' small x A ns ls w b n b' same h =
    (written_file A ns ls w b n b' h).file ∙ ap file_of same ∙ (read_file f es m s es' x small).is_file

pub catalogues : Catalogues
catalogues =
    record {
      reads_written = reads_written;
      writes_read = writes_read;
      one_catalogue = one_catalogue;
      one_file = one_file;
      accepts_exactly = accepts_exactly;
      table = table;
      read_one = read_one;
      take_one = take_one;
      write_one = write_one;
      read_order = read_order;
      take_order = take_order;
      write_order = write_order;
      read_refused = read_refused;
      take_refused = take_refused;
      write_refused = write_refused;
      read_answers = read_answers;
      read_accepts = read_accepts;
      row_of_record = row_of_record;
      alphabet_of_file = alphabet_of_file;
      write_answers = write_answers;
      reads_back = reads_back;
      writes_back = writes_back;
    }
