-- What the reader and the writer of a catalogue file refuse, in order: `then` takes the first of two checks that refuses.
use Rattle.std.specs.Prelude.{ℕ, ◌+◌, ◌*◌, List, [], ◌∷◌, map, ltb, eqb, length, take, drop, Result, Ok, Err, ⊤}
use Rattle.rows.specs.Limits.{row_most, programmes_most, file_most}
use Rattle.rows.specs.Programme.{alphabet_of}
use Rattle.rows.specs.Row.{pick, reading}
use Rattle.rows.specs.Refusals.{◌then◌, refuse_if, alphabet, output}
use Rattle.rows.specs.declared.Leaves.TheVariants.{Symbols}
use Rattle.rows.specs.declared.Fault.{Fault}
use Rattle.rows.specs.declared.CatalogueFault.TheVariants.{Long, Short, Programmes, NotRising, Misplaced, LeftOver}
use Rattle.rows.specs.declared.Refusal.TheVariants.{Catalogue as OfCatalogue, Programme}
use Rattle.catalogue.specs.Catalogue.{Numbered, Catalogue, first_row}
use Rattle.catalogue.specs.Reading.{programmes_in, symbols_in, entries_in, arities_in, first_row_in, catalogue_in}
use Rattle.catalogue.specs.declared.Entry.{Entry}
use Rattle.rows.specs.declared.Refusal.{Refusal}

-- 66: a file of n bytes is at most 65,536 long
unfoldable pub file_size : ℕ → Result ⊤ Refusal
file_size n = refuse_if (ltb file_most n) (OfCatalogue (Long n))

-- 65: a file of n bytes holds head, contents and arities, which are k bytes
unfoldable pub holds : ℕ → ℕ → Result ⊤ Refusal
holds n k = refuse_if (ltb n k) (OfCatalogue (Short n))

-- 88: at most 256 programmes
unfoldable pub few : ℕ → Result ⊤ Refusal
few n = refuse_if (ltb programmes_most n) (OfCatalogue (Programmes n))

-- 67: the numbers rise strictly: each is at least one more than the one before it. The first has its place at `at`, and each later
-- one `step` further.
unfoldable pub rises : ℕ → ℕ → ℕ → List ℕ → Result ⊤ Refusal
rises step at least [] = Ok tt
rises step at least (n ∷ ns) = pick (ltb n least) (Err (OfCatalogue (NotRising at))) (rises step (at + step) (n + 1) ns)

-- the programme's number in an entry
abbrev pub programme_of : Entry → ℕ
programme_of e = e.programme

-- 68, then 69: in a file of `size` bytes the rows follow each other from byte `next` on, none goes past the end, and the
-- last ends the file. The first entry stands at byte `at`.
unfoldable pub placed : ℕ → ℕ → ℕ → List Entry → Result ⊤ Refusal
placed size at next [] = pick (eqb next size) (Ok tt) (Err (OfCatalogue (LeftOver next)))
placed size at next (e ∷ es) =
    pick (eqb e.start next)
    (pick (ltb size (next + 2 * e.length)) (Err (OfCatalogue (Misplaced at))) (placed size (at + 12) (next + 2 * e.length) es))
    (Err (OfCatalogue (Misplaced at)))

-- 4, 5, 7, 8, 9 of the first faulty row, with its programme's number
abbrev pub as_programme : ℕ → Result ⊤ Fault → Result ⊤ Refusal
as_programme n (Ok _) = Ok tt
as_programme n (Err f) = Err (Programme n f)

unfoldable pub rows_fit : List ℕ → List Numbered → Result ⊤ Refusal
rows_fit A [] = Ok tt
rows_fit A (p ∷ ps) = as_programme p.number (reading A Symbols row_most p.row) then rows_fit A ps

-- THE READER. Refusals 66, 65, 88: the file's size and its head;
unfoldable pub head_fits : List ℕ → Result ⊤ Refusal
head_fits f = file_size (length f) then holds (length f) (first_row_in f) then few (programmes_in f)

-- 67, 68, 69: the contents;
unfoldable pub contents_fit : List ℕ → Result ⊤ Refusal
contents_fit f = rises 12 4 0 (map programme_of (entries_in f)) then placed (length f) 4 (first_row_in f) (entries_in f)

-- all of the file: 66, 65, 88, 1 to 3, 67, 68, 69, 4 to 9;
unfoldable pub file_check : List ℕ → Result ⊤ Refusal
file_check f =
    head_fits f
    then alphabet (alphabet_of (arities_in f))
    then contents_fit f
    then rows_fit (arities_in f) (catalogue_in f).programmes

-- then 19 for m records.
unfoldable pub read_check : List ℕ → ℕ → Result ⊤ Refusal
read_check f m = file_check f then output (programmes_in f) m

-- ITS ALPHABET, AS NUMBERS. Refusals 66, 65, 88, then 19 for a list of m places.
unfoldable pub alphabet_check : List ℕ → ℕ → Result ⊤ Refusal
alphabet_check f m = head_fits f then output (symbols_in f) m

-- THE ROW OF AN ENTRY, AS NUMBERS. Refusal 68, place the row's start, if it goes past the end of the file; then 19 for a list of m
-- places.
unfoldable pub row_check : List ℕ → Entry → ℕ → Result ⊤ Refusal
row_check f e m = refuse_if (ltb (length f) (e.start + 2 * e.length)) (OfCatalogue (Misplaced e.start)) then output e.length m

-- THE WRITER. The programmes of numbers, lengths, and rows laid end to end;
unfoldable pub numbered : List ℕ → List ℕ → List ℕ → List Numbered
numbered [] ls w = []
numbered (n ∷ ns) [] w = []
numbered (n ∷ ns) (l ∷ ls) w = (record { number = n; row = take l w }) ∷ numbered ns ls (drop l w)

abbrev pub catalogue_of : List ℕ → List ℕ → List ℕ → List ℕ → Catalogue
catalogue_of A ns ls w = record { arities = A; programmes = numbered ns ls w }

unfoldable pub total : List ℕ → ℕ
total [] = 0
total (l ∷ ls) = l + total ls

-- 68: as many lengths as numbers, which add up to the m symbols of the rows
unfoldable pub lengths_fit : List ℕ → List ℕ → ℕ → Result ⊤ Refusal
lengths_fit ns ls m =
    pick (eqb (length ls) (length ns)) (pick (eqb (total ls) m) (Ok tt) (Err (OfCatalogue (Misplaced m)))) (Err (OfCatalogue (Misplaced m)))

-- the size of the file
unfoldable pub size_of : List ℕ → List ℕ → ℕ → ℕ
size_of A ns m = first_row (length ns) (length A) + 2 * m

-- refusals 88, 1 to 3, 67, 68, 66: all but the rows;
unfoldable pub given_fits : List ℕ → List ℕ → List ℕ → ℕ → Result ⊤ Refusal
given_fits A ns ls m =
    few (length ns) then alphabet (alphabet_of A) then rises 1 0 0 ns then lengths_fit ns ls m then file_size (size_of A ns m)

-- then 4 to 9, and 19 for k bytes.
unfoldable pub write_check : List ℕ → List ℕ → List ℕ → List ℕ → ℕ → Result ⊤ Refusal
write_check A ns ls w k =
    given_fits A ns ls (length w) then rows_fit A (numbered ns ls w) then output (size_of A ns (length w)) k
