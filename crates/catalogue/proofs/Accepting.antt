-- The file of a catalogue that is accepted is accepted; what the writer accepts is such a catalogue; and what the reader accepts is.
-- Assumes nothing.
use Rattle.std.specs.Prelude.{Result, Ok, Err, ⊤}
use Prim.Native.Nat.{ℕ, zero, suc, ◌+◌, ◌*◌, ◌≤◌, ◌<◌}
use mathlib.Core.Path.{◌≡◌, refl, sym, ap, ap₂, ◌∙◌, subst}
use mathlib.Core.List.{List, [], ◌∷◌, ◌++◌, map}
use mathlib.Core.Bool.{Bool, false}
use native.Mathlib.Omega.{arith}
use borrow.Author.Tests.{le-ltb, ltb-false, eq-eqb, eqb-true}
use lib.Dec.{ltb, eqb}
use lib.ListN.{length, get_or, take, drop, length-append, length-drop, take-append-drop}
use Rattle.rows.specs.Limits.{row_most, programmes_most, file_most}
use Rattle.rows.specs.Programme.{alphabet_of}
use Rattle.rows.specs.Row.{reading}
use Rattle.rows.specs.Refusals.{◌then◌, refuse_if, alphabet}
use Rattle.rows.specs.declared.Leaves.TheVariants.{Symbols}
use Rattle.rows.specs.declared.Fault.{Fault}
use Rattle.rows.specs.declared.CatalogueFault.TheVariants.{Long, Programmes, Misplaced}
use Rattle.rows.specs.declared.Refusal.{Refusal}
use Rattle.rows.specs.declared.Refusal.TheVariants.{Catalogue as OfCatalogue}
use Rattle.rows.proofs.Passing.{clash, both_fine, refuse_fine}
use Rattle.wire.specs.Wire.{bytes_of, Bytes}
use Rattle.wire.proofs.Numbers.{bytes_of-length}
use Rattle.catalogue.specs.Catalogue.{Numbered, Catalogue, number_of, row_of, entries, rows, first_row, opening, file_of, Rising, Accepted}
use Rattle.catalogue.specs.Reading.{entries_in, arities_in, first_row_in, catalogue_in, programmes_in, programme_in}
use Rattle.catalogue.specs.Refusals.{file_size, holds, few, rises, programme_of, placed, as_programme, rows_fit, head_fits, contents_fit, file_check, numbered, catalogue_of, total, lengths_fit, size_of, given_fits, write_check}
use Rattle.catalogue.specs.declared.Entry.{Entry}
use Rattle.catalogue.proofs.Written.{opening-length, programmes_in_lem, symbols_in_lem, entries_in_lem, arities_in_lem, reads_back}
use Rattle.catalogue.proofs.Read.{heads, whole, many, writes_back}
use Rattle.catalogue.proofs.Rising.{rising_of, of_rising}
use Rattle.catalogue.proofs.Checks.{is_wanted}

-- the size of a catalogue's file
pub file_length : (c : Catalogue) → length (file_of c) ≡ first_row (length c.programmes) (length c.arities) + 2 * length (rows c.programmes)
unfolding file_of first_row
file_length c =
    let r = bytes_of (rows c.programmes) in
    omega (
      arith,
      length-append (bytes_of (opening c)) (c.arities ++ r),
      length-append c.arities r,
      opening-length c,
      bytes_of-length (rows c.programmes),
    )

-- the entries have the programmes' numbers
pub entries-numbers : (at : ℕ) (ps : List Numbered) → map programme_of (entries at ps) ≡ map number_of ps
unfolding entries
entries-numbers at [] = refl
entries-numbers at (p ∷ ps) = ap (λ (v : List ℕ). p.number ∷ v) (entries-numbers (at + 2 * length p.row) ps)

-- rows that are laid one behind the other are placed right
pub placed_right : (size at next : ℕ) (ps : List Numbered) → next + 2 * length (rows ps) ≡ size → placed size at next (entries next ps) ≡ Ok tt
unfolding placed entries rows
placed_right size at next [] h = simp (eq-eqb next size (omega arith))
placed_right size at next (p ∷ ps) h =
    let long = length-append p.row (rows ps) in
    let n = length p.row in
    simp (eq-eqb next next refl, le-ltb size (next + 2 * n) (omega arith))
    (placed_right size (at + 12) (next + 2 * n) ps (omega arith))

-- no row is faulty exactly if each is read as one tree's
abbrev pub EachWhole : List ℕ → List Numbered → Type 0
EachWhole A ps = (k : ℕ) → k < length ps → reading A Symbols row_most (get_or (map row_of ps) k []) ≡ Ok tt

as_whole : (n : ℕ) (v : Result ⊤ Fault) → as_programme n v ≡ Ok tt → v ≡ Ok tt
as_whole n (Ok _) e = refl
as_whole n (Err f) e = absurd (clash _ _ e refl)

pub rows_each : (A : List ℕ) (ps : List Numbered) → rows_fit A ps ≡ Ok tt → EachWhole A ps
unfolding rows_fit
rows_each A [] e k h = absurd (omega arith)
rows_each A (p ∷ ps) e zero h = as_whole p.number _ (both_fine (as_programme p.number (reading A Symbols row_most p.row)) _ e).0
rows_each A (p ∷ ps) e (suc k) h = rows_each A ps (both_fine (as_programme p.number (reading A Symbols row_most p.row)) _ e).1 k (omega arith)

pub each_rows : (A : List ℕ) (ps : List Numbered) → EachWhole A ps → rows_fit A ps ≡ Ok tt
unfolding rows_fit
each_rows A [] each = refl
each_rows A (p ∷ ps) each =
    ap (λ (v : Result ⊤ Fault). as_programme p.number v then rows_fit A ps) (each 0 (omega arith))
    ∙ each_rows A ps (λ k h. each (suc k) (omega arith))

-- checks that find nothing, one after the other
all_fine : (a b : Result ⊤ Refusal) → a ≡ Ok tt → b ≡ Ok tt → a then b ≡ Ok tt
all_fine a b p q = ap (λ (x : Result ⊤ Refusal). x then b) p ∙ q

passes : (b : Bool) (r : Refusal) → b ≡ false → refuse_if b r ≡ Ok tt
passes b r e = ap (λ (x : Bool). refuse_if x r) e

-- THE FILE OF A CATALOGUE THAT IS ACCEPTED
module _ (c : Catalogue) (ok : Accepted c) where
  abbrev f : List ℕ
  f = file_of c

  abbrev n : ℕ
  n = length c.programmes

  begins : first_row_in f ≡ first_row n (length c.arities)
  unfolding first_row_in
  begins = ap₂ first_row (programmes_in_lem c) (symbols_in_lem c)

  head_fine : head_fits f ≡ Ok tt
  unfolding head_fits file_size holds few
  head_fine =
      let long : first_row_in f ≤ length f = omega (arith, begins, file_length c) in
      all_fine (file_size (length f)) _ (passes _ (OfCatalogue (Long (length f))) (le-ltb file_most (length f) ok.size))
      (all_fine (holds (length f) (first_row_in f)) _ (simp (le-ltb (length f) (first_row_in f) long))
      (passes _ (OfCatalogue (Programmes (programmes_in f))) (le-ltb programmes_most (programmes_in f) (omega (arith, ok.few, programmes_in_lem c)))))

  contents_fine : contents_fit f ≡ Ok tt
  unfolding contents_fit
  contents_fine =
      all_fine (rises 12 4 0 (map programme_of (entries_in f))) _
      (ap (λ (v : List Entry). rises 12 4 0 (map programme_of v)) (entries_in_lem c)
      ∙ ap (rises 12 4 0) (entries-numbers (first_row n (length c.arities)) c.programmes)
      ∙ of_rising 12 4 0 (map number_of c.programmes) (λ h. omega arith) ok.rising)
      (ap₂ (λ (i : ℕ) (v : List Entry). placed (length f) 4 i v) begins (entries_in_lem c)
      ∙ placed_right (length f) 4 (first_row n (length c.arities)) c.programmes (sym (file_length c)))

  pub accepts_file : file_check f ≡ Ok tt
  unfolding file_check
  accepts_file =
      all_fine (head_fits f) _ head_fine
      (all_fine (alphabet (alphabet_of (arities_in f))) _ (ap (λ (v : List ℕ). alphabet (alphabet_of v)) (arities_in_lem c) ∙ ok.alphabet)
      (all_fine (contents_fit f) _ contents_fine
      (ap₂ (λ (B : List ℕ) (d : Catalogue). rows_fit B d.programmes) (arities_in_lem c) (reads_back c) ∙ each_rows c.arities c.programmes ok.rows)))

-- WHAT THE WRITER ACCEPTS. Rows that are dealt out as the lengths say, and laid end to end, are the rows again.
pub numbered-rows : (ns ls w : List ℕ) → length ls ≡ length ns → total ls ≡ length w → rows (numbered ns ls w) ≡ w
unfolding numbered rows total
numbered-rows [] [] [] h t = refl
numbered-rows [] [] (x ∷ w) h t = absurd (omega arith)
numbered-rows [] (l ∷ ls) w h t = absurd (omega arith)
numbered-rows (n ∷ ns) [] w h t = absurd (omega arith)
numbered-rows (n ∷ ns) (l ∷ ls) w h t =
    ap (λ (v : List ℕ). take l w ++ v) (numbered-rows ns ls (drop l w) (omega arith) (omega (arith, length-drop l w)))
    ∙ take-append-drop l w

pub numbered-length : (ns ls w : List ℕ) → length ls ≡ length ns → length (numbered ns ls w) ≡ length ns
unfolding numbered
numbered-length [] ls w h = refl
numbered-length (n ∷ ns) [] w h = absurd (omega arith)
numbered-length (n ∷ ns) (l ∷ ls) w h = ap suc (numbered-length ns ls (drop l w) (omega arith))

pub numbered-numbers : (ns ls w : List ℕ) → length ls ≡ length ns → map number_of (numbered ns ls w) ≡ ns
unfolding numbered
numbered-numbers [] ls w h = refl
numbered-numbers (n ∷ ns) [] w h = absurd (omega arith)
numbered-numbers (n ∷ ns) (l ∷ ls) w h = ap (λ (v : List ℕ). n ∷ v) (numbered-numbers ns ls (drop l w) (omega arith))

-- what the checks of what is given tell, for rows of m symbols
pub record Fits (A ns ls : List ℕ) (m : ℕ) : Type 0 where
  pub few_programmes : length ns ≤ programmes_most
  pub fine : alphabet (alphabet_of A) ≡ Ok tt
  pub rising : rises 1 0 0 ns ≡ Ok tt
  pub many : length ls ≡ length ns
  pub sum : total ls ≡ m
  pub size : size_of A ns m ≤ file_most

pub given_fits_lem : (A ns ls : List ℕ) (m : ℕ) → given_fits A ns ls m ≡ Ok tt → Fits A ns ls m
unfolding given_fits lengths_fit few file_size
given_fits_lem A ns ls m h =
    let a = both_fine (few (length ns)) _ h in
    let b = both_fine (alphabet (alphabet_of A)) _ a.1 in
    let d = both_fine (rises 1 0 0 ns) _ b.1 in
    let e = both_fine (lengths_fit ns ls m) _ d.1 in
    let x = is_wanted (eqb (length ls) (length ns)) _ (OfCatalogue (Misplaced m)) e.0 in
    let y = is_wanted (eqb (total ls) m) (Ok tt) (OfCatalogue (Misplaced m)) x.1 in
    record {
      few_programmes = ltb-false programmes_most (length ns) (refuse_fine (ltb programmes_most (length ns)) (OfCatalogue (Programmes (length ns))) a.0);
      fine = b.0;
      rising = d.0;
      many = eqb-true (length ls) (length ns) x.0;
      sum = eqb-true (total ls) m y.0;
      size = ltb-false file_most (size_of A ns m) (refuse_fine (ltb file_most (size_of A ns m)) (OfCatalogue (Long (size_of A ns m))) e.1);
    }

-- the file of what is given is as long as was worked out
pub size_is : (A ns ls w : List ℕ) → length ls ≡ length ns → total ls ≡ length w → length (file_of (catalogue_of A ns ls w)) ≡ size_of A ns (length w)
unfolding size_of
size_is A ns ls w many sum =
    file_length (catalogue_of A ns ls w)
    ∙ ap₂ (λ (i : ℕ) (v : List ℕ). first_row i (length A) + 2 * length v) (numbered-length ns ls w many) (numbered-rows ns ls w many sum)

pub accepts_given : (A ns ls w : List ℕ) (k : ℕ) → write_check A ns ls w k ≡ Ok tt → Accepted (catalogue_of A ns ls w)
unfolding write_check
accepts_given A ns ls w k h =
    let g = both_fine (given_fits A ns ls (length w)) _ h in
    let fits = given_fits_lem A ns ls (length w) g.0 in
    let whole = (both_fine (rows_fit A (numbered ns ls w)) _ g.1).0 in
    record {
      alphabet = fits.fine;
      few = omega (arith, fits.few_programmes, numbered-length ns ls w fits.many);
      rising = subst Rising (sym (numbered-numbers ns ls w fits.many)) (rising_of 1 0 0 ns fits.rising);
      rows = rows_each A (numbered ns ls w) whole;
      size = omega (arith, fits.size, size_is A ns ls w fits.many fits.sum);
    }

-- WHAT THE READER ACCEPTS
in_numbers : (f : List ℕ) (es : List Entry) → map number_of (map (programme_in f) es) ≡ map programme_of es
unfolding programme_in
in_numbers f [] = refl
in_numbers f (e ∷ es) = ap (λ (v : List ℕ). e.programme ∷ v) (in_numbers f es)

pub holds_accepted : (f : List ℕ) → Bytes f → file_check f ≡ Ok tt → Accepted (catalogue_in f)
unfolding file_check contents_fit catalogue_in
holds_accepted f small h =
    let a = both_fine (head_fits f) _ h in
    let b = both_fine (alphabet (alphabet_of (arities_in f))) _ a.1 in
    let d = both_fine (contents_fit f) _ b.1 in
    let head = heads f a.0 in
    record {
      alphabet = b.0;
      few = omega (arith, head.few, many f);
      rising =
          subst Rising (sym (in_numbers f (entries_in f)))
          (rising_of 12 4 0 (map programme_of (entries_in f)) (both_fine (rises 12 4 0 (map programme_of (entries_in f))) _ d.0).0);
      rows = rows_each (arities_in f) (catalogue_in f).programmes d.1;
      size = subst (λ (g : List ℕ). length g ≤ file_most) (sym (writes_back f small (whole f h))) head.size;
    }
