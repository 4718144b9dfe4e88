-- A file that is accepted is the file of the catalogue that it holds.
-- Assumes nothing.
use Rattle.std.specs.Prelude.{Ok}
use Prim.Native.Nat.{ℕ, zero, suc, ◌+◌, ◌*◌, ◌/◌, ◌%◌, ◌≤◌, ◌<◌}
use mathlib.Core.Path.{◌≡◌, refl, sym, ap, ap₂, ◌∙◌, subst}
use mathlib.Core.List.{List, [], ◌∷◌, ◌++◌, map}
use native.Mathlib.Omega.{arith}
use borrow.Author.Tests.{ltb-false}
use lib.Dec.{ltb}
use lib.ListN.{length, get_or, take, drop, length-drop, length-map, take-append-drop, drop_of_length-le}
use lib.Seq.{get_or-drop, drop-drop, take_all, length-take-le}
use Rattle.rows.specs.Programme.{alphabet_of}
use Rattle.rows.specs.Refusals.{alphabet}
use Rattle.rows.proofs.Passing.{both_fine, not-refused}
use Rattle.wire.specs.Wire.{numbers, bytes_of, Bytes}
use Rattle.wire.proofs.Numbers.{numbers-length, bytes_of-append}
use Rattle.catalogue.specs.Catalogue.{Numbered, contents, entries, rows, first_row, opening, file_of}
use Rattle.catalogue.specs.Reading.{entries_of, programmes_in, symbols_in, entries_in, arities_in, first_row_in, row_in, programme_in, catalogue_in}
use Rattle.catalogue.specs.Refusals.{file_size, holds, few, rises, programme_of, placed, head_fits, contents_fit, file_check}
use Rattle.catalogue.specs.declared.Entry.{Entry}
use Rattle.rows.specs.declared.CatalogueFault.TheVariants.{Long, Short, Programmes}
use Rattle.rows.specs.declared.Refusal.TheVariants.{Catalogue as OfCatalogue}
use Rattle.catalogue.proofs.Halves.{contents_read}
use Rattle.catalogue.proofs.Checks.{placed_first, placed_last}

pub bytes_drop : (n : ℕ) (f : List ℕ) → Bytes f → Bytes (drop n f)
bytes_drop n f small i = subst (λ (x : ℕ). x < 256) (sym (get_or-drop n f i 0)) (small (n + i))

bytes_take : (n : ℕ) (f : List ℕ) → Bytes f → Bytes (take n f)
bytes_take zero f small i = omega arith
bytes_take (suc n) [] small i = omega arith
bytes_take (suc n) (a ∷ f) small zero = small 0
bytes_take (suc n) (a ∷ f) small (suc i) = bytes_take n f (λ j. small (suc j)) i

-- a number of two bytes is below 65,536
pub number_small : (f : List ℕ) → Bytes f → (i : ℕ) → get_or (numbers f) i 0 < 65536
unfolding numbers
number_small [] small i = omega arith
number_small (a ∷ []) small i = omega arith
number_small (a ∷ (b ∷ f)) small zero = omega (arith, small 0, small 1)
number_small (a ∷ (b ∷ f)) small (suc i) = number_small f (λ j. small (suc (suc j))) i

-- the bytes of the first numbers that were read are the first bytes
pub bytes_back : (k : ℕ) (f : List ℕ) → Bytes f → 2 * k ≤ length f → bytes_of (take k (numbers f)) ≡ take (2 * k) f
unfolding numbers bytes_of
bytes_back zero f small h = refl
bytes_back (suc k) [] small h = absurd (omega arith)
bytes_back (suc k) (a ∷ []) small h = absurd (omega arith)
bytes_back (suc k) (a ∷ (b ∷ f)) small h =
    let twice : 2 * suc k ≡ suc (suc (2 * k)) = omega arith in
    let low : (a + 256 * b) % 256 ≡ a = omega (arith, small 0) in
    let high : (a + 256 * b) / 256 ≡ b = omega (arith, small 0) in
    rw (twice, low, high) (ap (λ (l : List ℕ). a ∷ (b ∷ l)) (bytes_back k f (λ i. small (suc (suc i))) (omega arith)))

-- a part of so many numbers
module _ (f : List ℕ) (at k : ℕ) (within : at + 2 * k ≤ length f) where
  part_length : length (take (2 * k) (drop at f)) ≡ 2 * k
  part_length = length-take-le (2 * k) (drop at f) (omega (arith, length-drop at f))

  pub part_count : length (numbers (take (2 * k) (drop at f))) ≡ k
  part_count = omega (arith, numbers-length (take (2 * k) (drop at f)), part_length)

  part_back : Bytes f → bytes_of (numbers (take (2 * k) (drop at f))) ≡ take (2 * k) (drop at f)
  part_back small =
      let part = take (2 * k) (drop at f) in
      ap bytes_of (sym (take_all k (numbers part) (omega (arith, part_count))))
      ∙ bytes_back k part (bytes_take (2 * k) (drop at f) (bytes_drop at f small)) (omega (arith, part_length))
      ∙ take_all (2 * k) part (omega (arith, part_length))

-- entries that are placed right are those of the programmes that they tell of, and the rows fill the file
rows_back : (f : List ℕ) → Bytes f → (es : List Entry) (at next : ℕ) → placed (length f) at next es ≡ Ok tt
    → (entries next (map (programme_in f) es) ≡ es) × (bytes_of (rows (map (programme_in f) es)) ≡ drop next f)
unfolding entries rows programme_in row_in bytes_of
rows_back f small [] at next h = (refl, sym (drop_of_length-le f {i = next} (omega (arith, placed_last (length f) at next h))))
rows_back f small (e ∷ es) at next h =
    let p = placed_first (length f) at next e es h in
    let n = e.length in
    let more = rows_back f small es (at + 12) (next + 2 * n) p.rest in
    let row = numbers (take (2 * n) (drop e.start f)) in
    let within : e.start + 2 * n ≤ length f = omega (arith, p.begins, p.within) in
    let long : length row ≡ n = part_count f e.start n within in
    let here : bytes_of row ≡ take (2 * n) (drop next f) =
    part_back f e.start n within small ∙ ap (λ (i : ℕ). take (2 * n) (drop i f)) p.begins in (
      ap₂ (λ (x : Entry) (l : List Entry). x ∷ l)
          (ap₂ (λ (i k : ℕ). record { programme = e.programme; start = i; length = k }) (sym p.begins) long)
          (ap (λ (k : ℕ). entries (next + 2 * k) (map (programme_in f) es)) long ∙ more.0),
      bytes_of-append row (rows (map (programme_in f) es))
          ∙ ap₂ (λ (a b : List ℕ). a ++ b) here (more.1 ∙ sym (drop-drop (2 * n) next f))
          ∙ take-append-drop (2 * n) (drop next f),
    )

pub entries_of-length : (n : ℕ) (w : List ℕ) → length (entries_of n w) ≡ n
unfolding entries_of
entries_of-length zero w = refl
entries_of-length (suc n) w = ap suc (entries_of-length n (drop 6 w))

first_two : (l : List ℕ) (k : ℕ) → 2 ≤ length l → get_or l 0 0 ∷ (get_or l 1 0 ∷ take k (drop 2 l)) ≡ take (2 + k) l
first_two [] k h = absurd (omega arith)
first_two (x ∷ []) k h = absurd (omega arith)
first_two (x ∷ (y ∷ l)) k h = let two : 2 + k ≡ suc (suc k) = omega arith in rw two refl

-- what the checks of a file that is accepted tell
pub record Whole (f : List ℕ) : Type 0 where
  pub long : first_row_in f ≤ length f
  pub right : placed (length f) 4 (first_row_in f) (entries_in f) ≡ Ok tt

pub record Heads (f : List ℕ) : Type 0 where
  pub size : length f ≤ 65536
  pub long : first_row_in f ≤ length f
  pub few : programmes_in f ≤ 256

pub heads : (f : List ℕ) → head_fits f ≡ Ok tt → Heads f
unfolding head_fits file_size holds few
heads f h =
    let a = both_fine (file_size (length f)) _ h in
    let b = both_fine (holds (length f) (first_row_in f)) _ a.1 in
    record {
      size = ltb-false 65536 (length f) (not-refused (ltb 65536 (length f)) (OfCatalogue (Long (length f))) (Ok tt) a.0).0;
      long = ltb-false (length f) (first_row_in f) (not-refused (ltb (length f) (first_row_in f)) (OfCatalogue (Short (length f))) (Ok tt) b.0).0;
      few = ltb-false 256 (programmes_in f) (not-refused (ltb 256 (programmes_in f)) (OfCatalogue (Programmes (programmes_in f))) (Ok tt) b.1).0;
    }

pub contents_right : (f : List ℕ) → contents_fit f ≡ Ok tt → placed (length f) 4 (first_row_in f) (entries_in f) ≡ Ok tt
unfolding contents_fit
contents_right f h = (both_fine (rises 12 4 0 (map programme_of (entries_in f))) _ h).1

pub whole : (f : List ℕ) → file_check f ≡ Ok tt → Whole f
unfolding file_check
whole f h =
    let a = both_fine (head_fits f) _ h in
    let b = both_fine (alphabet (alphabet_of (arities_in f))) _ a.1 in
    let c = both_fine (contents_fit f) _ b.1 in
    record { long = (heads f a.0).long; right = contents_right f c.0 }

-- as many programmes as the head says
pub many : (f : List ℕ) → length (map (programme_in f) (entries_in f)) ≡ programmes_in f
unfolding entries_in
many f = length-map (entries_in f) (programme_in f) ∙ entries_of-length (programmes_in f) (drop 2 (numbers f))

module _ (f : List ℕ) (small : Bytes f) (a : Whole f) where
  abbrev n : ℕ
  n = programmes_in f

  abbrev s : ℕ
  s = symbols_in f

  abbrev ps : List Numbered
  ps = map (programme_in f) (entries_in f)

  symbols : length (arities_in f) ≡ s
  unfolding arities_in first_row_in first_row
  symbols = length-take-le s (drop (4 + 12 * n) f) (omega (arith, a.long, length-drop (4 + 12 * n) f))

  head_back : n ∷ (s ∷ take (6 * n) (drop 2 (numbers f))) ≡ take (2 + 6 * n) (numbers f)
  unfolding programmes_in symbols_in first_row_in first_row
  head_back = first_two (numbers f) (6 * n) (omega (arith, numbers-length f, a.long))

  -- head and contents
  opening_back : bytes_of (opening (catalogue_in f)) ≡ take (4 + 12 * n) f
  unfolding opening catalogue_in entries_in first_row_in first_row
  opening_back =
      let w = numbers f in
      let count : 2 + 6 * n ≤ length w = omega (arith, numbers-length f, a.long) in
      let tail : contents (entries (first_row (length ps) (length (arities_in f))) ps) ≡ take (6 * n) (drop 2 w) =
      ap₂ (λ (i k : ℕ). contents (entries (first_row i k) ps)) (many f) symbols
      ∙ ap contents (rows_back f small (entries_in f) 4 (first_row_in f) a.right).0
      ∙ contents_read n (drop 2 w) (λ i. subst (λ (x : ℕ). x < 65536) (sym (get_or-drop 2 w i 0)) (number_small f small (2 + i))) (omega (arith, length-drop 2 w)) in
      let twice : 2 * (2 + 6 * n) ≡ 4 + 12 * n = omega arith in
      ap bytes_of (ap₂ (λ (i : ℕ) (l : List ℕ). i ∷ l) (many f) (ap₂ (λ (i : ℕ) (l : List ℕ). i ∷ l) symbols tail) ∙ head_back)
      ∙ bytes_back (2 + 6 * n) f small (omega (arith, a.long))
      ∙ ap (λ (i : ℕ). take i f) twice

  pub writes_back : file_of (catalogue_in f) ≡ f
  unfolding file_of arities_in first_row_in first_row catalogue_in
  writes_back =
      let at = 4 + 12 * n in
      ap₂ (λ (x y : List ℕ). x ++ (arities_in f ++ y)) opening_back ((rows_back f small (entries_in f) 4 (first_row_in f) a.right).1 ∙ sym (drop-drop s at f))
      ∙ ap (λ (l : List ℕ). take at f ++ l) (take-append-drop s (drop at f))
      ∙ take-append-drop at f
