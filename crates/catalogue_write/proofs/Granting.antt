-- What the writer's checks tell where they find nothing: what may be laid out.
-- Assumes nothing.
use Rattle.std.specs.Prelude.{Ok}
use Prim.Native.Nat.{ℕ, ◌≤◌, ◌<◌}
use mathlib.Core.Path.{◌≡◌, sym, subst}
use mathlib.Core.List.{List}
use native.Mathlib.Omega.{arith}
use borrow.Author.Tests.{ltb-false, eqb-true}
use lib.Dec.{ltb, eqb}
use lib.ListN.{length, get_or}
use Rattle.rows.specs.Limits.{alphabet_most, programmes_most, file_most}
use Rattle.rows.specs.declared.CatalogueFault.TheVariants.{Programmes, Misplaced}
use Rattle.rows.specs.declared.Refusal.TheVariants.{Catalogue as OfCatalogue}
use Rattle.rows.proofs.Passing.{both_fine, refuse_fine, output_fine}
use Rattle.catalogue.specs.Refusals.{few, rows_fit, numbered, total, lengths_fit, size_of, given_fits, write_check}
use Rattle.catalogue.proofs.Accepting.{given_fits_lem}
use Rattle.catalogue.proofs.Checks.{is_wanted}
use Rattle.catalogue_write.specs.Laid.{Given, Layable}
use Rattle.rows.proofs.Alphabets.{symbols_most, arities_most}
use Rattle.catalogue_write.proofs.Counting.{total_most}

-- at most 256 programmes
pub few_most : (n : ℕ) → few n ≡ Ok tt → n ≤ programmes_most
unfolding few
few_most n h = ltb-false programmes_most n (refuse_fine (ltb programmes_most n) (OfCatalogue (Programmes n)) h)

-- THE LENGTHS: as many as the numbers, with the sum m; so m is far from the largest number of 64 bits
lengths_fit_lem : (ns ls : List ℕ) (m : ℕ) → lengths_fit ns ls m ≡ Ok tt → (length ls ≡ length ns) × (total ls ≡ m)
unfolding lengths_fit
lengths_fit_lem ns ls m h =
    let a = is_wanted (eqb (length ls) (length ns)) _ (OfCatalogue (Misplaced m)) h in
    let b = is_wanted (eqb (total ls) m) (Ok tt) (OfCatalogue (Misplaced m)) a.1 in
    (eqb-true (length ls) (length ns) a.0, eqb-true (total ls) m b.0)

pub sum_most : (ns ls : List ℕ) (m : ℕ) → lengths_fit ns ls m ≡ Ok tt → length ns ≤ programmes_most → ((i : ℕ) → get_or ls i 0 < 4294967296)
    → m ≤ 1099511627776
sum_most ns ls m h few small = omega (arith, lengths_fit_lem ns ls m h, total_most ls small)

-- WHAT IS GIVEN, for rows of m symbols
module _ (A ns ls : List ℕ) (m : ℕ) (h : given_fits A ns ls m ≡ Ok tt) where
  pub given_is : Given ns ls m
  given_is =
      let o = given_fits_lem A ns ls m h in
      record { few = o.few_programmes; many = o.many; sum = o.sum }

  pub symbols-few : length A ≤ alphabet_most
  symbols-few = symbols_most A (given_fits_lem A ns ls m h).fine

  pub size_most : size_of A ns m ≤ file_most
  size_most = (given_fits_lem A ns ls m h).size

  -- so there are few enough symbols to add up
  pub rows_few : m ≤ file_most
  unfolding size_of
  rows_few = omega (arith, size_most)

  -- a file with room for the whole has room for what stands before the rows
  pub layable : (f : List ℕ) → size_of A ns m ≤ length f → Layable A ns ls f
  unfolding size_of
  layable f room =
      let g = given_is in
      record {
        few = g.few;
        many = g.many;
        symbols = symbols-few;
        small = λ k. omega (arith, arities_most A (given_fits_lem A ns ls m h).fine k);
        size = subst (λ (i : ℕ). size_of A ns i ≤ file_most) (sym g.sum) size_most;
        fits = omega arith;
      }

-- ALL OF A WRITING, into k bytes
module _ (A ns ls w : List ℕ) (k : ℕ) (h : write_check A ns ls w k ≡ Ok tt) where
  pub given_of : given_fits A ns ls (length w) ≡ Ok tt
  unfolding write_check
  given_of = (both_fine (given_fits A ns ls (length w)) _ h).0

  pub room_of : size_of A ns (length w) ≤ k
  unfolding write_check
  room_of =
      output_fine (size_of A ns (length w)) k
      (both_fine (rows_fit A (numbered ns ls w)) _ (both_fine (given_fits A ns ls (length w)) _ h).1).1
