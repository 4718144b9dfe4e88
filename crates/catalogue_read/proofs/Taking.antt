-- Laws of what is taken from a file as numbers: its alphabet, and the row of an entry.
-- Assumes nothing.
use Rattle.std.specs.Prelude.{Result, Ok, Err, ⊤}
use Prim.Native.Nat.{ℕ, ◌+◌, ◌-◌, ◌*◌, ◌≤◌, ◌<◌}
use mathlib.Core.Path.{◌≡◌, refl, sym, ap, ◌∙◌}
use mathlib.Core.List.{List}
use native.Mathlib.Omega.{arith}
use borrow.Author.Tests.{lt-ltb, le-ltb}
use lib.ListN.{length, take, drop, length-drop}
use lib.Seq.{take_all, length-take-le}
use Rattle.rows.specs.Buffers.{written, after}
use Rattle.rows.specs.Refusals.{output}
use Rattle.rows.specs.declared.CatalogueFault.TheVariants.{Misplaced}
use Rattle.rows.specs.declared.Refusal.{Refusal}
use Rattle.rows.specs.declared.Refusal.TheVariants.{Catalogue as OfCatalogue}
use Rattle.wire.specs.Wire.{numbers}
use Rattle.catalogue.specs.Reading.{programmes_in, symbols_in, arities_in, row_in}
use Rattle.catalogue.specs.Refusals.{head_fits, alphabet_check, row_check}
use Rattle.catalogue.specs.declared.Entry.{Entry}
use Rattle.catalogue.proofs.Read.{part_count}
use Rattle.catalogue_read.specs.Answers.{taken, Takes}
use Rattle.catalogue_read.proofs.Behind.{arities_fit_lem}

module _ (check : Result ⊤ Refusal) (v b : List ℕ) where
  -- a refusal is the answer, and the list stays
  pub takes_none : (r : Refusal) → check ≡ Err r → Takes check v b (Err r) b
  takes_none r e = record {
    answer = sym (ap (λ (c : Result ⊤ Refusal). taken c (length v)) e);
    list = sym (ap (λ (c : Result ⊤ Refusal). after c (written b 0 v) b) e);
  }

  -- what is wanted is written, and its length the answer
  pub takes_all : (n : ℕ) (b' : List ℕ) → check ≡ Ok tt → length v ≡ n → b' ≡ written b 0 v → Takes check v b (Ok n) b'
  takes_all n b' e long new = record {
    answer = sym (ap (λ (c : Result ⊤ Refusal). taken c (length v)) e ∙ ap Ok long);
    list = new ∙ sym (ap (λ (c : Result ⊤ Refusal). after c (written b 0 v) b) e);
  }

-- the alphabet of a file whose head is right
module _ (f : List ℕ) (h : head_fits f ≡ Ok tt) (n m : ℕ) (e : n ≡ symbols_in f) where
  pub alphabet_room : alphabet_check f m ≡ output n m
  unfolding alphabet_check
  alphabet_room = simp (h, sym e)

  pub arities-count : length (arities_in f) ≡ n
  unfolding arities_in
  arities-count =
      let at = 4 + 12 * programmes_in f in
      length-take-le (symbols_in f) (drop at f) (omega (arith, arities_fit_lem f h (programmes_in f) (symbols_in f) refl refl, length-drop at f)) ∙ sym e

-- the row of an entry
module _ (f : List ℕ) (e : Entry) (m : ℕ) where
  pub row_past : length f < e.start + 2 * e.length → row_check f e m ≡ Err (OfCatalogue (Misplaced e.start))
  unfolding row_check
  row_past k = simp (lt-ltb (length f) (e.start + 2 * e.length) k)

  pub row_room : e.start + 2 * e.length ≤ length f → row_check f e m ≡ output e.length m
  unfolding row_check
  row_room within = simp (le-ltb (length f) (e.start + 2 * e.length) within)

-- a part that ends within the file has as many numbers, and they are the row
module _ (f : List ℕ) (e : Entry) (within : e.start + 2 * e.length ≤ length f) where
  abbrev part : List ℕ
  part = take (e.start + 2 * e.length - e.start) (drop e.start f)

  part_is : numbers part ≡ row_in f e
  unfolding row_in
  part_is =
      let long : e.start + 2 * e.length - e.start ≡ 2 * e.length = omega arith in
      ap (λ (k : ℕ). numbers (take k (drop e.start f))) long

  pub row_count : length (row_in f e) ≡ e.length
  unfolding row_in
  row_count = part_count f e.start e.length within

  pub row_there : e.length ≤ length (numbers part)
  row_there = omega (arith, ap length part_is, row_count)

  pub row_is : take e.length (numbers part) ≡ row_in f e
  row_is = ap (take e.length) part_is ∙ take_all e.length (row_in f e) (omega (arith, row_count))
