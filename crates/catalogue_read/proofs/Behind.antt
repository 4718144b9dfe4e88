-- What the checks behind the head are, for the numbers that the head says.
-- Assumes nothing.
use Rattle.std.specs.Prelude.{Ok, Err}
use Prim.Native.Nat.{ℕ, ◌+◌, ◌-◌, ◌*◌, ◌≤◌, ◌<◌}
use mathlib.Core.Path.{◌≡◌, sym, ap₂}
use mathlib.Core.List.{List, map}
use native.Mathlib.Omega.{arith}
use lib.ListN.{length, take, drop}
use Rattle.wire.specs.Wire.{numbers}
use Rattle.catalogue.specs.Catalogue.{first_row}
use Rattle.catalogue.specs.Reading.{entries_of, programmes_in, symbols_in, entries_in, arities_in, first_row_in, programme_in, catalogue_in}
use Rattle.rows.specs.Limits.{alphabet_most, file_most}
use Rattle.rows.specs.Refusals.{◌then◌}
use Rattle.catalogue.specs.Refusals.{rises, programme_of, placed, rows_fit, head_fits, contents_fit, file_check}
use Rattle.rows.specs.declared.Arities.TheVariants.{Count}
use Rattle.rows.specs.declared.Refusal.TheVariants.{Arities}
use Rattle.rows.proofs.Passing.{both_fine, alphabet_long}
use Rattle.catalogue.proofs.Read.{heads}
use Rattle.catalogue_read.specs.Behind.{behind_head}

module _ (f : List ℕ) (h : head_fits f ≡ Ok tt) where
  -- a file whose head is right has one, and holds contents and arities
  pub headed : 4 ≤ length f
  unfolding first_row_in first_row
  headed = omega (arith, (heads f h).long)

  pub fits : (n first : ℕ) → n ≡ programmes_in f → first ≡ first_row_in f → (4 + 12 * n ≤ length f) × (first ≤ length f) × (length f ≤ file_most)
  unfolding first_row_in first_row
  fits n first e q = let o = heads f h in (omega (arith, o.long), omega (arith, o.long), o.size)

  pub arities_fit_lem : (n s : ℕ) → n ≡ programmes_in f → s ≡ symbols_in f → 4 + 12 * n + s ≤ length f
  unfolding first_row_in first_row
  arities_fit_lem n s e q = omega (arith, (heads f h).long)

module _ (f : List ℕ) (n : ℕ) (e : n ≡ programmes_in f) where
  pub contents_is : (first : ℕ) → first ≡ first_row_in f
      → contents_fit f ≡ rises 12 4 0 (map programme_of (entries_of n (drop 2 (numbers f)))) then placed (length f) 4 first (entries_of n (drop 2 (numbers f)))
  unfolding contents_fit entries_in
  contents_is first q =
      ap₂ (λ (i j : ℕ). rises 12 4 0 (map programme_of (entries_of i (drop 2 (numbers f)))) then placed (length f) 4 j (entries_of i (drop 2 (numbers f)))) (sym e) (sym q)

  pub rows_are : (A B : List ℕ) → B ≡ A → rows_fit A (catalogue_in f).programmes ≡ rows_fit B (map (programme_in f) (entries_of n (drop 2 (numbers f))))
  unfolding catalogue_in entries_in
  rows_are A B q = ap₂ (λ (X : List ℕ) (i : ℕ). rows_fit X (map (programme_in f) (entries_of i (drop 2 (numbers f))))) (sym q) (sym e)

  -- the part of the file that holds the arities
  pub arities_are : (s : ℕ) → s ≡ symbols_in f → take (4 + 12 * n + s - (4 + 12 * n)) (drop (4 + 12 * n) f) ≡ arities_in f
  unfolding arities_in
  arities_are s q =
      let long : 4 + 12 * n + s - (4 + 12 * n) ≡ symbols_in f = omega arith in
      ap₂ (λ (i j : ℕ). take i (drop (4 + 12 * j) f)) long e

-- an alphabet that is too long is refused before the rows are looked at
pub arities_long : (f A : List ℕ) → A ≡ arities_in f → alphabet_most < length A → behind_head f ≡ Err (Arities (Count (length A)))
unfolding behind_head
arities_long f A e h = simp (sym e, alphabet_long A h)

-- an accepted file has a head
pub file_headed : (f : List ℕ) → file_check f ≡ Ok tt → 4 ≤ length f
unfolding file_check
file_headed f h = headed f (both_fine (head_fits f) _ h).0
