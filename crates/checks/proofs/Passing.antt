-- What each check leaves where it refuses nothing.
-- Assumes nothing.
use Rattle.std.specs.Prelude.{Ok}
use Prim.Native.Nat.{ℕ, ◌<◌, ◌≤◌}
use mathlib.Core.Path.{◌≡◌, ap₂}
use mathlib.Core.List.{List}
use lib.ListN.{length}
use Rattle.rows.specs.Limits.{alphabet_most, row_most, pattern_most, span_places}
use Rattle.rows.specs.Programme.{Alphabet, Programme}
use Rattle.rows.specs.Row.{reading, sized, verdict, allowed}
use Rattle.rows.specs.Reading.{Accepted}
use Rattle.rows.specs.Refusals.{◌then◌, alphabet_size, arities_fit, some_leaf, alphabet, as_kept, kept, given, pattern, position, output}
use Rattle.rows.specs.declared.Leaves.TheVariants.{Blanks, Symbols}
use Rattle.rows.specs.declared.Refusal.TheVariants.{Row, OnRecord}
use Rattle.rows.proofs.Scan.{sized_fits}
use Rattle.rows.proofs.Passing.{both_fine, row_fine, pattern_fine, few, position_fine, output_fine, both_whole}
use Rattle.tables.specs.Given.{Right}
use Rattle.tables.proofs.Given.{given_right, kept_whole}
use Rattle.patterns.specs.Searchable.{Checked}
use Rattle.checks.specs.Checks.{subtree_check, search_check, variables_check, newer_check, plain_check}

-- refusals 1 to 3 leave at most 1,024 symbols
pub alphabet-few : (a : Alphabet) → alphabet a ≡ Ok tt → length a.arities ≤ alphabet_most
unfolding alphabet
alphabet-few a e = few (length a.arities) (both_fine (alphabet_size (length a.arities)) (arities_fit 0 a.arities then some_leaf a.arities) e).0

pub given-few : (a : Alphabet) (P : Programme) (n : ℕ) → given a P n ≡ Ok tt → length a.arities ≤ alphabet_most
unfolding given
given-few a P n e = alphabet-few a (both_fine (alphabet a) (kept Row a P n) e).0

-- what refusals 1 to 10, 62 and 17 leave
pub record Stands (a : Alphabet) (P : Programme) (p : ℕ) : Type 0 where
  pub right : Right a.arities P.row P.table
  pub below : p < length P.row

pub subtree_stands : (a : Alphabet) (P : Programme) (p : ℕ) → subtree_check a P p ≡ Ok tt → Stands a P p
unfolding subtree_check
subtree_stands a P p e =
    let both = both_fine (given a P (length P.row)) (position (length P.row) p) e in
    record { right = (given_right a P both.0).row; below = position_fine (length P.row) p both.1 }

-- row, table, classes and pattern can be searched
pub search_checked : (a : Alphabet) (P : Programme) (q : List ℕ) → search_check a P q ≡ Ok tt → Checked a P q
unfolding search_check pattern
search_checked a P q e =
    let both = both_fine (given a P (length P.row)) (pattern a.arities q) e in
    record {
      few = given-few a P (length P.row) both.0;
      row = (given_right a P both.0).row;
      classed = (given_right a P both.0).classed;
      pattern = pattern_fine (reading a.arities Blanks pattern_most q) both.1;
    }

-- and the variables call has a position of the row, and room
pub variables_checked : (a : Alphabet) (P : Programme) (q : List ℕ) (p m : ℕ) → variables_check a P q p m ≡ Ok tt
    → Checked a P q × (p < length P.row) × (span_places ≤ m)
unfolding variables_check
variables_checked a P q p m e =
    let both = both_fine (search_check a P q) (position (length P.row) p then output span_places m) e in
    let rest = both_fine (position (length P.row) p) (output span_places m) both.1 in
    (search_checked a P q both.0, position_fine (length P.row) p rest.0, output_fine span_places m rest.1)

-- nothing is refused: both rows can be searched
pub newer_checked : (a : Alphabet) (P O : Programme) (q : List ℕ) → newer_check a P O q ≡ Ok tt → Checked a P q × Checked a O q
unfolding newer_check search_check pattern
newer_checked a P O q e =
    let corrected = both_fine (given a P (length P.row)) (kept OnRecord a O (length O.row) then pattern a.arities q) e in
    let older = both_fine (kept OnRecord a O (length O.row)) (pattern a.arities q) corrected.1 in (
      search_checked a P q (ap₂ ◌then◌ corrected.0 older.1),
      record {
        few = given-few a P (length P.row) corrected.0;
        row = (kept_whole OnRecord a O older.0).row;
        classed = (kept_whole OnRecord a O older.0).classed;
        pattern = pattern_fine (reading a.arities Blanks pattern_most q) older.1;
      },
    )

-- what refusals 1 to 5, 7 to 9, 11 to 15 and 17 leave
pub record Open (a : Alphabet) (w q : List ℕ) (p : ℕ) : Type 0 where
  pub few : length a.arities ≤ alphabet_most
  pub most : length w ≤ row_most
  pub accepted : Accepted a.arities w
  pub pattern : reading a.arities Blanks pattern_most q ≡ Ok tt
  pub below : p < length w

pub plain_open : (a : Alphabet) (w q : List ℕ) (p : ℕ) → plain_check a w q p ≡ Ok tt → Open a w q p
unfolding plain_check reading pattern
plain_open a w q p e =
    let A : List ℕ = a.arities in
    let first = both_fine (alphabet a) (as_kept Row (reading A Symbols row_most w) then pattern A q then position (length w) p) e in
    let rows = both_fine (as_kept Row (reading A Symbols row_most w)) (pattern A q then position (length w) p) first.1 in
    let whole = both_whole (sized (length w) row_most) (verdict A (allowed Symbols A) 1 0 w) (row_fine Row (reading A Symbols row_most w) rows.0) in
    let rest = both_fine (pattern A q) (position (length w) p) rows.1 in
    record {
      few = alphabet-few a first.0;
      most = (sized_fits (length w) row_most whole.0).1;
      accepted = whole.1;
      pattern = pattern_fine (reading A Blanks pattern_most q) rest.0;
      below = position_fine (length w) p rest.1;
    }
