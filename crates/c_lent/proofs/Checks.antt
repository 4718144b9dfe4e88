-- The order of the checks.
-- Assumes nothing.
use Rattle.std.specs.Prelude.{Result, Ok, Err, ⊤}
use Prim.Native.Nat.{◌≤◌}
use mathlib.Core.Path.{◌≡◌, sym, ap, ◌∙◌}
use lib.ListN.{length}
use Rattle.rows.specs.Limits.{row_most}
use Rattle.rows.specs.Programme.{Alphabet, Programme, room}
use Rattle.rows.specs.Refusals.{◌then◌, alphabet, sizes, symbols}
use Rattle.rows.specs.declared.Refusal.{Refusal}
use Rattle.rows.specs.declared.Refusal.TheVariants.{Row}
use Rattle.rows.proofs.Passing.{both_fine, then_assoc, sizes_fits}
use Rattle.checks.specs.Checks.{build_check}
use Rattle.c_lent.specs.Reading.{sizes_check}

-- Build, after refusals 1 to 6: it goes on with 7 to 9, on a row of at most 16,384.
module _ (a : Alphabet) (P : Programme) where
  abbrev first : Result ⊤ Refusal
  first = sizes_check a (length P.row) (room P)

  goes_on : (r : Result ⊤ Refusal) → first ≡ r → build_check a P ≡ r then symbols Row a.arities P.row
  unfolding build_check
  goes_on r e =
      sym (then_assoc (alphabet a) (sizes Row (length P.row) (room P)) (symbols Row a.arities P.row))
      ∙ ap (λ (c : Result ⊤ Refusal). c then symbols Row a.arities P.row) e

  pub build_refused : (r : Refusal) → first ≡ Err r → build_check a P ≡ Err r
  build_refused r e = goes_on (Err r) e

  pub build_after : first ≡ Ok tt → build_check a P ≡ symbols Row a.arities P.row
  build_after e = goes_on (Ok tt) e

  pub build_most : first ≡ Ok tt → length P.row ≤ row_most
  build_most e = (sizes_fits Row (length P.row) (room P) (both_fine (alphabet a) (sizes Row (length P.row) (room P)) e).1).most
