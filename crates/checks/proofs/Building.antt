-- What a build that refuses nothing has found.
-- Assumes nothing.
use Rattle.std.specs.Prelude.{Ok}
use Prim.Native.Nat.{ℕ, ◌≤◌}
use mathlib.Core.Path.{◌≡◌, sym, ap, ◌∙◌}
use mathlib.Core.List.{List}
use native.Mathlib.Omega.{arith}
use lib.ListN.{length, take}
use Rattle.rows.specs.Programme.{Alphabet, Programme, room}
use Rattle.rows.specs.Tree.{ends}
use Rattle.rows.specs.Parse.{parse, table}
use Rattle.rows.specs.Row.{verdict, allowed}
use Rattle.rows.specs.Buffers.{written}
use Rattle.rows.specs.Refusals.{◌then◌, alphabet, sizes, symbols}
use Rattle.rows.specs.declared.Leaves.TheVariants.{Symbols}
use Rattle.rows.specs.declared.Refusal.TheVariants.{Row}
use Rattle.rows.proofs.Passing.{both_fine, row_fine, sizes_fits}
use Rattle.rows.proofs.Buffers.{written-front, length-written}
use Rattle.rows.proofs.Entry.{length-table}
use Rattle.tables.specs.Given.{Right, Fillable}
use Rattle.checks.specs.Checks.{build_check}

pub build_fillable : (a : Alphabet) (P : Programme) → build_check a P ≡ Ok tt → Fillable a.arities P.row P.table 0
unfolding build_check symbols
build_fillable a P e =
    let rows = (both_fine (alphabet a) (sizes Row (length P.row) (room P) then symbols Row a.arities P.row) e).1 in
    let both = both_fine (sizes Row (length P.row) (room P)) (symbols Row a.arities P.row) rows in
    let fits = sizes_fits Row (length P.row) (room P) both.0 in
    record {
      accepted = row_fine Row (verdict a.arities (allowed Symbols a.arities) 1 0 P.row) both.1;
      most = omega (arith, fits.most);
      fits = omega (arith, fits.room);
    }

-- the list of classes has room for the row's
pub build_classes : (a : Alphabet) (P : Programme) → build_check a P ≡ Ok tt → length P.row ≤ length P.classes
unfolding build_check
build_classes a P e =
    let rows = (both_fine (alphabet a) (sizes Row (length P.row) (room P) then symbols Row a.arities P.row) e).1 in
    omega (arith, (sizes_fits Row (length P.row) (room P) (both_fine (sizes Row (length P.row) (room P)) (symbols Row a.arities P.row) rows).0).room)

-- a table that is filled in is right
pub filled_right : (A w t t' : List ℕ) → Fillable A w t 0 → t' ≡ written t 0 (ends 0 (parse A w)) → Right A w t'
unfolding table
filled_right A w t t' f e =
    let many : length (ends 0 (parse A w)) ≡ length w = length-table A w in
    let long : length t' ≡ length t = ap length e ∙ length-written t 0 (ends 0 (parse A w)) (omega (arith, f.fits)) in
    record {
      accepted = f.accepted;
      sized = record { most = omega (arith, f.most); fits = omega (arith, f.fits) };
      right = ap (take (length w)) e ∙ ap (λ (k : ℕ). take k (written t 0 (ends 0 (parse A w)))) (sym many) ∙ written-front t (ends 0 (parse A w));
    }
