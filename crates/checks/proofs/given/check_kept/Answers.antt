-- Sizes that are accepted are what the check of row, table and classes asks for.
use Rattle.std.proofs.Common.{◌≡◌, Ok, length, take, sym, length-take-le, rules, arith}
use Rattle.rows.specs.Programme.{programme_of, room}
use Rattle.rows.specs.Refusals.{sizes}
use Rattle.rows.specs.declared.Refusal.TheVariants.{Row}
use Rattle.rows.proofs.Passing.{Fits, sizes_fits}
use Rattle.checks.proofs.given.check_kept.Goals as goal
use Rattle.checks.proofs.given.check_kept.Goals.{In_ok-check_sizes}

module _ (c : In_ok-check_sizes) where
  fits : Fits c.args.n (room (programme_of c.args.programme))
  fits =
      let fine : sizes Row c.args.n (room (programme_of c.args.programme)) ≡ Ok tt = search rules in
      sizes_fits Row c.args.n (room (programme_of c.args.programme)) fine

  long : length (take c.args.n c.args.programme.row.now) ≡ c.args.n
  long = length-take-le c.args.n c.args.programme.row.now (omega (arith, fits.room))

pub slice_bounds-check_lists-end : goal.slice_bounds-check_lists-end
slice_bounds-check_lists-end c = sym (long (goal.at.slice_bounds-check_lists-end c).In_ok-check_sizes)

pub check_lists-requires : goal.check_lists-requires
check_lists-requires c =
    let s = (goal.at.check_lists-requires c).In_ok-check_sizes in
    let f = fits s in
    let l = long s in
    (record { most = omega (arith, l, f.most); fits = omega (arith, l, f.room) }, omega (arith, l, f.room))
