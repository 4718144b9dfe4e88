use Rattle.std.proofs.Common.{◌≡◌, Ok, length, rules}
use Rattle.rows.specs.Programme.{programme_of, room}
use Rattle.rows.specs.Refusals.{sizes}
use Rattle.rows.specs.declared.Refusal.TheVariants.{Row}
use Rattle.rows.proofs.Passing.{sizes_fits}
use Rattle.checks.proofs.table.check_build.Goals as goal

pub check_symbols-requires : goal.check_symbols-requires
check_symbols-requires c =
    let P = programme_of c.args.programme in
    let fine : sizes Row (length P.row) (room P) ≡ Ok tt = search rules in
    (sizes_fits Row (length P.row) (room P) fine).most
