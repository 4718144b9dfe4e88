-- What the check of row and table leaves is what that of the classes asks for.
use Rattle.checks.proofs.Classing.{found_right, then_classes}
use Rattle.checks.proofs.given.check_beside.Goals as goal
use Rattle.tables.specs.Given.{Right}
use Rattle.checks.proofs.given.check_beside.Goals.{In_ok-check_beside}

right : (c : In_ok-check_beside) → Right c.args.arities.now c.args.programme.row.now c.args.programme.table.now
right c =
    let P = c.args.programme in
    let k = c.check_beside in
    found_right c.args.arities.now P.row.now P.table.now P.classes.now k.result k.ensures c.requires.0 c.in_ok-check_beside.was

pub check_beside-requires-2-clause-by_index : goal.check_beside-requires-2-clause-by_index
check_beside-requires-2-clause-by_index c =
    (_, right (goal.at.check_beside-requires-2-clause-by_index c).In_ok-check_beside)

pub returns : goal.returns
returns c =
    let P = c.args.programme in
    let k = c.check_beside in
    let l = c.check_beside-2 in
    then_classes c.args.arities.now P.row.now P.table.now P.classes.now k.result k.ensures c.in_ok-check_beside.was l.result
    (l.ensures c.args.arities.now (right (goal.at.returns c).In_ok-check_beside))
