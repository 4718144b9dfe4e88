-- What the check of row and table leaves is what that of the classes asks for.
use Rattle.checks.proofs.Classing.{found_right, then_classes}
use Rattle.checks.proofs.given.check_lists.Goals as goal
use Rattle.tables.specs.Given.{Right}
use Rattle.checks.proofs.given.check_lists.Goals.{In_ok-check_ends}

right : (c : In_ok-check_ends) → Right c.args.arities.now c.args.programme.row.now c.args.programme.table.now
right c =
    let P = c.args.programme in
    let k = c.check_ends in
    found_right c.args.arities.now P.row.now P.table.now P.classes.now k.result k.ensures c.requires.0 c.in_ok-check_ends.was

pub check_classes-requires-clause-by_index : goal.check_classes-requires-clause-by_index
check_classes-requires-clause-by_index c =
    (_, right (goal.at.check_classes-requires-clause-by_index c).In_ok-check_ends)

pub returns : goal.returns
returns c =
    let P = c.args.programme in
    let k = c.check_ends in
    let l = c.check_classes in
    then_classes c.args.arities.now P.row.now P.table.now P.classes.now k.result k.ensures c.in_ok-check_ends.was l.result
    (l.ensures c.args.arities.now (right (goal.at.returns c).In_ok-check_ends))
