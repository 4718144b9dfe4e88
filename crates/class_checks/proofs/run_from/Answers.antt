-- `class_checks::run_from` meets its contract.
use Rattle.class_checks.proofs.Falls.{along_none, along_more, granted}
use Rattle.class_checks.proofs.run_from.Goals as goal

pub run_strides-q-requires : goal.run_strides-q-requires
run_strides-q-requires c =
    let P = c.args.programme in
    let on = granted c.leads_on.result c.leads_on.ensures c.if-not-leads_on.false in
    let once = along_more (along_none P.table.now P.classes.now c.args.p c.args.n c.requires.0 c.requires.1) on.0 on.1 in
    (once.root, once.row)
