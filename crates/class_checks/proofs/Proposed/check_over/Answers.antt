-- `class_checks::Proposed::check_over` meets its contract.
use Rattle.std.proofs.Common.{◌∙◌}
use Rattle.class_checks.proofs.Refuse.{scan_fine, filled-classed}
use Rattle.class_checks.proofs.Proposed.check_over.Goals as goal

pub returns-then-scan_leaders : goal.returns-then-scan_leaders
returns-then-scan_leaders c A r =
    let P = c.args.self.now.programme in
    let k = c.scan_leaders in
    scan_fine A P.row.now P.table.now P.classes.now k.result r c.args.self.now.room k.ensures c.if-scan_leaders.true

pub returns : goal.returns
returns c A r whose =
    let P = c.args.self.now.programme in
    c.compare_classes.ensures whose
    ∙ filled-classed whose A P.row.now P.classes.now c.scan_leaders.new.links c.fill_classes.new.classes (c.fill_classes.ensures A r)
