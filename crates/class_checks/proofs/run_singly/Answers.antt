-- `class_checks::run_singly` meets its contract.
use Rattle.std.proofs.Common.{refl}
use Rattle.class_checks.proofs.Falls.{along_none, along_more, granted}
use Rattle.class_checks.proofs.run_singly.Goals as goal

pub loop-r-init : goal.loop-r-init
loop-r-init c z = along_none c.args.programme.table.now c.args.programme.classes.now c.args.q z.length_of z refl

pub leads_on-requires : goal.leads_on-requires
leads_on-requires c = (c.loop-r.invariant c.requires).root

pub loop-r-preserved : goal.loop-r-preserved
loop-r-preserved c z =
    let on = granted c.leads_on.result c.leads_on.ensures c.loop-r-test.true in
    along_more (c.loop-r.invariant z) on.0 on.1

pub returns : goal.returns
returns c = (c.loop-r.invariant c.requires).run
