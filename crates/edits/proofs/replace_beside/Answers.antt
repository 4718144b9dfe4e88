-- `edits::replace_beside` meets its contract: the classes are those of the row that the replacement leaves.
use native.Mathlib.Omega.{arith}
use Rattle.edits.proofs.Replace.{changed_right, reclassed}
use Rattle.edits.proofs.replace_beside.Goals as goal

pub renew_classes-requires : goal.renew_classes-requires
renew_classes-requires c =
    let h = c.replace_subtree-m in
    let k = h.ensures in
    let t = changed_right c.args.arities.now c.args.lent.now.row.now c.args.lent.now.table.now c.args.n c.args.v.now c.args.p c.requires.0.0 _ _ _ k in
    ((c.args.arities.now, t.2), t.0, omega (arith, k.length_now, c.requires.0.1.new), c.requires.0.1.old, omega (arith, c.requires.2, h.auto.standing))

pub returns-clause-changing : goal.returns-clause-changing
returns-clause-changing c =
    let k = c.replace_subtree-m.ensures in
    let t = changed_right c.args.arities.now c.args.lent.now.row.now c.args.lent.now.table.now c.args.n c.args.v.now c.args.p c.requires.0.0 _ _ _ k in
    (k, reclassed c.args.arities.now c.args.lent.now.row.now c.args.lent.now.table.now c.args.n c.args.v.now c.args.p c.requires.0.0 c.args.lent.now.classes.now _ _ _ _ k (c.renew_classes.ensures c.args.arities.now t.2))
