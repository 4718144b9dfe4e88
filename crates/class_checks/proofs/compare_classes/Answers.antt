-- `class_checks::compare_classes` meets its contract.
use Rattle.rows.specs.declared.Kept.TheVariants.{Misclassed}
use Rattle.class_checks.proofs.Refuse.{wrong_at, wrong_nowhere}
use Rattle.class_checks.proofs.compare_classes.Goals as goal

pub returns-then-classes-i : goal.returns-then-classes-i
returns-then-classes-i c whose =
    wrong_at (λ k. whose (Misclassed k)) c.loop-i.i c.args.right.now c.args.classes.now c.requires c.loop-i.invariant c.loop-i-test.true c.if-classes-i.true

pub returns : goal.returns
returns c whose =
    wrong_nowhere (λ k. whose (Misclassed k)) c.loop-i.i c.args.right.now c.args.classes.now c.requires c.loop-i.invariant c.loop-i-test.false
