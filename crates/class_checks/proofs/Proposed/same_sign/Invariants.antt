use Rattle.std.proofs.Common.{◌≡◌, ◌-◌, get_or}
use Rattle.rows.specs.Tree.{Forest}
use Rattle.classes.specs.Shown.{Shown}
use Rattle.classes.proofs.Signs.{Facing}
use Rattle.class_checks.proofs.Proposed.same_sign.Given as goal

-- the children before a and b have the same classes
abbrev pub invariant-loop-a : goal.invariant-loop-a
invariant-loop-a l =
    let P = l.self.programme in
    (l.end ≡ get_or P.table.now l.p 0) × ((f : Forest) → Shown f P.row.now P.table.now → Facing f P.classes.now l.p l.q l.end l.a l.b)

abbrev pub decreases-loop-a : goal.decreases-loop-a
decreases-loop-a l = l.end - l.a
