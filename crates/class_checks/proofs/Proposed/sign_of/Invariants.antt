use Rattle.std.proofs.Common.{◌≡◌, ◌-◌, ◌<◌, get_or}
use Rattle.rows.specs.Tree.{Forest}
use Rattle.classes.specs.Shown.{Shown}
use Rattle.classes.proofs.Signs.{Mixing, Looking}
use Rattle.class_checks.specs.Repeats.{Twin}
use Rattle.class_checks.proofs.Proposed.sign_of.Given as goal

-- the children before a are mixed in and have no twin
abbrev pub invariant-loop-a : goal.invariant-loop-a
invariant-loop-a l =
    let P = l.self.programme in
    (l.end ≡ get_or P.table.now l.p 0)
    × (l.p < l.a)
    × (l.sign < 4294967296)
    × ((f : Forest) → Shown f P.row.now P.table.now → Mixing f P.classes.now l.p l.end l.a l.sign × Looking f (Twin f P.classes.now l.p) l.p l.end l.a)

abbrev pub decreases-loop-a : goal.decreases-loop-a
decreases-loop-a l = l.end - l.a
