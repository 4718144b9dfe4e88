use Rattle.std.proofs.Common.{ℕ, ◌≤◌}
use Rattle.rows.specs.Tree.{Forest}
use Rattle.rows.specs.Classes.{SameSign}
use Rattle.classes.specs.Shown.{Shown}
use Rattle.class_checks.specs.Repeats.{Falls}
use Rattle.class_checks.proofs.Proposed.is_unseen.Given as goal

-- a position of the chain with the sign of p is still to come
abbrev pub invariant-loop-r : goal.invariant-loop-r
invariant-loop-r l =
    let P = l.self.programme in
    (l.r ≤ l.p) × ((f : Forest) → Shown f P.row.now P.table.now → (q : ℕ) → Falls l.links l.first q → SameSign f P.classes.now l.p q → Falls l.links l.r q)

abbrev pub decreases-loop-r : goal.decreases-loop-r
decreases-loop-r l = l.r
