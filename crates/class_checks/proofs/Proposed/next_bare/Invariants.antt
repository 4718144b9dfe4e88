use Rattle.std.proofs.Common.{◌-◌, ◌<◌, ◌≤◌, length}
use Rattle.rows.specs.Tree.{Forest}
use Rattle.classes.specs.Shown.{Shown}
use Rattle.class_checks.specs.Repeats.{Reached, Unbare}
use Rattle.class_checks.proofs.Proposed.next_bare.Given as goal

-- before `at` all is right, and none from `last` on before the leader is bare
abbrev pub invariant-loop-at : goal.invariant-loop-at
invariant-loop-at l =
    let P = l.self.programme in
    (l.last < l.at)
    × (l.at ≤ length P.row.now)
    × (l.last ≤ l.leader)
    × ((f : Forest) → Shown f P.row.now P.table.now → Reached f P.classes.now l.leader l.at × Unbare f P.classes.now l.last l.leader)

abbrev pub decreases-loop-at : goal.decreases-loop-at
decreases-loop-at l = length l.self.programme.row.now - l.at
