use Rattle.std.proofs.Common.{◌+◌, ◌-◌, ◌<◌, length}
use Rattle.rows.specs.Tree.{Forest}
use Rattle.classes.specs.Shown.{Shown}
use Rattle.class_checks.specs.Repeats.{Reached, Entered}
use Rattle.class_checks.proofs.Proposed.scan_leaders.Given as goal

-- up to `last`, which names itself, all is right, and the bare positions before it are in the chains
abbrev pub invariant-loop-bare : goal.invariant-loop-bare
invariant-loop-bare l =
    let P = l.self.programme in
    (l.last < length P.row.now)
    × ((f : Forest) → Shown f P.row.now P.table.now → Reached f P.classes.now l.last (l.last + 1) × Entered f P.classes.now l.heads l.links (length l.fn.heads) l.last)

abbrev pub decreases-loop-bare : goal.decreases-loop-bare
decreases-loop-bare l = length l.self.programme.row.now - l.last
