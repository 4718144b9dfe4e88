use Rattle.std.proofs.Common.{◌-◌, length}
use Rattle.class_checks.specs.Repeats.{Rooted, Along}
use Rattle.class_checks.proofs.run_singly.Given as goal

-- the run has come to r
abbrev pub invariant-loop-r : goal.invariant-loop-r
invariant-loop-r l =
    let P = l.programme in
    (z : Rooted P.table.now P.classes.now l.q) → Along P.table.now P.classes.now z.length_of l.q l.r

abbrev pub decreases-loop-r : goal.decreases-loop-r
decreases-loop-r l = length l.programme.table.now - l.r
