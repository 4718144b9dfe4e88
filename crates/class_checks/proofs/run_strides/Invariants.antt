use Rattle.std.proofs.Common.{◌-◌}
use Rattle.class_checks.specs.Repeats.{Along}
use Rattle.class_checks.proofs.run_strides.Given as goal

-- the run has come to r
abbrev pub invariant-loop-r : goal.invariant-loop-r
invariant-loop-r l = Along l.programme.table.now l.programme.classes.now l.n l.q l.r

abbrev pub decreases-loop-r : goal.decreases-loop-r
decreases-loop-r l = l.n - l.r
