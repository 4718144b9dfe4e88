use Rattle.class_checks.specs.Repeats.{SamePart}
use Rattle.class_checks.proofs.same_part.Given as goal

-- the places so far are the same
abbrev pub invariant-loop-i : goal.invariant-loop-i
invariant-loop-i l = SamePart l.fn.list l.fn.p l.fn.q l.i
