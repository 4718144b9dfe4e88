-- i symbols are the same, and as many more as at the fronts of what is left.
use Rattle.std.proofs.Common.{◌≡◌}
use Rattle.patterns.specs.Walk.{agreeing}
use Rattle.patterns.proofs.Fronts.{counted}
use Rattle.patterns.proofs.count_singly.Given as goal

abbrev pub invariant-loop-i : goal.invariant-loop-i
invariant-loop-i l = agreeing l.row l.a l.b l.n ≡ counted l.row l.a l.b l.n l.i
