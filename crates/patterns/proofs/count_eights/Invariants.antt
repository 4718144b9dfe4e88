-- In t eights all symbols are the same.
use Rattle.std.proofs.Common.{◌*◌}
use Rattle.patterns.specs.Walk.{Alike}
use Rattle.patterns.proofs.count_eights.Given as goal

abbrev pub invariant-loop-t : goal.invariant-loop-t
invariant-loop-t l = Alike l.x l.a l.y l.b (l.t * 8)
