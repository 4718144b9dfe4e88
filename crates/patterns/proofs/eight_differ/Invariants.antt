-- Where no difference was seen, the first k symbols are the same.
use Rattle.std.proofs.Common.{◌≡◌, false}
use Rattle.patterns.specs.Walk.{Alike}
use Rattle.patterns.proofs.eight_differ.Given as goal

abbrev pub invariant-loop-k : goal.invariant-loop-k
invariant-loop-k l = l.differ ≡ false → Alike l.x l.a l.y l.b l.k
