-- In k stretches the symbol does not stand.
use Rattle.std.proofs.Common.{◌+◌, ◌*◌}
use Rattle.searches.specs.Searches.{Without}
use Rattle.searches.proofs.pass_over.Given as goal

abbrev pub invariant-loop-k : goal.invariant-loop-k
invariant-loop-k l = Without l.row l.s l.from (l.from + l.k * 64)
