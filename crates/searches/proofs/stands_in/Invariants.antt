-- Where there was no hit, the symbol is none of the first.
use Rattle.std.proofs.Common.{◌≡◌, false}
use Rattle.searches.specs.Searches.{Without}
use Rattle.searches.proofs.stands_in.Given as goal

abbrev pub invariant-loop-x : goal.invariant-loop-x
invariant-loop-x l = l.hits ≡ false → Without l.part l.s 0 l.x-index
