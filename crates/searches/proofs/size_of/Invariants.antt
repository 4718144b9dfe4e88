-- Where no blank was seen, the first numbers are symbols.
use Rattle.std.proofs.Common.{◌≡◌, false}
use Rattle.searches.proofs.Searching.{PlainTo}
use Rattle.searches.proofs.size_of.Given as goal

abbrev pub invariant-loop-s : goal.invariant-loop-s
invariant-loop-s l = l.blanks ≡ false → PlainTo l.pattern l.s-index
