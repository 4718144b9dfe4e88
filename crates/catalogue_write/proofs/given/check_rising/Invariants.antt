use Rattle.std.proofs.Common.{◌≡◌, ◌≤◌, drop}
use Rattle.catalogue.specs.Refusals.{rises}
use Rattle.catalogue_write.proofs.given.check_rising.Given as goal

-- what is said is said of the numbers from k on
abbrev pub invariant-loop-k : goal.invariant-loop-k
invariant-loop-k l = (l.least ≤ 4294967296) × (rises 1 0 0 l.fn.numbers ≡ rises 1 l.k l.least (drop l.k l.fn.numbers))
