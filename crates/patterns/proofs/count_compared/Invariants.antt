-- From place k on every number is S.
use Rattle.patterns.specs.Searchable.{BlankFrom}
use Rattle.patterns.proofs.count_compared.Given as goal

abbrev pub invariant-loop-k : goal.invariant-loop-k
invariant-loop-k l = BlankFrom l.pattern l.k
