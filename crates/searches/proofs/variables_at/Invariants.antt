-- The walk that is left from pattern place k decides the walk from p.
use Rattle.rows.specs.Programme.{programme_of}
use Rattle.searches.proofs.Going.{Walking}
use Rattle.searches.proofs.variables_at.Given as goal

abbrev pub invariant-loop-k : goal.invariant-loop-k
invariant-loop-k l = Walking (programme_of l.programme) l.pattern l.p l.marks l.j l.k
