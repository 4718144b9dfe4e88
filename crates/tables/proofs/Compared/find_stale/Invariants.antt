use Rattle.tables.specs.Beside.{Passed}
use Rattle.tables.proofs.Compared.find_stale.Given as goal

-- row and table are read from p on
abbrev pub invariant-loop-p : goal.invariant-loop-p
invariant-loop-p l = Passed l.self.arities.now l.self.row.now l.self.table.now l.standing l.trees l.stale l.p
