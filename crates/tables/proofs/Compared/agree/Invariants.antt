use Rattle.std.proofs.Common.{◌≤◌, length}
use Rattle.tables.specs.Beside.{Passed}
use Rattle.tables.proofs.Compared.agree.Given as goal

-- row and table are read from p on, and agree there
abbrev pub invariant-loop-p : goal.invariant-loop-p
invariant-loop-p l = (l.p ≤ length l.self.row.now) × Passed l.self.arities.now l.self.row.now l.self.table.now l.standing l.trees (length l.self.row.now) l.p

abbrev pub decreases-loop-p : goal.decreases-loop-p
decreases-loop-p l = l.p
