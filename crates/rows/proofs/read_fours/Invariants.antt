use Rattle.std.proofs.Common.{◌+◌, ◌-◌}
use Rattle.rows.specs.Reading.{SymbolsTo}
use Rattle.rows.proofs.read_fours.Given as goal

-- the row is read up to i
abbrev pub invariant-loop-i : goal.invariant-loop-i
invariant-loop-i g l = SymbolsTo l.fn.arities (g.E.Piece.numbers l.fn.row) l.i (l.i + l.more)

abbrev pub decreases-loop-i : goal.decreases-loop-i
decreases-loop-i g l = l.end - l.i
