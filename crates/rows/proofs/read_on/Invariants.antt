use Rattle.rows.specs.Row.{allowed}
use Rattle.rows.specs.Reading.{ReadTo}
use Rattle.rows.proofs.read_on.Given as goal

-- the list is read up to i
abbrev pub invariant-loop-i : goal.invariant-loop-i
invariant-loop-i g l = ReadTo l.fn.arities (allowed l.fn.leaves l.fn.arities) (g.E.Piece.numbers l.fn.row) l.i l.due
