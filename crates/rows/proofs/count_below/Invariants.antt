use Rattle.std.proofs.Common.{◌*◌}
use Rattle.rows.specs.Reading.{BelowTo}
use Rattle.rows.proofs.count_below.Given as goal

-- the stretches so far are below the bound
abbrev pub invariant-loop-k : goal.invariant-loop-k
invariant-loop-k g l = BelowTo l.fn.bound (g.E.Piece.numbers l.fn.list) (l.k * 64)
