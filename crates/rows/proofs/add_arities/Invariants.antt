use Rattle.std.proofs.Common.{◌≡◌, ◌*◌, ◌≤◌}
use Rattle.rows.specs.Reading.{children}
use Rattle.rows.proofs.add_arities.Given as goal

-- the children of the first k symbols are counted
abbrev pub invariant-loop-k : goal.invariant-loop-k
invariant-loop-k g l = (l.sum ≡ children l.fn.arities (g.E.Piece.numbers l.fn.part) 0 l.k) × (l.sum ≤ 65535 * l.k)
