use Rattle.std.proofs.Common.{◌≡◌, length}
use Rattle.tables.proofs.Hops.{Filling}
use Rattle.tables.proofs.fill_ends.Given as goal

-- the ends are filled in from the row's place p on, and the first tree there ends at `end`; what is no number stays
abbrev pub invariant-loop-p : goal.invariant-loop-p
invariant-loop-p g l =
    Filling l.fn.arities (g.E.Piece.numbers l.fn.row) (g.E.Piece.numbers l.fn.table) (g.E.Piece.numbers l.table) l.p l.end
    × (g.E.Piece.odd l.table ≡ g.E.Piece.odd l.fn.table)
    × (length (g.E.Piece.numbers l.table) ≡ length (g.E.Piece.numbers l.fn.table))
