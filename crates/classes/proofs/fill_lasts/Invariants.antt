use Rattle.std.proofs.Common.{◌≡◌, ◌-◌, ◌≤◌, length}
use Rattle.rows.specs.Tree.{Forest}
use Rattle.classes.specs.Shown.{Shown}
use Rattle.classes.specs.Lasts.{Placed, Rewrote}
use Rattle.classes.proofs.fill_lasts.Given as goal

-- the entries from p on are filled in
abbrev pub invariant-loop-p : goal.invariant-loop-p
invariant-loop-p g l =
    (l.p ≤ length (g.E.Piece.numbers l.fn.row))
    × ((f : Forest) → Shown f (g.E.Piece.numbers l.fn.row) (g.E.Piece.numbers l.fn.table)
    → Placed f (g.E.Piece.numbers l.list) l.heads (length l.fn.heads - 512) l.p l.newest)
    × Rewrote (length (g.E.Piece.numbers l.fn.row)) (g.E.Piece.numbers l.fn.list) (g.E.Piece.numbers l.list)
    × (g.E.Piece.odd l.list ≡ g.E.Piece.odd l.fn.list)
