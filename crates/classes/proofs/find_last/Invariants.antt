use Rattle.std.proofs.Common.{ℕ, ◌+◌, ◌-◌, length, get_or, ltb}
use Rattle.rows.specs.Tree.{Forest}
use Rattle.rows.specs.Row.{pick}
use Rattle.rows.specs.Classes.{SameSign}
use Rattle.classes.specs.Shown.{Shown}
use Rattle.classes.specs.Lasts.{lasts_of, Link, Comes}
use Rattle.classes.proofs.find_last.Given as goal

-- a last place of the chain with the sign of p is still to come
abbrev pub invariant-loop-r : goal.invariant-loop-r
invariant-loop-r g l =
    ((f : Forest) → Shown f (g.E.Piece.numbers l.fn.row) (g.E.Piece.numbers l.fn.table) → Link f (l.fn.p + 1) l.r)
    × ((f : Forest) → Shown f (g.E.Piece.numbers l.fn.row) (g.E.Piece.numbers l.fn.table)
    → (q : ℕ) → Comes (g.E.Piece.numbers l.fn.list) (get_or l.fn.heads l.fn.h 0) q → SameSign f (lasts_of f) l.fn.p q → Comes (g.E.Piece.numbers l.fn.list) l.r q)

abbrev pub decreases-loop-r : goal.decreases-loop-r
decreases-loop-r g l = pick (ltb 0 l.r) (length (g.E.Piece.numbers l.fn.row) - l.r) 0
