use Rattle.std.proofs.Common.{◌≡◌, ◌+◌, ◌-◌, ◌≤◌, get_or}
use Rattle.rows.specs.Tree.{Forest}
use Rattle.classes.specs.Shown.{Shown}
use Rattle.classes.specs.Lasts.{lasts_of}
use Rattle.classes.proofs.Signs.{Facing}
use Rattle.classes.proofs.same_last.Given as goal

-- the children before a and b have the same last places
abbrev pub invariant-loop-a : goal.invariant-loop-a
invariant-loop-a g l =
    (l.end ≡ get_or (g.E.Piece.numbers l.fn.table) l.fn.p 0)
    × (l.fn.p + 1 ≤ l.a)
    × (l.fn.p + 1 ≤ l.b)
    × ((f : Forest) → Shown f (g.E.Piece.numbers l.fn.row) (g.E.Piece.numbers l.fn.table) → Facing f (lasts_of f) l.fn.p l.fn.q l.end l.a l.b)

abbrev pub decreases-loop-a : goal.decreases-loop-a
decreases-loop-a g l = l.end - l.a
