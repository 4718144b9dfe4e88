use Rattle.std.proofs.Common.{◌≡◌, ◌-◌, ◌<◌, get_or}
use Rattle.rows.specs.Tree.{Forest}
use Rattle.classes.specs.Shown.{Shown}
use Rattle.classes.specs.Lasts.{lasts_of, Twin}
use Rattle.classes.proofs.Signs.{Mixing, Looking}
use Rattle.classes.proofs.seek.Given as goal

-- the children before a are mixed, and none of them tells where p stands again
abbrev pub invariant-loop-a : goal.invariant-loop-a
invariant-loop-a g l =
    (l.end ≡ get_or (g.E.Piece.numbers l.fn.table) l.fn.p 0)
    × (l.fn.p < l.a)
    × (l.sign < 4294967296)
    × ((f : Forest) → Shown f (g.E.Piece.numbers l.fn.row) (g.E.Piece.numbers l.fn.table)
    → Mixing f (lasts_of f) l.fn.p l.end l.a l.sign × Looking f (Twin f l.fn.p) l.fn.p l.end l.a)

abbrev pub decreases-loop-a : goal.decreases-loop-a
decreases-loop-a g l = l.end - l.a
