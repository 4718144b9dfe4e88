use Rattle.std.proofs.Common.{◌≡◌}
use Rattle.rows.specs.Tree.{Forest, size}
use Rattle.classes.specs.Lasts.{Naming, Rewrote}
use Rattle.classes.proofs.name_all.Given as goal

-- the positions before p have their first places
abbrev pub invariant-loop-p : goal.invariant-loop-p
invariant-loop-p g l =
    ((f : Forest) → Naming f (g.E.Piece.numbers l.fn.list) 0 → size f ≡ l.fn.n
    → Naming f (g.E.Piece.numbers l.list) l.p × Rewrote l.fn.n (g.E.Piece.numbers l.fn.list) (g.E.Piece.numbers l.list))
    × (g.E.Piece.odd l.list ≡ g.E.Piece.odd l.fn.list)
