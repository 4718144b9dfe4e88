use Rattle.std.proofs.Common.{◌≡◌, ◌+◌}
use Rattle.rows.specs.Tree.{Forest, size}
use Rattle.rows.specs.Parse.{first}
use Rattle.tables.specs.Hops.{Hopping}
use Rattle.tables.proofs.hop_over.Given as goal

-- so many trees are hopped over
abbrev pub invariant-loop : goal.invariant-loop
invariant-loop g l = (f : Forest) → Hopping (g.E.Piece.numbers l.fn.table) l.fn.begin l.fn.next l.fn.children f → l.end ≡ l.fn.begin + size (first l.counter f)
