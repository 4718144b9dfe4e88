use Rattle.std.proofs.Common.{ℕ, ◌<◌, ◌≤◌, get_or}
use Rattle.rows.proofs.largest.Given as goal

-- none of the first k numbers is above `most`
abbrev pub invariant-loop-k : goal.invariant-loop-k
invariant-loop-k g l = (j : ℕ) → j < l.k → get_or (g.E.Piece.numbers l.fn.part) j 0 ≤ l.most
