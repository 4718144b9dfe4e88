use Rattle.std.proofs.Common.{◌≡◌, ◌+◌, ◌≤◌, length}
use Rattle.rows.specs.Tree.{count}
use Rattle.rows.specs.Parse.{behind}
use Rattle.tables.specs.Beside.{Standing}
use Rattle.tables.proofs.Fill.{partly}
use Rattle.tables.proofs.fill_beside.Given as goal

-- the ends are filled in from the row's place p on, and those of the trees that stand there side by side are kept
abbrev pub invariant-loop-p : goal.invariant-loop-p
invariant-loop-p l =
    (l.trees + l.p ≤ length l.fn.row)
    × (l.trees ≡ count (behind l.fn.arities l.fn.row l.p))
    × (l.table ≡ partly l.fn.arities l.fn.row l.fn.table l.fn.at l.p)
    × Standing l.standing (l.fn.at + l.p) (behind l.fn.arities l.fn.row l.p)
