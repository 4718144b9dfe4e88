use Rattle.std.proofs.Common.{◌≡◌, drop}
use Rattle.rows.specs.Refusals.{some_leaf}
use Rattle.rows.proofs.check_leaf.Given as goal

-- what the check says of the alphabet it says of the arities that are left
abbrev pub invariant-loop-a : goal.invariant-loop-a
invariant-loop-a l = some_leaf l.fn.arities ≡ some_leaf (drop l.a-index l.fn.arities)
