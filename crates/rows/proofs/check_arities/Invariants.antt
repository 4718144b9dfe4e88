use Rattle.std.proofs.Common.{◌≡◌, ◌≤◌, length, drop}
use Rattle.rows.specs.Refusals.{arities_fit}
use Rattle.rows.proofs.check_arities.Given as goal

-- what the check says of the alphabet it says of the arities from i on
abbrev pub invariant-loop-i : goal.invariant-loop-i
invariant-loop-i l = (l.i ≤ length l.fn.arities) × (arities_fit 0 l.fn.arities ≡ arities_fit l.i (drop l.i l.fn.arities))
