use Rattle.std.proofs.Common.{◌≡◌, ◌++◌, ◌≤◌, ◌<◌, ◌-◌, length, drop}
use Rattle.decimal.specs.Lines.{numeral, number_most}
use Rattle.decimal.proofs.digits.Given as goal

-- The digits up to `at` make n.
abbrev pub invariant-loop-n : goal.invariant-loop-n
invariant-loop-n l = (0 < l.n) × (l.n ≤ number_most) × (numeral l.first ++ drop l.fn.next.at l.text ≡ numeral l.n ++ drop l.at l.text)

abbrev pub decreases-loop-n : goal.decreases-loop-n
decreases-loop-n l = length l.text - l.at
