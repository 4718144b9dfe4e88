use Rattle.std.proofs.Common.{◌-◌, length}
use Rattle.decimal.proofs.Lining.{Sofar}
use Rattle.decimal.proofs.read_line.Given as goal

-- The numbers so far stand in the buffer, and in the text with a space behind each.
abbrev pub invariant-loop-value : goal.invariant-loop-value
invariant-loop-value l = Sofar l.text l.initial.out l.fn.from.at l.fn.first l.out l.at l.count

abbrev pub decreases-loop-value : goal.decreases-loop-value
decreases-loop-value l = length l.text - l.at
