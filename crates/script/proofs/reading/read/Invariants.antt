use Rattle.std.proofs.Common.{◌≤◌, ◌-◌, length}
use Rattle.script.specs.Room.{SameRoom}
use Rattle.script.proofs.reading.read.Given as goal

-- The room is the one that was lent, and the place is within the line.
abbrev pub invariant-loop-at : goal.invariant-loop-at
invariant-loop-at l = SameRoom l.initial.numbers.room l.numbers.room × (l.at ≤ length l.line)

abbrev pub decreases-loop-at : goal.decreases-loop-at
decreases-loop-at l = length l.line - l.at
