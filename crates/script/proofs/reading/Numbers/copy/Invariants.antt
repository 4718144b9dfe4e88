use Rattle.script.specs.Room.{SameRoom}
use Rattle.script.proofs.reading.Numbers.copy.Given as goal

-- The room is the one that was lent.
abbrev pub invariant-loop-value : goal.invariant-loop-value
invariant-loop-value l = SameRoom l.fn.self.room l.self.room
