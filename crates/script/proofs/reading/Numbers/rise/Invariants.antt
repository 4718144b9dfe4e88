use Rattle.script.specs.Room.{SameRoom}
use Rattle.script.proofs.reading.Numbers.rise.Given as goal

-- The room is the one that was lent.
abbrev pub invariant-loop-i : goal.invariant-loop-i
invariant-loop-i l = SameRoom l.fn.self.room l.self.room
