use Rattle.script.specs.Room.{SameRoom}
use Rattle.script.proofs.reading.Numbers.repeat.Given as goal

-- The room is the one that was lent.
abbrev pub invariant-loop : goal.invariant-loop
invariant-loop l = SameRoom l.fn.self.room l.self.room
