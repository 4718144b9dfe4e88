use Rattle.std.proofs.Common.{◌≡◌, ◌++◌, map, take, drop}
use Rattle.buffers.specs.Shift.{shifted}
use Rattle.buffers.proofs.shift.Given as goal

-- the numbers so far are shifted, and the others as they were
abbrev pub invariant-loop-x : goal.invariant-loop-x
invariant-loop-x l = l.x-items ≡ map (shifted l.fn.from l.fn.to) (take l.x-index l.initial.x-items) ++ drop l.x-index l.initial.x-items
