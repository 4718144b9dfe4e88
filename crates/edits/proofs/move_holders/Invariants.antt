use Rattle.std.proofs.Common.{◌≡◌, ◌++◌, map, take, drop}
use Rattle.edits.specs.Moved.{moved}
use Rattle.edits.proofs.move_holders.Given as goal

-- the entries so far have moved, and the others are as they were
abbrev pub invariant-loop-x : goal.invariant-loop-x
invariant-loop-x l = l.x-items ≡ map (moved l.fn.e l.fn.to) (take l.x-index l.initial.x-items) ++ drop l.x-index l.initial.x-items
