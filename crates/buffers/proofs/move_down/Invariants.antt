use Rattle.std.proofs.Common.{◌≡◌, take, drop}
use Rattle.rows.specs.Buffers.{written}
use Rattle.buffers.proofs.move_down.Given as goal

-- the first i numbers of the part stand at the new place, and the others are as they were
abbrev pub invariant-loop-i : goal.invariant-loop-i
invariant-loop-i l = l.b ≡ written l.fn.b l.fn.to (take l.i (take l.fn.len (drop l.fn.from l.fn.b)))
