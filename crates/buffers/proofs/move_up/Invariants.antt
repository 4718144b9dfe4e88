use Rattle.std.proofs.Common.{◌≡◌, ◌+◌, take, drop}
use Rattle.rows.specs.Buffers.{written}
use Rattle.buffers.proofs.move_up.Given as goal

-- the numbers of the part from its i-th on stand at the new place, and those before are as they were
abbrev pub invariant-loop-i : goal.invariant-loop-i
invariant-loop-i l = l.b ≡ written l.fn.b (l.fn.to + l.i) (drop l.i (take l.fn.len (drop l.fn.from l.fn.b)))
