use Rattle.std.proofs.Common.{◌≡◌, take}
use Rattle.rows.specs.Buffers.{written}
use Rattle.buffers.proofs.copy_into.Given as goal

-- the elements before place i are written
abbrev pub invariant-loop-i : goal.invariant-loop-i
invariant-loop-i g l = l.b ≡ written l.fn.b 0 (take l.i l.fn.v)
