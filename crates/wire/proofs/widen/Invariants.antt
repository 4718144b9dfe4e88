use Rattle.std.proofs.Common.{◌≡◌, ◌++◌, take, drop}
use Rattle.wire.proofs.widen.Given as goal

-- the first i numbers stand at the front, and what is behind them is as it was
abbrev pub invariant-loop-i : goal.invariant-loop-i
invariant-loop-i l = l.room ≡ take l.i l.fn.bytes ++ drop l.i l.fn.room
