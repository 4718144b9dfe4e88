use Rattle.std.proofs.Common.{◌≡◌, ◌++◌, take, drop}
use Rattle.wire.specs.Wire.{numbers}
use Rattle.wire.proofs.decode.Given as goal

-- the first i numbers stand at the front, and what is behind them is as it was
abbrev pub invariant-loop-i : goal.invariant-loop-i
invariant-loop-i l = l.place-items ≡ take l.i (numbers l.fn.bytes) ++ drop l.i l.initial.place-items
