use Rattle.std.proofs.Common.{◌≡◌, take}
use Rattle.rows.specs.Buffers.{written}
use Rattle.wire.specs.Wire.{bytes_of}
use Rattle.wire.proofs.encode.Given as goal

-- the first i numbers are written to the front
abbrev pub invariant-loop-i : goal.invariant-loop-i
invariant-loop-i l = l.bytes ≡ written l.fn.bytes 0 (bytes_of (take l.i l.fn.list))
