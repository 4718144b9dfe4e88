use Rattle.std.proofs.Common.{◌≡◌, take}
use Rattle.rows.specs.Buffers.{written}
use Rattle.catalogue_write.proofs.layout.put_arities.Given as goal

-- the first k arities are written
abbrev pub invariant-loop-k : goal.invariant-loop-k
invariant-loop-k l = l.file ≡ written l.fn.file l.fn.at (take l.k l.fn.arities)
