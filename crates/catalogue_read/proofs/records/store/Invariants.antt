use Rattle.std.proofs.Common.{◌≡◌}
use Rattle.wire.specs.Wire.{numbers}
use Rattle.catalogue_read.specs.Records.{stored}
use Rattle.catalogue_read.proofs.records.store.Given as goal

-- the first i entries are written
abbrev pub invariant-loop-i : goal.invariant-loop-i
invariant-loop-i l = l.entries ≡ stored (numbers l.fn.file) l.i l.fn.entries
