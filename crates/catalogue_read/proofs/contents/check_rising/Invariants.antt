use Rattle.std.proofs.Common.{◌≡◌, ◌≤◌, ◌+◌, ◌*◌, map, drop}
use Rattle.wire.specs.Wire.{numbers}
use Rattle.catalogue.specs.Reading.{entries_of}
use Rattle.catalogue.specs.Refusals.{rises, programme_of}
use Rattle.catalogue.proofs.Scan.{entries_from}
use Rattle.catalogue_read.proofs.contents.check_rising.Given as goal

-- what is said is said of the entries from k on
abbrev pub invariant-loop-k : goal.invariant-loop-k
invariant-loop-k l =
    let w = numbers l.fn.file in
    (l.least ≤ 4294967296) × (rises 12 4 0 (map programme_of (entries_of l.fn.n (drop 2 w))) ≡ rises 12 (4 + 12 * l.k) l.least (map programme_of (entries_from w l.fn.n l.k)))
