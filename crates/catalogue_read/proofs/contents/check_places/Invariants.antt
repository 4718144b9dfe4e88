use Rattle.std.proofs.Common.{◌≡◌, ◌≤◌, ◌+◌, ◌*◌, length, drop}
use Rattle.wire.specs.Wire.{numbers}
use Rattle.catalogue.specs.Reading.{entries_of}
use Rattle.catalogue.specs.Refusals.{placed}
use Rattle.catalogue.proofs.Scan.{entries_from}
use Rattle.catalogue_read.proofs.contents.check_places.Given as goal

-- what is said is said of the entries from k on, whose rows are to follow from byte `next` on
abbrev pub invariant-loop-k : goal.invariant-loop-k
invariant-loop-k l =
    let f = l.fn.file in
    (l.next ≤ length f) × (placed (length f) 4 l.fn.first (entries_of l.fn.n (drop 2 (numbers f))) ≡ placed (length f) (4 + 12 * l.k) l.next (entries_from (numbers f) l.fn.n l.k))
