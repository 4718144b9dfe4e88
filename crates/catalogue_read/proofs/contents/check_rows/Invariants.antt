use Rattle.std.proofs.Common.{◌≡◌, ◌≤◌, ◌+◌, ◌*◌, length, map, drop, Ok}
use Rattle.wire.specs.Wire.{numbers}
use Rattle.catalogue.specs.Reading.{entries_of, programme_in}
use Rattle.catalogue.specs.Refusals.{placed, rows_fit}
use Rattle.catalogue.proofs.Scan.{entries_from}
use Rattle.catalogue_read.proofs.contents.check_rows.Given as goal

-- what is said is said of the rows from the k-th on, which are placed right from byte `next` on
abbrev pub invariant-loop-k : goal.invariant-loop-k
invariant-loop-k l =
    let f = l.fn.file in
    let later = entries_from (numbers f) l.fn.n l.k in
    (l.next ≤ length f)
    × (placed (length f) (4 + 12 * l.k) l.next later ≡ Ok tt)
    × (rows_fit l.fn.arities (map (programme_in f) (entries_of l.fn.n (drop 2 (numbers f)))) ≡ rows_fit l.fn.arities (map (programme_in f) later))
