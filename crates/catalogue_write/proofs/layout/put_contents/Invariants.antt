use Rattle.std.proofs.Common.{◌≡◌, ◌≤◌, ◌+◌, ◌*◌, take}
use Rattle.rows.specs.Limits.{file_most}
use Rattle.rows.specs.Buffers.{written}
use Rattle.wire.specs.Wire.{bytes_of}
use Rattle.catalogue.specs.Catalogue.{contents}
use Rattle.catalogue.specs.Refusals.{total}
use Rattle.catalogue_write.specs.Laid.{laid}
use Rattle.catalogue_write.proofs.layout.put_contents.Given as goal

-- the entries of the first k rows are written, and the next row starts behind these rows
abbrev pub invariant-loop-k : goal.invariant-loop-k
invariant-loop-k l =
    (l.next ≡ l.fn.first + 2 * total (take l.k l.fn.lengths))
    × (l.next ≤ file_most)
    × (l.file ≡ written l.fn.file 4 (bytes_of (contents (laid l.fn.first (take l.k l.fn.numbers) (take l.k l.fn.lengths)))))
