-- `catalogue_write::layout::put_entry` meets its contract. Three numbers stand side by side.
use Rattle.std.proofs.Common.{ℕ, List, ◌+◌, ◌*◌, ap, ◌∙◌}
use Rattle.rows.specs.Buffers.{written}
use Rattle.wire.specs.Wire.{bytes_of}
use Rattle.catalogue.specs.Catalogue.{halves}
use Rattle.catalogue_write.proofs.Laying.{three_written}
use Rattle.catalogue_write.proofs.layout.put_entry.Goals as goal

pub returns : goal.returns
returns c =
    let i = c.args.i in
    let e = c.args.e in
    c.put_wide-3.ensures
    ∙ ap (λ (l : List ℕ). written l (2 * (i + 4)) (bytes_of (halves e.length)))
    (c.put_wide-2.ensures ∙ ap (λ (l : List ℕ). written l (2 * (i + 2)) (bytes_of (halves e.start))) c.put_wide.ensures)
    ∙ three_written c.args.file.now i e c.requires
