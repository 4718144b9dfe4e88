-- `catalogue_write::layout::put_wide` meets its contract. Two halves stand side by side.
use Rattle.std.proofs.Common.{ℕ, List, [], ◌∷◌, ◌+◌, ◌*◌, ◌/◌, ap, ◌∙◌}
use Rattle.rows.specs.Buffers.{written}
use Rattle.wire.specs.Wire.{bytes_of}
use Rattle.catalogue_write.proofs.Laying.{wide-written}
use Rattle.catalogue_write.proofs.layout.put_wide.Goals as goal

pub returns : goal.returns
returns c =
    let i = c.args.i in
    c.put_half-2.ensures
    ∙ ap (λ (l : List ℕ). written l (2 * (i + 1)) (bytes_of (c.args.v / 65536 ∷ []))) c.put_half.ensures
    ∙ wide-written c.args.file.now i c.args.v c.requires
