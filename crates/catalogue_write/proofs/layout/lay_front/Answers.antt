-- `catalogue_write::layout::lay_front` meets its contract. Head, contents and arities stand one behind the other.
use Rattle.std.proofs.Common.{ℕ, List, [], ◌∷◌, ◌+◌, ◌*◌, length, ap, ◌∙◌, arith}
use Rattle.rows.specs.Buffers.{written}
use Rattle.wire.specs.Wire.{bytes_of}
use Rattle.catalogue.specs.Catalogue.{contents}
use Rattle.catalogue_write.specs.Laid.{laid}
use Rattle.catalogue_write.proofs.Laying.{room_is, front-written}
use Rattle.catalogue_write.proofs.layout.lay_front.Goals as goal

pub put_half-requires : goal.put_half-requires
put_half-requires c = omega (arith, (room_is _ _ _ _ c.requires).fits)

pub put_half-requires-2 : goal.put_half-requires-2
put_half-requires-2 c = omega (arith, (room_is _ _ _ _ c.requires).fits)

pub put_contents-requires : goal.put_contents-requires
put_contents-requires c =
    let room = room_is _ _ _ _ c.requires in
    (c.requires.many, omega (arith, room.fits), omega (arith, room.size))

pub put_arities-requires : goal.put_arities-requires
put_arities-requires c = (omega (arith, (room_is _ _ _ _ c.requires).fits), c.requires.small)

pub returns : goal.returns
returns c =
    let A = c.args.arities.now in
    let ns = c.args.numbers.now in
    let ls = c.args.lengths.now in
    let at = 4 + 12 * length ns in
    c.put_arities.ensures
    ∙ ap (λ (l : List ℕ). written l at A)
    (c.put_contents.ensures
    ∙ ap (λ (l : List ℕ). written l 4 (bytes_of (contents (laid (at + length A) ns ls))))
    (c.put_half-2.ensures ∙ ap (λ (l : List ℕ). written l 2 (bytes_of (length A ∷ []))) c.put_half.ensures))
    ∙ front-written A ns ls c.args.file.now c.requires
