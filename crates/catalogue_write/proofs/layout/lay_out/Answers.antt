-- `catalogue_write::layout::lay_out` meets its contract. The rows' bytes stand behind the front.
use Rattle.std.proofs.Common.{ℕ, List, ◌++◌, ◌+◌, ◌-◌, ◌*◌, length, take, drop, ap, ◌∙◌, arith, length-drop}
use Rattle.std.proofs.lemmas.List.{length-take-le}
use Rattle.rows.specs.Buffers.{written}
use Rattle.buffers.proofs.Written.{lent_tail}
use Rattle.wire.specs.Wire.{bytes_of}
use Rattle.catalogue_write.proofs.Laying.{size_fits, file_written}
use Rattle.catalogue_write.proofs.layout.lay_out.Goals as goal

pub slice_bounds-put_bytes-count : goal.slice_bounds-put_bytes-count
slice_bounds-put_bytes-count g c = omega (arith, size_fits _ _ _ _ c.requires.room)

pub slice_bounds-put_bytes-start : goal.slice_bounds-put_bytes-start
slice_bounds-put_bytes-start g c = omega (arith, size_fits _ _ _ _ c.requires.room)

pub put_bytes-requires : goal.put_bytes-requires
put_bytes-requires g c =
    let b = c.lay_front.new.file in
    let p = 4 + 12 * length c.args.given.numbers.now + length c.args.arities.now in
    let tail = length-take-le (length b - p) (drop p b) (omega (arith, length-drop p b)) in
    omega (arith, tail, size_fits _ _ _ _ c.requires.room)

pub returns : goal.returns
returns g c =
    let A = c.args.arities.now in
    let ns = c.args.given.numbers.now in
    let ls = c.args.given.lengths.now in
    let w = g.E.Piece.numbers c.args.given.rows.now in
    let p = 4 + 12 * length ns + length A in
    let b = c.lay_front.new.file in
    ap (λ (t : List ℕ). take p b ++ (t ++ drop (length b - p) (drop p b))) c.put_bytes.ensures
    ∙ lent_tail b p (bytes_of w)
    ∙ ap (λ (l : List ℕ). written l p (bytes_of w)) c.lay_front.ensures
    ∙ file_written A ns ls w c.args.file.now c.requires.given c.requires.room
