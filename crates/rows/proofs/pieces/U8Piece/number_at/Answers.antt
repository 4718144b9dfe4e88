use Rattle.std.proofs.Common.{◌∙◌, ◌≡◌, ◌*◌, ◌+◌, get_or, arith}
use Rattle.rows.specs.Bytes.{numbers}
use Rattle.rows.proofs.Bytes.{pair_within, number_at}
use Rattle.rows.proofs.pieces.U8Piece.number_at.Goals as goal

pub returns : goal.returns
returns c =
    let list = c.args.list.now in
    let i = c.args.i in
    let number : get_or (numbers list) i 0 ≡ get_or list (2 * i) 0 + 256 * get_or list (2 * i + 1) 0 = number_at list i (pair_within list i c.requires) in
    c.from_le_bytes.ensures ∙ omega (arith, number)
