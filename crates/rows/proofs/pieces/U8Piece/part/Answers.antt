use Rattle.std.proofs.Common.{ℕ, ◌≡◌, ◌*◌, ◌-◌, ◌∙◌, ap, take, drop, arith}
use Rattle.rows.specs.Bytes.{numbers}
use Rattle.rows.proofs.Bytes.{numbers_part}
use Rattle.rows.proofs.pieces.U8Piece.part.Goals as goal

pub returns : goal.returns
returns c =
    let a = c.args in
    let long : 2 * a.to - 2 * a.from ≡ 2 * (a.to - a.from) = omega arith in
    ap (λ (n : ℕ). numbers (take n (drop (2 * a.from) a.list.now))) long ∙ numbers_part a.list.now a.from (a.to - a.from)
