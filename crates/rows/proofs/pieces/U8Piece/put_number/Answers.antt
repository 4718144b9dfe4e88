use Rattle.std.proofs.Common.{ℕ, List, ◌≡◌, ◌+◌, ◌*◌, ◌∙◌, ap, get_or, set, length-set, arith}
use Rattle.rows.specs.Bytes.{numbers}
use Rattle.rows.proofs.Bytes.{pair_within, put_numbers}
use Rattle.rows.proofs.pieces.U8Piece.put_number.Goals as goal

pub bounds-list-i-2 : goal.bounds-list-i-2
bounds-list-i-2 c = simp length-set (pair_within c.args.list.now c.args.i c.requires)

pub returns-clause-put : goal.returns-clause-put
returns-clause-put c =
    let a = c.args in
    let r = c.to_le_bytes in
    let v : get_or r.result 0 0 + 256 * get_or r.result 1 0 ≡ a.v = ap (λ (l : List ℕ). get_or l 0 0 + 256 * get_or l 1 0) r.ensures ∙ omega arith in
    put_numbers a.list.now a.i (get_or r.result 0 0) (get_or r.result 1 0) c.requires ∙ ap (set (numbers a.list.now) a.i) v
