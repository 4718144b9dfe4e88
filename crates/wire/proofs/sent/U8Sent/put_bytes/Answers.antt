use Rattle.std.proofs.Common.{ℕ, ◌∙◌, ◌*◌, sym, ap, take, arith}
use Rattle.std.proofs.lemmas.List.{length-take-le}
use Rattle.rows.specs.Buffers.{written}
use Rattle.wire.proofs.Numbers.{numbers-length, bytes_front}
use Rattle.wire.proofs.sent.U8Sent.put_bytes.Goals as goal

pub slice_bounds-copy_into-end : goal.slice_bounds-copy_into-end
slice_bounds-copy_into-end c = sym (length-take-le _ _ (omega (arith, numbers-length c.args.list.now, c.count.ensures)))

pub returns : goal.returns
returns c =
    let list = c.args.list.now in
    c.copy_into.ensures
    ∙ ap (λ (n : ℕ). written c.args.bytes.now 0 (take (2 * n) list)) c.count.ensures
    ∙ ap (written c.args.bytes.now 0) (bytes_front list (λ i. (c.type_inv.list i).fits))
