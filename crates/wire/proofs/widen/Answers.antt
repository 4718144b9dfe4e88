use Rattle.std.proofs.Common.{◌∙◌, ◌++◌, ◌≡◌, ap, length, drop, arith}
use Rattle.std.proofs.lemmas.List.{take_all}
use Rattle.buffers.proofs.Written.{written_to}
use Rattle.wire.proofs.widen.Goals as goal

pub returns : goal.returns
returns c =
    let bytes = c.args.bytes.now in
    let i = c.loop-i.i in
    let all : i ≡ length bytes = omega arith in
    c.loop-i.invariant ∙ ap (λ v. v ++ drop i c.args.room.now) (take_all i bytes (omega (arith, all))) ∙ written_to c.args.room.now bytes 0 i (omega arith)
