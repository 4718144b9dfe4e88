use Rattle.std.proofs.Common.{◌∙◌, List, ℕ, ap, sym, get_or, arith}
use Rattle.wire.specs.Wire.{with_number}
use Rattle.wire.proofs.Numbers.{numbers-length, written_none, write_more}
use Rattle.wire.proofs.encode.Goals as goal

pub loop-i-init : goal.loop-i-init
loop-i-init c = sym (written_none _)

pub put_number-requires : goal.put_number-requires
put_number-requires c = omega (arith, numbers-length c.args.bytes.now, numbers-length c.loop-i.bytes)

pub loop-i-preserved : goal.loop-i-preserved
loop-i-preserved c =
    let a = c.args in
    let i = c.loop-i.i in
    c.put_number.ensures
    ∙ ap (λ (b : List ℕ). with_number b i (get_or a.list.now i 0)) c.loop-i.invariant
    ∙ write_more a.bytes.now a.list.now i (omega arith) (omega arith)
