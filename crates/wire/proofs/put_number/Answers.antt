use Rattle.std.proofs.Common.{rules}
use Rattle.wire.specs.Wire.{Bytes}
use Rattle.wire.proofs.Odd.{number_over}
use Rattle.wire.proofs.put_number.Goals as goal

pub returns : goal.returns
returns c =
    let a = c.args in
    let k = c.put_number in
    let small : Bytes a.bytes.now = λ i. search rules in
    number_over a.bytes.now k.new.list a.i a.v small (λ i. (c.type_inv.bytes i).fits) c.requires k.ensures.put k.ensures.odd
