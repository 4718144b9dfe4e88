-- `c_bars::writer::write_under` meets its contract. The copy holds the numbers of what is lent.
use Rattle.std.proofs.Common.{ℕ, List, subst}
use Rattle.wire.specs.Wire.{numbers}
use Rattle.c_bars.specs.Copies.{Written}
use Rattle.c_bars.proofs.Calls.{copied}
use Rattle.c_bars.proofs.writer.write_under.Goals as goal

pub returns : goal.returns
returns g c =
    let a = c.args in
    subst (λ (l : List ℕ). Written l (numbers a.row.now) a.bars.now c.write_sized.result c.write_sized.new.bars)
    (copied (numbers a.arities.now) _ c.decode.new.room c.count-k.result c.count-k.ensures c.decode.ensures) c.write_sized.ensures
