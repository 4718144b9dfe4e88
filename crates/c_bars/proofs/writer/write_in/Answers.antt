-- `c_bars::writer::write_in` meets its contract. The copy holds the numbers of what is lent.
use Rattle.std.proofs.Common.{ℕ, List, subst}
use Rattle.wire.specs.Wire.{numbers}
use Rattle.c_bars.specs.Copies.{Written}
use Rattle.c_bars.proofs.Calls.{copied}
use Rattle.c_bars.proofs.writer.write_in.Goals as goal

pub returns : goal.returns
returns g c =
    let a = c.args in
    subst (λ (l : List ℕ). Written a.arities.now l a.bars.now c.write_numbers.result c.write_numbers.new.bars)
    (copied (numbers a.row.now) _ c.decode.new.room c.count-n.result c.count-n.ensures c.decode.ensures) c.write_numbers.ensures
