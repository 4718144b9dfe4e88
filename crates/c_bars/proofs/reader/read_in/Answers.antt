-- `c_bars::reader::read_in` meets its contract. The copy holds the numbers of what is lent.
use Rattle.std.proofs.Common.{ℕ, List, subst}
use Rattle.wire.specs.Wire.{numbers}
use Rattle.c_bars.specs.Copies.{Read}
use Rattle.c_bars.proofs.Calls.{copied}
use Rattle.c_bars.proofs.reader.read_in.Goals as goal

pub returns : goal.returns
returns g c =
    let a = c.args in
    subst (λ (l : List ℕ). Read a.arities.now l a.row.now c.read_numbers.result c.read_numbers.new.row)
    (copied (numbers a.bars.now) _ c.decode.new.room c.count-n.result c.count-n.ensures c.decode.ensures) c.read_numbers.ensures
