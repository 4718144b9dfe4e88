-- `c_bars::reader::read_under` meets its contract. The copy holds the numbers of what is lent.
use Rattle.std.proofs.Common.{ℕ, List, subst}
use Rattle.wire.specs.Wire.{numbers}
use Rattle.c_bars.specs.Copies.{Read}
use Rattle.c_bars.proofs.Calls.{copied}
use Rattle.c_bars.proofs.reader.read_under.Goals as goal

pub returns : goal.returns
returns g c =
    let a = c.args in
    subst (λ (l : List ℕ). Read l (numbers a.bars.now) a.row.now c.read_sized.result c.read_sized.new.row)
    (copied (numbers a.arities.now) _ c.decode.new.room c.count-k.result c.count-k.ensures c.decode.ensures) c.read_sized.ensures
