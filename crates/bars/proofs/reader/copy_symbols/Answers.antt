-- `bars::reader::copy_symbols` meets its contract. While a symbol is left, so is a number.
use Rattle.std.proofs.Common.{◌<◌, length, arith, ◌∙◌}
use Rattle.bars.specs.Bars.{unbarred}
use Rattle.bars.proofs.Copying.{some_left, symbols_of, all_copied, a_number}
use Rattle.bars.proofs.reader.copy_symbols.Goals as goal

pub bounds-bars-i : goal.bounds-bars-i
bounds-bars-i c = some_left c.loop-n.invariant (omega (arith, c.loop-n-test.true, c.requires.0))

pub loop-n-smaller : goal.loop-n-smaller
loop-n-smaller c = omega (arith, some_left c.loop-n.invariant (omega (arith, c.loop-n-test.true, c.requires.0)))

pub loop-n-preserved : goal.loop-n-preserved
loop-n-preserved c =
    let some : c.loop-n.n < length (unbarred c.args.bars.now) = omega (arith, c.loop-n-test.true, c.requires.0) in
    a_number c.loop-n.invariant some c.requires.1 c.from-n.result (c.from-n.ensures ∙ symbols_of _)

pub returns : goal.returns
returns c = all_copied c.loop-n.invariant (omega (arith, c.loop-n-test.false, c.loop-n.invariant.few, c.requires.0))
