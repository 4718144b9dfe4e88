use Rattle.std.proofs.Common.{◌-◌, length}
use Rattle.bars.proofs.Copying.{Copies}
use Rattle.bars.proofs.reader.copy_symbols.Given as goal

-- n symbols of the numbers so far are copied
abbrev pub invariant-loop-n : goal.invariant-loop-n
invariant-loop-n l = Copies l.fn.bars l.fn.row l.row l.n l.i

abbrev pub decreases-loop-n : goal.decreases-loop-n
decreases-loop-n l = length l.bars - l.i
