use Rattle.std.proofs.Common.{◌≡◌, take}
use Rattle.rows.specs.Buffers.{written}
use Rattle.bars.specs.Bars.{bars_of}
use Rattle.bars.proofs.Writing.{Midway}
use Rattle.bars.proofs.writer.write_form.Given as goal

-- the form is written up to `at`, and what is left to write is told by the open nodes and the row behind p
abbrev pub invariant-loop-at : goal.invariant-loop-at
invariant-loop-at l = (l.bars ≡ written l.initial.bars 0 (take l.at (bars_of l.fn.arities l.fn.row))) × Midway l.fn.arities l.fn.row l.lacks l.depth l.p l.at
