-- The positions below i are written.
use Rattle.std.proofs.Common.{◌≡◌}
use Rattle.rows.specs.Buffers.{written}
use Rattle.searches.specs.Searches.{positions_below}
use Rattle.searches.proofs.write_positions.Given as goal

abbrev pub invariant-loop-i : goal.invariant-loop-i
invariant-loop-i l = l.out ≡ written l.fn.out 0 (positions_below l.i)
