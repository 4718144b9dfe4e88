-- The spans of the first i marks are written.
use Rattle.std.proofs.Common.{◌≡◌}
use Rattle.rows.specs.Buffers.{written}
use Rattle.searches.specs.Spans.{mark_spans}
use Rattle.searches.proofs.write_spans.Given as goal

abbrev pub invariant-loop-i : goal.invariant-loop-i
invariant-loop-i l = l.out ≡ written l.fn.out 0 (mark_spans l.table l.marks l.i)
