use Rattle.std.proofs.Common.{◌+◌, ◌*◌, ◌≤◌}
use Rattle.decimal.specs.Printing.{Put}
use Rattle.seek_print.specs.Print.{spans_text}
use Rattle.seek_print.specs.Inside.{span_most}
use Rattle.seek_print.proofs.put_spans.Given as goal

-- The spans of the variables below v are printed.
abbrev pub invariant-loop-v : goal.invariant-loop-v
invariant-loop-v l = Put l.initial.to (spans_text l.fn.spans l.v) l.to × (l.to.at ≤ l.initial.to.at + span_most * l.v)
