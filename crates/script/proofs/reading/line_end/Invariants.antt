use Rattle.std.proofs.Common.{◌≢◌, ◌≤◌, ◌<◌, ℕ, get_or}
use Rattle.script.proofs.reading.line_end.Given as goal

-- No newline stands between.
abbrev pub invariant-loop-end : goal.invariant-loop-end
invariant-loop-end l = (i : ℕ) → l.fn.from ≤ i → i < l.end → get_or l.fn.input i 0 ≢ 10
