use Rattle.std.proofs.Common.{ℕ, ◌≡◌, ◌+◌, ◌<◌, true, get_or}
use Rattle.class_checks.proofs.all_hold.Given as goal

-- it holds of each place so far, if no other is told of
abbrev pub invariant-loop-k : goal.invariant-loop-k
invariant-loop-k g l = l.other ≡ 0 → (x : ℕ) → x < l.k → goal.F-post g l.holds (get_or l.list (l.q + x) 0) (l.first + x) true
