-- The matches before p are written.
use Rattle.std.proofs.Common.{◌≡◌, ◌≤◌, ◌-◌, length}
use Rattle.patterns.specs.Walk.{comes_through}
use Rattle.searches.specs.Searches.{range, Kept}
use Rattle.searches.proofs.write_matches.Given as goal

abbrev pub invariant-loop-p : goal.invariant-loop-p
invariant-loop-p l =
    (l.count ≤ l.p) × (l.p ≤ length l.programme.row.now) × (length l.out ≡ length l.fn.out) × Kept (comes_through l.programme.row.now l.programme.table.now l.pattern) (range 0 l.p) l.fn.out 0 l.count l.out

abbrev pub decreases-loop-p : goal.decreases-loop-p
decreases-loop-p l = length l.programme.row.now - l.p
