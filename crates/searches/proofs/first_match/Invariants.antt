-- Up to p there is no match.
use Rattle.std.proofs.Common.{◌≡◌, ◌≤◌, ◌-◌, length}
use Rattle.patterns.specs.Walk.{comes_through}
use Rattle.searches.proofs.Searching.{Clear}
use Rattle.searches.proofs.first_match.Given as goal

abbrev pub invariant-loop-p : goal.invariant-loop-p
invariant-loop-p l = (l.p ≤ length l.programme.row.now) × (length l.found ≡ 64) × Clear (comes_through l.programme.row.now l.programme.table.now l.pattern) l.p

abbrev pub decreases-loop-p : goal.decreases-loop-p
decreases-loop-p l = length l.programme.row.now - l.p
