-- Those before p that can match are counted, and stand at the front.
use Rattle.std.proofs.Common.{◌≡◌, ◌-◌, ◌≤◌, length, take}
use Rattle.searches.specs.Searches.{may_match, range, passing}
use Rattle.searches.proofs.write_candidates.Given as goal

abbrev pub invariant-loop-p : goal.invariant-loop-p
invariant-loop-p l =
    (l.many ≤ l.p - l.from) × (length l.places ≡ 64) × (take l.many l.places ≡ passing (may_match l.row l.table l.root l.size) (range l.from (l.p - l.from)))
