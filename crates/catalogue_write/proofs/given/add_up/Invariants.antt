use Rattle.std.proofs.Common.{◌≡◌, ◌≤◌, ◌+◌, ◌*◌, drop}
use Rattle.catalogue.specs.Refusals.{total}
use Rattle.catalogue_write.proofs.given.add_up.Given as goal

-- the sum so far and that of the lengths that are left are the whole
abbrev pub invariant-loop-length : goal.invariant-loop-length
invariant-loop-length l = (l.sum + total (drop l.length-index l.fn.lengths) ≡ total l.fn.lengths) × (l.sum ≤ 4294967295 * l.length-index)
