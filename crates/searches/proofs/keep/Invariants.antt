-- Of the first places those that pass are written.
use Rattle.std.proofs.Common.{◌≡◌, ◌≤◌, ◌<◌, ℕ, Bool, length, get_or, take}
use Rattle.searches.specs.Searches.{Kept}
use Rattle.searches.proofs.keep.Given as goal

abbrev pub invariant-loop-p : goal.invariant-loop-p
invariant-loop-p g l =
    (l.count ≤ l.p-index)
    × ((test : ℕ → Bool) → ((i : ℕ) (r : Bool) → i < length l.places → goal.F-post g l.passes (get_or l.places i 0) r → r ≡ test (get_or l.places i 0)) → Kept test (take l.p-index l.places) l.fn.out 0 l.count l.out)
