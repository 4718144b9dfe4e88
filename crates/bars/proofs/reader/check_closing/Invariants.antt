use Rattle.std.proofs.Common.{◌≡◌, ◌≤◌, ◌<◌, ◌∷◌, [], get_or, drop}
use Rattle.bars.specs.Bars.{closing}
use Rattle.bars.proofs.Lacking.{lacking}
use Rattle.bars.proofs.reader.check_closing.Given as goal

-- what reading finds is what reading on from position i finds, where the first `depth` numbers of `lacks` tell of the open nodes
abbrev pub invariant-loop-i : goal.invariant-loop-i
invariant-loop-i l =
    (0 < l.depth)
    × (l.depth ≤ l.i)
    × (closing l.fn.arities (get_or l.fn.lacks 0 0 ∷ []) 1 (drop 1 l.fn.bars) ≡ closing l.fn.arities (lacking l.lacks l.depth) l.i (drop l.i l.fn.bars))
