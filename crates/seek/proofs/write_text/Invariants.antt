use Rattle.std.proofs.Common.{◌≡◌, ◌≤◌, ◌-◌, length, take}
use Rattle.std.specs.Io.KnownBytes.{Appends}
use Rattle.seek_text.specs.Seek.{joined}
use Rattle.seek_text.specs.Pages.{lines_of}
use Rattle.seek.proofs.write_text.Given as goal

-- Each page goes on behind the one before: the lines before the next one went out.
abbrev pub invariant-loop-first : goal.invariant-loop-first
invariant-loop-first g l =
    let ls = lines_of l.told.response l.told.numbers.now l.told.positions.now in
    (l.first ≤ l.count)
    × (l.count ≡ length ls)
    × (length l.out ≡ length l.initial.out)
    × Appends (g.W.Write.contents l.initial.to) (g.W.Write.contents l.to) (joined (take l.first ls))

abbrev pub decreases-loop-first : goal.decreases-loop-first
decreases-loop-first g l = l.count - l.first
