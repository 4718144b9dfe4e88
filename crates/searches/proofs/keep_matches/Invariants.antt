-- Of the first places the matches are written; and at a place the walk that is left decides the walk from there.
use Rattle.std.proofs.Common.{◌+◌, ◌≤◌, take}
use Rattle.rows.specs.Programme.{programme_of}
use Rattle.patterns.specs.Walk.{comes_through}
use Rattle.searches.specs.Searches.{Kept}
use Rattle.searches.proofs.Going.{Walking}
use Rattle.searches.proofs.keep_matches.Given as goal

abbrev pub invariant-places : goal.invariant-places
invariant-places l =
    (l.count ≤ l.place-index)
    × Kept (comes_through l.programme.row.now l.programme.table.now l.pattern) (take l.place-index l.places) l.fn.out 0 l.count l.out

abbrev pub invariant-loop-s : goal.invariant-loop-s
invariant-loop-s l = Walking (programme_of l.programme) l.pattern l.p l.marks l.j (l.alike + l.s-index)
