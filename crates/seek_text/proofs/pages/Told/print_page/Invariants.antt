-- The lines from number `first` up to i are printed, into the buffer that was lent.
use Rattle.std.proofs.Common.{◌≡◌}
use Rattle.seek_text.specs.Pages.{lines_of}
use Rattle.seek_text.proofs.Paging.{Paged}
use Rattle.seek_text.proofs.pages.Told.print_page.Given as goal

abbrev pub invariant-loop-i : goal.invariant-loop-i
invariant-loop-i l =
    (l.to.out.ghost_name ≡ l.initial.to.out.ghost_name)
    × Paged (lines_of l.self.response l.self.numbers.now l.self.positions.now) l.first l.initial.to.out.now l.to.out.now l.to.at l.i
