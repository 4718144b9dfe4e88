-- The first i patterns are answered, and the next begins at `begin`.
use Rattle.std.proofs.Common.{◌≡◌}
use Rattle.rows.specs.Programme.{alphabet_of}
use Rattle.rows.specs.Sheet.{begin_of}
use Rattle.sheets.specs.Sheets.{AnsweredTo}
use Rattle.sheets.proofs.Sheet.answer_patterns.Given as goal

abbrev pub invariant-loop-i : goal.invariant-loop-i
invariant-loop-i l =
    (l.begin ≡ begin_of l.self.lengths.now l.i)
    × AnsweredTo (alphabet_of l.self.arities.now) l.self.programme.row.now l.self.patterns.now l.self.lengths.now l.i l.fn.out l.fn.results l.count l.out l.results
